-- The bytes of a trace in another version: where each record stands there, what it says, and that the events are behind the last. Assumes nothing.
use Prim.Native.Nat.{ℕ, zero, suc, ◌+◌, ◌-◌, ◌≤◌, ◌<◌}
use mathlib.Core.Path.{◌≡◌, refl, sym, ap, ◌∙◌}
use mathlib.Core.List.{List, ◌∷◌, ◌++◌, append_assoc, append-nil}
use native.Mathlib.Omega.{arith}
use native.Mathlib.Nat.{add-zero, zero-add}
use lib.ListN.{length, take, drop, length-append, length-drop, get_or-append}
use lib.Seq.{length-take-le, take_at, drop_at, get_or-take, get_or-drop, get_or-append-add}
use borrow.Author.Tests.{eq-eqb, ne_eqb}
use Rattle.lists.specs.Words.{if◌then◌else◌}
use Rattle.trace.specs.Little.{byte_at, two_at, four_at}
use Rattle.trace.specs.Header.{is_two, body, version_of, guests_of, rule_in, rule_of, credit_at, settings_at}
use Rattle.trace.specs.Answers.{event_bytes}
use Rattle.trace.proofs.HeaderLaws.{by_version, body-one, body-two, body_grows, record_fits}
use Rattle.moved.specs.Result.{credit_bytes, head_to, record_to, records_to, moved_to}

-- HOW LONG

pub length_head : (w : ℕ) (bs : List ℕ) → length (head_to w bs) ≡ body w 0
length_head w bs =
    by_version w (λ (x : ℕ). length (head_to x bs) ≡ body x 0)
    (λ e. rw (eq-eqb w 2 e) (sym (body-two w 0 e))) (λ e. rw (ne_eqb w 2 e) (sym (body-one w 0 e)))

-- a record of the trace, in version w
pub length_record : (w k : ℕ) (bs : List ℕ) (at : ℕ) → at + 12 ≤ length bs → body w k + length (record_to w bs at) ≡ body w (k + 1)
length_record w k bs at h =
    let l : length (take 12 (drop at bs)) ≡ 12 = length-take-le 12 (drop at bs) (rw length-drop (omega arith)) in
    let m : length (record_to w bs at) ≡ length (take 12 (drop at bs)) + length (credit_bytes w) = length-append (take 12 (drop at bs)) (credit_bytes w) in
    by_version w (λ (x : ℕ). body w k + length (record_to w bs at) ≡ body w (k + 1))
    (λ e. let c : length (credit_bytes w) ≡ 2 = rw (eq-eqb w 2 e) refl in omega (arith, body-two w k e, body-two w (k + 1) e))
    (λ e. let c : length (credit_bytes w) ≡ 0 = rw (ne_eqb w 2 e) refl in omega (arith, body-one w k e, body-one w (k + 1) e))

-- THE RECORDS of a trace of version v

module _ (w v : ℕ) (bs : List ℕ) where
  -- so many records and then so many
  pub records_split : (k a b : ℕ) → records_to w v bs k (a + b) ≡ records_to w v bs k a ++ records_to w v bs (k + a) b
  unfolding records_to
  records_split k zero b = rw (zero-add, add-zero)
  records_split k (suc a) b =
      let n : suc a + b ≡ suc (a + b) = omega arith in
      let m : k + 1 + a ≡ k + suc a = omega arith in
      ap (records_to w v bs k) n
      ∙ ap (record_to w bs (body v k) ++◌) (records_split (k + 1) a b ∙ ap (λ (j : ℕ). records_to w v bs (k + 1) a ++ records_to w v bs j b) m)
      ∙ sym (append_assoc (record_to w bs (body v k)) (records_to w v bs (k + 1) a) (records_to w v bs (k + suc a) b))

  -- one record more, as a loop goes over them
  pub records-more : (k : ℕ) → records_to w v bs 0 (k + 1) ≡ records_to w v bs 0 k ++ record_to w bs (body v k)
  unfolding records_to
  records-more k =
      records_split 0 k 1
      ∙ ap (λ (l : List ℕ). records_to w v bs 0 k ++ l) (append-nil (record_to w bs (body v (0 + k))) ∙ ap (λ (j : ℕ). record_to w bs (body v j)) (zero-add k))

  -- where they stand in version w
  pub length-records : (k m : ℕ) → body v (k + m) ≤ length bs → body w k + length (records_to w v bs k m) ≡ body w (k + m)
  unfolding records_to
  length-records k zero h = rw (add-zero, add-zero)
  length-records k (suc m) h =
      let n : k + 1 + m ≡ k + suc m = omega arith in
      let one = length_record w k bs (body v k) (omega (arith, record_fits v k, body_grows v (k + 1) (k + suc m) (omega arith))) in
      let rest = length-records (k + 1) m (rw n h) in
      let both = length-append (record_to w bs (body v k)) (records_to w v bs (k + 1) m) in
      let e : body w (k + 1 + m) ≡ body w (k + suc m) = ap (body w) n in
      omega arith

-- THE WHOLE

module _ (w : ℕ) (bs : List ℕ) (fits : body (version_of bs) (guests_of bs) ≤ length bs) where
  abbrev v : ℕ
  v = version_of bs

  abbrev n : ℕ
  n = guests_of bs

  -- what stands from the record of guest k on
  pub from_record : (k : ℕ) → k ≤ n → drop (body w k) (moved_to w bs) ≡ records_to w v bs k (n - k) ++ event_bytes bs
  unfolding moved_to
  from_record k h =
      let e : n ≡ k + (n - k) = omega arith in
      let before = head_to w bs ++ records_to w v bs 0 k in
      let z : 0 + k ≡ k = zero-add k in
      let s : records_to w v bs 0 n ≡ records_to w v bs 0 k ++ records_to w v bs k (n - k)
      = ap (records_to w v bs 0) e ∙ records_split w v bs 0 k (n - k) ∙ ap (λ (j : ℕ). records_to w v bs 0 k ++ records_to w v bs j (n - k)) z in
      let l : length before ≡ body w k
      = length-append (head_to w bs) (records_to w v bs 0 k)
      ∙ ap (λ (j : ℕ). j + length (records_to w v bs 0 k)) (length_head w bs)
      ∙ length-records w v bs 0 k (rw z (omega (arith, body_grows v k n h)))
      ∙ ap (body w) z in
      ap (λ (x : List ℕ). drop (body w k) (head_to w bs ++ (x ++ event_bytes bs))) s
      ∙ ap (λ (x : List ℕ). drop (body w k) (head_to w bs ++ x)) (append_assoc (records_to w v bs 0 k) (records_to w v bs k (n - k)) (event_bytes bs))
      ∙ ap (drop (body w k)) (sym (append_assoc (head_to w bs) (records_to w v bs 0 k) (records_to w v bs k (n - k) ++ event_bytes bs)))
      ∙ drop_at before (records_to w v bs k (n - k) ++ event_bytes bs) (body w k) l

  -- behind the last record the events are
  pub events-behind : drop (body w n) (moved_to w bs) ≡ event_bytes bs
  unfolding records_to
  events-behind =
      let z : n - n ≡ 0 = omega arith in
      from_record n (omega arith) ∙ ap (λ (j : ℕ). records_to w v bs n j ++ event_bytes bs) z

  -- how long it is
  pub length_moved : length (moved_to w bs) ≡ body w n + length (event_bytes bs)
  unfolding moved_to
  length_moved =
      let z : 0 + n ≡ n = zero-add n in
      length-append (head_to w bs) (records_to w v bs 0 n ++ event_bytes bs)
      ∙ (let a = length-append (records_to w v bs 0 n) (event_bytes bs) in
      let b = length_head w bs in
      let c = length-records w v bs 0 n (rw z fits) in
      let d : body w (0 + n) ≡ body w n = ap (body w) z in
      omega arith)

  -- the record of guest k, and what follows it
  abbrev rest : ℕ → List ℕ
  rest k = records_to w v bs (k + 1) (n - suc k) ++ event_bytes bs

  pub at_record : (k : ℕ) → k < n → drop (body w k) (moved_to w bs) ≡ take 12 (drop (body v k) bs) ++ (credit_bytes w ++ rest k)
  unfolding records_to
  at_record k h =
      let e : n - k ≡ suc (n - suc k) = omega arith in
      from_record k (omega arith)
      ∙ ap (λ (j : ℕ). records_to w v bs k j ++ event_bytes bs) e
      ∙ append_assoc (record_to w bs (body v k)) (records_to w v bs (k + 1) (n - suc k)) (event_bytes bs)
      ∙ append_assoc (take 12 (drop (body v k) bs)) (credit_bytes w) (rest k)

  -- it has its twelve bytes
  twelve : (k : ℕ) → k < n → length (take 12 (drop (body v k) bs)) ≡ 12
  twelve k h = length-take-le 12 (drop (body v k) bs) (rw length-drop (omega (arith, record_fits v k, body_grows v (k + 1) n (omega arith))))

  -- which are those of the trace
  pub same_twelve : (k : ℕ) → k < n → take 12 (drop (body w k) (moved_to w bs)) ≡ take 12 (drop (body v k) bs)
  same_twelve k h = ap (take 12) (at_record k h) ∙ take_at (take 12 (drop (body v k) bs)) (credit_bytes w ++ rest k) 12 (twelve k h)

  -- a byte of it
  same_byte : (k i : ℕ) → k < n → i < 12 → byte_at (moved_to w bs) (body w k + i) ≡ byte_at bs (body v k + i)
  same_byte k i h l =
      let xs = take 12 (drop (body v k) bs) in
      sym (get_or-drop (body w k) (moved_to w bs) i 0)
      ∙ ap (λ (x : List ℕ). byte_at x i) (at_record k h)
      ∙ get_or-append xs (credit_bytes w ++ rest k) 0 i (omega (arith, twelve k h))
      ∙ get_or-take 12 (drop (body v k) bs) i 0 l
      ∙ get_or-drop (body v k) bs i 0

  same-four : (k i : ℕ) → k < n → i + 4 ≤ 12 → four_at (moved_to w bs) (body w k + i) ≡ four_at bs (body v k + i)
  same-four k i h l =
      let at : (j : ℕ) → j < 4 → byte_at (moved_to w bs) (body w k + i + j) ≡ byte_at bs (body v k + i + j)
      = λ j m.
      let p : body w k + i + j ≡ body w k + (i + j) = omega arith in
      let q : body v k + (i + j) ≡ body v k + i + j = omega arith in
      ap (byte_at (moved_to w bs)) p ∙ same_byte k (i + j) h (omega arith) ∙ ap (byte_at bs) q in
      let first : byte_at (moved_to w bs) (body w k + i) ≡ byte_at bs (body v k + i) = same_byte k i h (omega arith) in
      rw (first, at 1 (omega arith), at 2 (omega arith), at 3 (omega arith))

  -- its credit is 0
  no_credit_there : (k : ℕ) → k < n → credit_at w (moved_to w bs) (body w k) ≡ 0
  unfolding credit_at
  no_credit_there k h =
      let xs = take 12 (drop (body v k) bs) in
      let there : (j : ℕ) → byte_at (moved_to w bs) (body w k + (12 + j)) ≡ byte_at (credit_bytes w ++ rest k) j
      = λ j.
      let p : 12 + j ≡ length xs + j = omega (arith, twelve k h) in
      sym (get_or-drop (body w k) (moved_to w bs) (12 + j) 0)
      ∙ ap (λ (x : List ℕ). byte_at x (12 + j)) (at_record k h)
      ∙ ap (byte_at (xs ++ (credit_bytes w ++ rest k))) p
      ∙ get_or-append-add xs (credit_bytes w ++ rest k) j 0 in
      by_version w (λ (x : ℕ). (if is_two w then two_at (moved_to w bs) (body w k + 12) else 0) ≡ 0)
      (λ e.
      let p : body w k + 12 + 1 ≡ body w k + (12 + 1) = omega arith in
      let b : (j : ℕ) → byte_at (credit_bytes w ++ rest k) j ≡ byte_at (0 ∷ 0 ∷ rest k) j = λ j. rw (eq-eqb w 2 e) refl in
      let x : byte_at (moved_to w bs) (body w k + 12) ≡ 0 = there 0 ∙ b 0 in
      let y : byte_at (moved_to w bs) (body w k + 12 + 1) ≡ 0 = ap (byte_at (moved_to w bs)) p ∙ there 1 ∙ b 1 in
      rw (eq-eqb w 2 e, x, y) refl)
      (λ e. rw (ne_eqb w 2 e) refl)

  -- so its settings are, where the guest has no credit
  pub same-settings : (k : ℕ) → k < n → credit_at v bs (body v k) ≡ 0 → settings_at w (moved_to w bs) k ≡ settings_at v bs k
  same-settings k h none =
      let zero-w = add-zero (body w k) in
      let zero-v = add-zero (body v k) in
      let r : four_at (moved_to w bs) (body w k) ≡ four_at bs (body v k) = ap (four_at (moved_to w bs)) (sym zero-w) ∙ same-four k 0 h (omega arith) ∙ ap (four_at bs) zero-v in
      let l = same-four k 4 h (omega arith) in
      let s = same-four k 8 h (omega arith) in
      let c = no_credit_there k h ∙ sym none in
      λ i. record { reservation = r i; limit = l i; shares = s i; credit = c i }

  -- THE HEADER
  pub version_there : version_of (moved_to w bs) ≡ w
  unfolding moved_to
  version_there = add-zero w

  pub guests_there : guests_of (moved_to w bs) ≡ n
  unfolding moved_to
  guests_there = refl

  -- rule 1
  pub rule_there : rule_of (moved_to w bs) ≡ 1
  unfolding rule_in moved_to
  rule_there =
      ap (λ (x : ℕ). if is_two x then byte_at (moved_to w bs) 9 else 1) version_there
      ∙ by_version w (λ (x : ℕ). (if is_two w then byte_at (moved_to w bs) 9 else 1) ≡ 1) (λ e. rw (eq-eqb w 2 e) refl) (λ e. rw (ne_eqb w 2 e) refl)

  -- the events
  pub same-events : event_bytes (moved_to w bs) ≡ event_bytes bs
  same-events = (λ i. drop (body (version_there i) (guests_there i)) (moved_to w bs)) ∙ events-behind
