-- The bytes come back: a trace is its own move to its own version, and a move behind another is the second alone. Assumes nothing.
use Prim.Native.Nat.{ℕ, zero, suc, ◌+◌, ◌≤◌, ◌<◌}
use mathlib.Core.Path.{◌≡◌, refl, sym, ap, ◌∙◌}
use mathlib.Core.List.{List, ◌∷◌, ◌++◌, append_assoc}
use native.Mathlib.Omega.{arith}
use native.Mathlib.Nat.{add-zero, zero-add}
use lib.ListN.{length, take, drop, take-append-drop}
use lib.Seq.{drop-cons, drop-drop}
use borrow.Author.Tests.{eq-eqb, ne_eqb}
use Rattle.trace.specs.Little.{byte_at, two_at}
use Rattle.trace.specs.Header.{mark, body, version_of, guests_of, rule_in, credit_at}
use Rattle.trace.specs.Answers.{event_bytes}
use Rattle.trace.proofs.HeaderLaws.{by_version, body-one, body-two, body_grows, body-least}
use Rattle.moved.specs.Result.{rule_bytes, credit_bytes, head_to, record_to, records_to, moved_to}
use Rattle.moved.proofs.Bytes.{same_twelve, same-events, version_there}

-- A MOVE BEHIND A MOVE

module _ (u w : ℕ) (bs : List ℕ) (fits : body (version_of bs) (guests_of bs) ≤ length bs) where
  records-again : (k m : ℕ) → k + m ≤ guests_of bs → records_to u w (moved_to w bs) k m ≡ records_to u (version_of bs) bs k m
  unfolding records_to
  records-again k zero h = refl
  records-again k (suc m) h =
      λ i. (same_twelve w bs fits k (omega arith) i ++ credit_bytes u) ++ records-again (k + 1) m (omega arith) i

  -- is the second alone
  pub again : moved_to u (moved_to w bs) ≡ moved_to u bs
  unfolding moved_to
  again =
      let t = moved_to w bs in
      ap (λ (x : ℕ). head_to u bs ++ (records_to u x t 0 (guests_of bs) ++ event_bytes t)) (version_there w bs fits)
      ∙ (λ i. head_to u bs ++ (records-again 0 (guests_of bs) (omega arith) i ++ same-events w bs fits i))

-- A TRACE IS ITS OWN MOVE to its own version, where it has rule 1 and no credit

module _ (bs : List ℕ) (v : ℕ) (is : version_of bs ≡ v) (known : v < 256) (marked : take 3 bs ≡ mark) (one : rule_in v bs ≡ 1) (fits : body v (guests_of bs) ≤ length bs)
    (none : (k : ℕ) → k < guests_of bs → credit_at v bs (body v k) ≡ 0) where
  long : 9 ≤ length bs
  long = omega (arith, body-least v (guests_of bs))

  -- its first nine bytes
  nine : bs ≡ mark ++ (v ∷ 0 ∷ byte_at bs 5 ∷ byte_at bs 6 ∷ byte_at bs 7 ∷ byte_at bs 8 ∷ drop 9 bs)
  nine =
      let low : byte_at bs 3 ≡ v = omega (arith, is) in
      let high : byte_at bs 4 ≡ 0 = omega (arith, is) in
      sym (take-append-drop 3 bs)
      ∙ (λ i. marked i ++ drop 3 bs)
      ∙ ap (mark ++◌)
      (drop-cons bs 3 0 (omega (arith, long))
      ∙ (λ i. low i ∷ drop-cons bs 4 0 (omega (arith, long)) i)
      ∙ (λ i. v ∷ high i ∷ drop-cons bs 5 0 (omega (arith, long)) i)
      ∙ ap (λ (l : List ℕ). v ∷ 0 ∷ byte_at bs 5 ∷ l) (drop-cons bs 6 0 (omega (arith, long)))
      ∙ ap (λ (l : List ℕ). v ∷ 0 ∷ byte_at bs 5 ∷ byte_at bs 6 ∷ l) (drop-cons bs 7 0 (omega (arith, long)))
      ∙ ap (λ (l : List ℕ). v ∷ 0 ∷ byte_at bs 5 ∷ byte_at bs 6 ∷ byte_at bs 7 ∷ l) (drop-cons bs 8 0 (omega (arith, long))))

  -- the byte of the rule, where there is one
  ruled_byte : drop 9 bs ≡ rule_bytes v ++ drop (body v 0) bs
  unfolding rule_in
  ruled_byte =
      by_version v (λ (x : ℕ). drop 9 bs ≡ rule_bytes v ++ drop (body v 0) bs)
      (λ e.
      let b : byte_at bs 9 ≡ 1 = rw (eq-eqb v 2 e) at one in
      let l : body v 0 ≡ 10 = body-two v 0 e in
      rw (eq-eqb v 2 e, l) (drop-cons bs 9 0 (omega (arith, body_grows v 0 (guests_of bs) (omega arith))) ∙ ap (λ (x : ℕ). x ∷ drop 10 bs) b))
      (λ e. let l : body v 0 ≡ 9 = body-one v 0 e in rw (ne_eqb v 2 e, l) refl)

  -- the bytes of a credit, where there is one
  credit_bytes_lem : (k : ℕ) → k < guests_of bs → drop (body v k + 12) bs ≡ credit_bytes v ++ drop (body v (k + 1)) bs
  unfolding credit_at
  credit_bytes_lem k h =
      by_version v (λ (x : ℕ). drop (body v k + 12) bs ≡ credit_bytes v ++ drop (body v (k + 1)) bs)
      (λ e.
      let at = body v k + 12 in
      let c : two_at bs at ≡ 0 = rw (eq-eqb v 2 e) at (none k h) in
      let x : byte_at bs at ≡ 0 = omega arith in
      let y : byte_at bs (at + 1) ≡ 0 = omega arith in
      let p : suc at ≡ at + 1 = omega arith in
      let q : suc (at + 1) ≡ body v (k + 1) = omega (arith, body-two v k e, body-two v (k + 1) e) in
      let room = body_grows v (k + 1) (guests_of bs) (omega arith) in
      rw (eq-eqb v 2 e)
      (drop-cons bs at 0 (omega arith)
      ∙ (λ i. x i ∷ drop (p i) bs)
      ∙ ap (λ (l : List ℕ). 0 ∷ l) (drop-cons bs (at + 1) 0 (omega arith))
      ∙ (λ i. 0 ∷ y i ∷ drop (q i) bs)))
      (λ e. let q : body v k + 12 ≡ body v (k + 1) = omega (arith, body-one v k e, body-one v (k + 1) e) in rw (ne_eqb v 2 e, q) refl)

  -- a record
  one_record : (k : ℕ) → k < guests_of bs → drop (body v k) bs ≡ record_to v bs (body v k) ++ drop (body v (k + 1)) bs
  one_record k h =
      sym (take-append-drop 12 (drop (body v k) bs))
      ∙ ap (take 12 (drop (body v k) bs) ++◌) (drop-drop 12 (body v k) bs ∙ credit_bytes_lem k h)
      ∙ sym (append_assoc (take 12 (drop (body v k) bs)) (credit_bytes v) (drop (body v (k + 1)) bs))

  all-records : (k m : ℕ) → k + m ≤ guests_of bs → drop (body v k) bs ≡ records_to v v bs k m ++ drop (body v (k + m)) bs
  unfolding records_to
  all-records k zero h = rw add-zero refl
  all-records k (suc m) h =
      let e : k + 1 + m ≡ k + suc m = omega arith in
      one_record k (omega arith)
      ∙ ap (record_to v bs (body v k) ++◌) (all-records (k + 1) m (omega arith) ∙ ap (λ (j : ℕ). records_to v v bs (k + 1) m ++ drop (body v j) bs) e)
      ∙ sym (append_assoc (record_to v bs (body v k)) (records_to v v bs (k + 1) m) (drop (body v (k + suc m)) bs))

  -- all its bytes
  pub itself : moved_to v bs ≡ bs
  unfolding moved_to
  itself =
      let n = guests_of bs in
      let z : 0 + n ≡ n = zero-add n in
      let back : v ≡ version_of bs = sym is in
      sym
      (nine
      ∙ ap (λ (l : List ℕ). mark ++ (v ∷ 0 ∷ byte_at bs 5 ∷ byte_at bs 6 ∷ byte_at bs 7 ∷ byte_at bs 8 ∷ l)) ruled_byte
      ∙ ap (λ (l : List ℕ). head_to v bs ++ l) (all-records 0 n (omega arith) ∙ ap (λ (j : ℕ). records_to v v bs 0 n ++ drop (body v j) bs) z)
      ∙ (λ i. head_to v bs ++ (records_to v (back i) bs 0 n ++ drop (body (back i) n) bs)))
