-- The verdict on a move, test by test, and what it makes of the answer and the room. Assumes nothing.
use Prim.Native.Nat.{ℕ, zero, suc, ◌+◌, ◌-◌, ◌<◌}
use mathlib.Core.Path.{◌≡◌, refl, sym, ap, ◌∙◌}
use mathlib.Core.Bool.{Bool, true, false, false≢true}
use mathlib.Core.List.{List, [], ◌∷◌}
use native.Mathlib.Omega.{arith}
use lib.Dec.{ltb}
use lib.ListN.{length, get_or, take, drop, length-drop}
use lib.Seq.{take_all}
use borrow.Author.Tests.{lt-ltb, le-ltb, ltb-true, ne_eqb}
use Rattle.lists.specs.Words.{if◌then◌else◌, all}
use Rattle.lists.specs.WordsLaws.{both}
use Rattle.rules.specs.Answers.{number_of}
use Rattle.rules.specs.declared.Refusal.{Refusal}
use Rattle.rules.specs.declared.Refusal.TheVariants.{BadEvent, EventCut, NoWayBack, RoomShort}
use Rattle.rules.specs.Refusals.{Test, Verdict, accept, refuse, judged, is_accept}
use Rattle.rules.proofs.Judged.{number_of_some, judged_refuse, judged_accept}
use Rattle.rules.proofs.Conditions.{counted_means}
use Rattle.trace.specs.Header.{body, header_tests_for, header_by, header_for}
use Rattle.trace.specs.Answers.{event_bytes, reads_of}
use Rattle.trace.proofs.HeaderLaws.{opened_for}
use Rattle.moved.specs.Result.{moved_to}
use Rattle.moved.specs.Moves.{first_that, is_bad, is_dear, bad_in, dear_in, cut_in, reads_in, plain, body_tests, move_tests, event_in, event_number, event_at, moved_shown, refused_by, room_for, answer_by, room_by}
use Rattle.moved.specs.Judging.{Surveyed as Surveys, Headed}
use Rattle.moved.specs.declared.Stopped.{Stopped}
use Rattle.std.specs.Prelude.{Ok, Err, Option}
use Rattle.std.specs.declared.num.NonZeroU64.{NonZeroU64}
use Rattle.trace.specs.Event.{Read}
use Rattle.trace.specs.declared.Opened.{Opened}

-- TESTS BEHIND TESTS

-- what is so of the refusals of all tests is so of the one that is given
of-all : (p : Refusal → Bool) (cs : List Test) → all (λ c. p c.refusal) cs ≡ true → (r : Refusal) → judged cs ≡ refuse r → p r ≡ true
of-all p [] h r e = absurd (false≢true (sym (ap is_accept e)))
of-all p (c ∷ cs) h r e = go c.holds (of-all p cs (both (p c.refusal) (all (λ c. p c.refusal) cs) h).1 r) e
  where
    why : Verdict → Bool
    why accept = true
    why (refuse s) = p s

    go : (b : Bool) → (judged cs ≡ refuse r → p r ≡ true) → (if b then refuse c.refusal else judged cs) ≡ refuse r → p r ≡ true
    go true i e = sym (ap why e) ∙ (both (p c.refusal) (all (λ c. p c.refusal) cs) h).0
    go false i e = i e

-- THE EVENT

-- the number of the event of a number is that number
pub number_at : (n : ℕ) → event_number (event_at n) ≡ n
number_at zero = refl
number_at (suc n) = refl

-- a refusal that names the event of the verdict shows what the verdict does
pub shown_by : (v : Verdict) (to : ℕ) (bs : List ℕ) (r : Refusal) (s : Stopped) → v ≡ refuse r → s.why ≡ r → event_number s.event ≡ event_in bs r
    → moved_shown (Err s) ≡ moved_shown (answer_by v to bs)
shown_by v to bs r s e w n =
    (λ i. number_of (w i) ∷ 0 ∷ (n ∙ sym (number_at (event_in bs r))) i ∷ [])
    ∙ sym (ap (λ (x : Verdict). moved_shown (answer_by x to bs)) e)

-- A BAD HEADER

-- its number is below 14, so no event gave it
header_number : (from to : ℕ) (bs : List ℕ) (r : Refusal) → judged (header_tests_for from to bs) ≡ refuse r → number_of r < 14
unfolding header_tests_for
header_number from to bs r e = ltb-true (number_of r) 14 (of-all (λ s. ltb (number_of s) 14) (header_tests_for from to bs) refl r e)

-- the verdict that a header shows
pub header_verdict : (from to : ℕ) (bs : List ℕ) (r : Refusal) → header_for from to bs ≡ Err r → judged (header_tests_for from to bs) ≡ refuse r
header_verdict from to bs r h = go (judged (header_tests_for from to bs)) refl
  where
    go : (v : Verdict) → judged (header_tests_for from to bs) ≡ v → judged (header_tests_for from to bs) ≡ refuse r
    go accept e = let q : header_by accept bs ≡ Err r = rw e at h in let z : ◌≡◌ {A = ℕ} 0 1 = cc in absurd (omega arith)
    go (refuse s) e = let q : Err s ≡ Err r = rw e at h in let z : s ≡ r = cc in e ∙ ap refuse z

pub header_refused : (from to : ℕ) (bs : List ℕ) (room : ℕ) (r : Refusal) → header_for from from bs ≡ Err r
    → Err (refused_by r) ≡ answer_by (judged (move_tests from to bs room)) to bs
header_refused from to bs room r h =
    let e = header_verdict from from bs r h in
    let small = header_number from from bs r e in
    let none : event_in bs r ≡ 0
    = rw (ne_eqb (number_of r) 14 (λ z. omega arith), ne_eqb (number_of r) 15 (λ z. omega arith), ne_eqb (number_of r) 19 (λ z. omega arith)) refl in
    ap (λ (k : ℕ). Err (record { why = r; event = event_at k })) (sym none) ∙ sym (ap (λ (v : Verdict). answer_by v to bs) (judged_refuse (header_tests_for from from bs) (body_tests to bs room) r e))

-- A GOOD HEADER

pub header_accepts : (from to : ℕ) (bs : List ℕ) (o : Opened) → header_for from to bs ≡ Ok o → judged (header_tests_for from to bs) ≡ accept
header_accepts from to bs o h = go (judged (header_tests_for from to bs)) refl
  where
    go : (w : Verdict) → judged (header_tests_for from to bs) ≡ w → judged (header_tests_for from to bs) ≡ accept
    go accept e = e
    go (refuse s) e = let q : Err s ≡ Ok o = rw e at h in let z : ◌≡◌ {A = ℕ} 0 1 = cc in absurd (omega arith)

pub header_headed : (from : ℕ) (bs : List ℕ) (h : Opened) → header_for from from bs ≡ Ok h → Headed h.version h.guests h.rule bs
header_headed from bs h e =
    let o = opened_for from from bs h e in
    record {
      version_is = o.version_is;
      guests_is = o.guests_is;
      rule_is = o.rule_is;
      few = omega (arith, ((counted_means h.depth h.guests h.capacity).holds.0 o.counts).guest-count.1);
      whole = o.whole;
    }

-- then what stands behind it decides
pub behind_header : (from to : ℕ) (bs : List ℕ) (room : ℕ) (o : Opened) → header_for from from bs ≡ Ok o → judged (move_tests from to bs room) ≡ judged (body_tests to bs room)
behind_header from to bs room o h = judged_accept (header_tests_for from from bs) (body_tests to bs room) (header_accepts from from bs o h)

-- the bytes of the events, as a part of the trace
pub rest_is : (v n r : ℕ) (bs : List ℕ) → Headed v n r bs → (at : ℕ) → at ≡ body v n → take (length bs - at) (drop at bs) ≡ event_bytes bs
rest_is v n r bs h at e =
    take_all (length bs - at) (drop at bs) (omega (arith, length-drop at bs))
    ∙ ap (λ (k : ℕ). drop k bs) e
    ∙ (λ i. drop (body (h.version_is i) (h.guests_is i)) bs)

-- the events were looked at: the first bad one, and where there is none, the first arrival of another cost; 0 where none is bad, or of another cost
pub record Surveyed (rs : List Read) (bad dear : ℕ) : Type 0 where
  pub bad_is : bad ≡ first_that is_bad 0 rs
  pub dear_is : bad ≡ 0 → dear ≡ first_that is_dear 0 rs

-- a survey that finds none bad tells this
pub surveyed_good : (rs : List Read) (dear : Option NonZeroU64) → Surveys rs (Ok dear) → Surveyed rs 0 (event_number dear)
surveyed_good rs dear s = record { bad_is = sym s.0; dear_is = λ _. s.1 }

-- and so does one that is refused
pub surveyed_bad : (rs : List Read) (s : Stopped) (dear : ℕ) → Surveys rs (Err s) → Surveyed rs (event_number s.event) dear
surveyed_bad rs s dear x = record { bad_is = x.2; dear_is = λ z. absurd (omega (arith, x.1, z)) }

-- what a survey of them says
module _ (v n r : ℕ) (bs : List ℕ) (h : Headed v n r bs) (at : ℕ) (e : at ≡ body v n) (bad dear : ℕ) (s : Surveyed (reads_of v (take (length bs - at) (drop at bs))) bad dear) where
  pub bad_is : bad ≡ bad_in bs
  bad_is = s.bad_is ∙ (λ i. first_that is_bad 0 (reads_of (h.version_is i) (rest_is v n r bs h at e i)))

  pub dear_is : bad ≡ 0 → dear ≡ dear_in bs
  dear_is z = s.dear_is z ∙ (λ i. first_that is_dear 0 (reads_of (h.version_is i) (rest_is v n r bs h at e i)))

-- the events, as they are read from there
module _ (v n r : ℕ) (bs : List ℕ) (h : Headed v n r bs) (at : ℕ) (e : at ≡ body v n) where
  pub rest-reads : reads_of v (take (length bs - at) (drop at bs)) ≡ reads_in bs
  rest-reads = λ i. reads_of (h.version_is i) (rest_is v n r bs h at e i)

  pub rest_long : length bs - at ≡ length (event_bytes bs)
  rest_long = sym (length-drop at bs) ∙ ap length (sym (take_all (length bs - at) (drop at bs) (omega (arith, length-drop at bs))) ∙ rest_is v n r bs h at e)

-- THE VERDICT behind a good header
module _ (to : ℕ) (bs : List ℕ) (room : ℕ) where
  abbrev verdict : Verdict
  verdict = judged (body_tests to bs room)

  pub body_bad : 0 < bad_in bs → verdict ≡ refuse BadEvent
  unfolding body_tests
  body_bad h = rw (lt-ltb 0 (bad_in bs) h) refl

  module _ (good : bad_in bs ≡ 0) where
    a : ltb 0 (bad_in bs) ≡ false
    a = le-ltb 0 (bad_in bs) (omega (arith, good))

    pub body-cut : 0 < cut_in bs → verdict ≡ refuse EventCut
    unfolding body_tests
    body-cut h = rw (a, lt-ltb 0 (cut_in bs) h) refl

    module _ (uncut : cut_in bs ≡ 0) where
      b : ltb 0 (cut_in bs) ≡ false
      b = le-ltb 0 (cut_in bs) (omega (arith, uncut))

      pub body_dear : plain bs ≡ false → verdict ≡ refuse NoWayBack
      unfolding body_tests
      body_dear h = rw (a, b, h) refl

      -- the last test: the room
      pub body-room : plain bs ≡ true → (head events : ℕ) → head + events ≡ length (moved_to to bs) → room_for head events room ≡ answer_by verdict to bs
      unfolding body_tests
      body-room h head events e = go (ltb room (length (moved_to to bs))) refl
        where
          go : (x : Bool) → ltb room (length (moved_to to bs)) ≡ x → room_for head events room ≡ answer_by verdict to bs
          go true x =
              let short : verdict ≡ refuse RoomShort = rw (a, b, h, x) refl in
              let says : room_for head events room ≡ Err (refused_by RoomShort) = rw (ap (ltb room) e ∙ x) refl in
              says ∙ sym (ap (λ (v : Verdict). answer_by v to bs) short)
          go false x =
              let fine : verdict ≡ accept = rw (a, b, h, x) refl in
              let says : room_for head events room ≡ Ok (head + events) = rw (ap (ltb room) e ∙ x) refl in
              says ∙ ap Ok e ∙ sym (ap (λ (v : Verdict). answer_by v to bs) fine)

-- THE ANSWER AND THE ROOM by a verdict

-- bytes are written only where it accepts
pub shown-written : (v : Verdict) (to : ℕ) (bs : List ℕ) (n : ℕ) → moved_shown (Ok n) ≡ moved_shown (answer_by v to bs) → v ≡ accept
shown-written accept to bs n e = refl
shown-written (refuse r) to bs n e = absurd (number_of_some r (sym (ap (λ (l : List ℕ). get_or l 0 0) e)))

-- and a refusal leaves the room
pub shown-refused : (v : Verdict) (to : ℕ) (bs room : List ℕ) (s : Stopped) → moved_shown (Err s) ≡ moved_shown (answer_by v to bs) → room_by v to bs room ≡ room
shown-refused accept to bs room s e = absurd (number_of_some s.why (ap (λ (l : List ℕ). get_or l 0 0) e))
shown-refused (refuse r) to bs room s e = refl
