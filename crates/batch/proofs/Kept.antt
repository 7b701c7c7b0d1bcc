-- `untouched`: a refused batch changes nothing; and whatever is found, the answers are as long as before and the places past the last event hold what they
-- held. Assumes nothing.
use Rattle.std.specs.Prelude.{Err}
use Prim.Native.Nat.{ℕ, ◌*◌, ◌≤◌}
use mathlib.Core.Path.{◌≡◌, refl, sym, ap, ◌∙◌}
use mathlib.Core.List.{List}
use native.Mathlib.Omega.{arith}
use lib.ListN.{length, drop, length-append, length-drop}
use lib.Seq.{drop-append_seam}
use borrow.Author.Tests.{ltb-false}
use Rattle.rules.specs.Refusals.{Verdict, accept, refuse, judged, is_accept}
use Rattle.rules.specs.declared.Gate.{Gate}
use Rattle.rules.specs.declared.Refusal.{Refusal}
use Rattle.rules.proofs.Judged.{passed, number_of_some}
use Rattle.gate.specs.Promise.{Lending}
use Rattle.gate.specs.Calls.{Host}
use Rattle.batch.specs.Rows.{count_of, events_in, answer_wide, lines_of, answers_over}
use Rattle.batch.specs.Promise.{host_of, found_of, outcomes, batch_tests, batched_by, batched_in}
use Rattle.batch.proofs.Runs.{length-lines, length-outcomes, length-events}

-- where nothing stands against a batch there is room for the answers
pub accepted-room : (es bs : List ℕ) → judged (batch_tests es bs) ≡ accept → count_of es * answer_wide ≤ length bs
unfolding batch_tests
accepted-room es bs p = ltb-false (length bs) (count_of es * answer_wide) (passed (batch_tests es bs) (ap is_accept p) 16)

module _ (v : Lending) (es : List ℕ) (g : Gate) (gs : List v.Cell) (ws fs bs : List ℕ) where
  abbrev h : Host v
  h = host_of v g gs ws fs

  -- a refused batch changes nothing
  pub batch_refusal_keeps : (r : Refusal) → (batched_in v es g gs ws fs bs).0.found ≡ Err r
      → batched_in v es g gs ws fs bs ≡ (record { gate = g; found = Err r }, gs, ws, fs, bs)
  unfolding batched_in
  batch_refusal_keeps r e = go (judged (batch_tests es bs)) e
    where
      go : (w : Verdict) → (batched_by v w es h bs).0.found ≡ Err r → batched_by v w es h bs ≡ (record { gate = g; found = Err r }, gs, ws, fs, bs)
      go accept e = absurd (number_of_some r (sym (ap found_of e)))
      go (refuse s) e = λ i. (record { gate = g; found = e i }, gs, ws, fs, bs)

  -- all rows have as many numbers as the events need
  needed : length (lines_of (outcomes v h (events_in es))) ≡ count_of es * answer_wide
  needed = length-lines (outcomes v h (events_in es)) ∙ ap (◌* answer_wide) (length-outcomes v (events_in es) h ∙ length-events es)

  -- the answers are as long as before
  pub answers-length : length (batched_in v es g gs ws fs bs).4 ≡ length bs
  unfolding batched_in
  answers-length = go (judged (batch_tests es bs)) refl
    where
      go : (w : Verdict) → judged (batch_tests es bs) ≡ w → length (batched_by v w es h bs).4 ≡ length bs
      go accept p =
          let l = lines_of (outcomes v h (events_in es)) in
          length-append l (drop (length l) bs) ∙ (let r = accepted-room es bs p in let d = length-drop (length l) bs in let n = needed in omega (arith, r, d, n))
      go (refuse r) p = refl

  -- document 02, K5: "spare answer places stay unchanged", and where the whole call is refused all do
  pub answers_past : drop (count_of es * answer_wide) (batched_in v es g gs ws fs bs).4 ≡ drop (count_of es * answer_wide) bs
  unfolding batched_in
  answers_past = go (judged (batch_tests es bs))
    where
      go : (w : Verdict) → drop (count_of es * answer_wide) (batched_by v w es h bs).4 ≡ drop (count_of es * answer_wide) bs
      go accept =
          let l = lines_of (outcomes v h (events_in es)) in
          ap (λ (n : ℕ). drop n (answers_over (outcomes v h (events_in es)) bs)) (sym needed)
          ∙ drop-append_seam l (drop (length l) bs)
          ∙ ap (λ (n : ℕ). drop n bs) needed
      go (refuse r) = refl
