-- How the bytes of events were split between reads makes no difference to their lines. Assumes nothing.
use Prim.Native.Nat.{ℕ, ◌+◌, ◌*◌, ◌-◌, ◌≤◌}
use mathlib.Core.Path.{◌≡◌, sym, ap, ◌∙◌}
use mathlib.Core.List.{List, [], ◌∷◌, ◌++◌, append_assoc, append-nil}
use native.Mathlib.Omega.{arith}
use lib.ListN.{length, drop, length-append, length-drop}
use lib.Seq.{drop-drop, drop-append-le}
use Rattle.trace.specs.Event.{events_of, whole, Read}
use Rattle.trace.specs.Printed.{answers_to, table_after, lines_from, Place, events, lines, left, cut, finished}
use Rattle.trace.specs.Reads.{joined, more, as_read}
use Rattle.trace.proofs.EventLaws.{events_add, events-append, length-events}
use Rattle.trace.proofs.RunLaws.{lines_runs}

-- BYTES xs, and more of them ys: all whole events of xs, and then those of what is left with ys behind it
module _ (xs ys : List ℕ) where
  abbrev pub rest : List ℕ
  rest = drop (whole xs * 14) xs ++ ys

  fits : whole xs * 14 ≤ length xs
  fits = omega arith

  pub count_split : whole (xs ++ ys) ≡ whole xs + whole rest
  count_split =
      let a : length (xs ++ ys) ≡ length xs + length ys = length-append xs ys in
      let b : length rest ≡ length (drop (whole xs * 14) xs) + length ys = length-append (drop (whole xs * 14) xs) ys in
      let d : length (drop (whole xs * 14) xs) ≡ length xs - whole xs * 14 = length-drop (whole xs * 14) xs in
      omega arith

  past : drop (whole xs * 14) (xs ++ ys) ≡ rest
  past = drop-append-le (whole xs * 14) xs ys fits

  pub events_split : (v : ℕ) → events_of v (whole (xs ++ ys)) (xs ++ ys) ≡ events_of v (whole xs) xs ++ events_of v (whole rest) rest
  events_split v =
      ap (λ (k : ℕ). events_of v k (xs ++ ys)) count_split
      ∙ events_add v (whole xs) (whole rest) (xs ++ ys)
      ∙ ap (λ (l : List Read). l ++ events_of v (whole rest) (drop (whole xs * 14) (xs ++ ys))) (events-append v (whole xs) xs ys fits)
      ∙ ap (λ (l : List ℕ). events_of v (whole xs) xs ++ events_of v (whole rest) l) past

  pub rest_split : drop (whole (xs ++ ys) * 14) (xs ++ ys) ≡ drop (whole rest * 14) rest
  rest_split =
      let k : whole (xs ++ ys) * 14 ≡ whole xs * 14 + whole rest * 14 = omega (arith, count_split) in
      ap (λ (i : ℕ). drop i (xs ++ ys)) k
      ∙ sym (drop-drop (whole rest * 14) (whole xs * 14) (xs ++ ys))
      ∙ ap (drop (whole rest * 14)) past

-- A PLACE where more bytes come

lines_split : (p : Place) (ys : List ℕ) → lines (more p ys) ≡ lines p ++ lines (more (left p) ys)
unfolding lines left
lines_split p ys =
    ap (λ (es : List Read). lines_from p.number (answers_to p.table es)) (events_split p.bytes ys p.version)
    ∙ lines_runs p.number p.table (events p) (events (more (left p) ys))
    ∙ ap (λ (k : ℕ). lines_from p.number (answers_to p.table (events p)) ++ lines_from (p.number + k) (answers_to (table_after p.table (events p)) (events (more (left p) ys)))) (length-events p.version (whole p.bytes) p.bytes)

-- at the end of the input
finished_split : (p : Place) (ys : List ℕ) → finished (more p ys) ≡ lines p ++ finished (more (left p) ys)
unfolding finished left
finished_split p ys =
    let q = more (left p) ys in
    let n : p.number + whole (p.bytes ++ ys) ≡ p.number + whole p.bytes + whole q.bytes = omega (arith, count_split p.bytes ys) in
    ap (λ (l : List ℕ). l ++ cut (p.number + whole (p.bytes ++ ys)) (drop (whole (p.bytes ++ ys) * 14) (p.bytes ++ ys))) (lines_split p ys)
    ∙ ap (λ (k : ℕ). (lines p ++ lines q) ++ cut k (drop (whole (p.bytes ++ ys) * 14) (p.bytes ++ ys))) n
    ∙ ap (λ (l : List ℕ). (lines p ++ lines q) ++ cut (left q).number l) (rest_split p.bytes ys)
    ∙ append_assoc (lines p) (lines q) (cut (left q).number (left q).bytes)

-- whatever the reads are, the lines are those of all their bytes at once
pub reads_joined : (rs : List (List ℕ)) (p : Place) → as_read p rs ≡ finished (more p (joined rs))
unfolding as_read joined
reads_joined [] p = rw append-nil
reads_joined (r ∷ rs) p =
    ap (λ (l : List ℕ). lines p ++ l) (reads_joined rs (more (left p) r))
    ∙ ap (λ (l : List ℕ). lines p ++ finished (record { version = (left p).version; bytes = l; table = (left p).table; number = (left p).number })) (append_assoc (left p).bytes r (joined rs))
    ∙ sym (finished_split p (r ++ joined rs))
