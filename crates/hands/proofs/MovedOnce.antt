-- A move's answer handed on as its three numbers, beside the room; and `once`: a move through C admits one answer and one room. Assumes nothing.
use Prim.Native.Nat.{ℕ}
use mathlib.Core.Path.{◌≡◌, sym, ap, ◌∙◌}
use mathlib.Core.List.{List}
use lib.ListN.{get_or}
use Rattle.moved.specs.Moves.{Moved, moved_shown, moves}
use Rattle.hands.specs.Traces.{three_of}
use Rattle.hands.specs.declared.Carried.{Carried}

-- the numbers are those that the answer shows, so they stand for it in what the move promises
pub handed_on_lem : (r : Carried) (m : Moved) (room : List ℕ) (promised : List ℕ × List ℕ) → three_of r ≡ moved_shown m → (moved_shown m, room) ≡ promised
    → (three_of r, room) ≡ promised
handed_on_lem r m room promised e p = (λ i. (e i, room)) ∙ p

-- the three numbers are the answer
at : ℕ → List ℕ → ℕ
at n l = get_or l n 0

three_once : (r s : Carried) → three_of r ≡ three_of s → r ≡ s
unfolding at
three_once r s h = λ i. record { refusal = ap (at 0) h i; written = ap (at 1) h i; event = ap (at 2) h i }

-- any two outcomes that the promise of a move through C admits are equal
pub trace_once : (from to : ℕ) (bs room : List ℕ) (r s : Carried) (xs ys : List ℕ) → (three_of r, xs) ≡ moves from to bs room → (three_of s, ys) ≡ moves from to bs room
    → (r ≡ s) × (xs ≡ ys)
trace_once from to bs room r s xs ys p q =
    let e = p ∙ sym q in
    (three_once r s (ap (λ (x : List ℕ × List ℕ). x.0) e), ap (λ (x : List ℕ × List ℕ). x.1) e)
