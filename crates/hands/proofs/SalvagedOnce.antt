-- A salvage's answer handed on as its three numbers, beside the room and the list; and `once`: a salvage through C admits one answer, one room and one list.
-- Assumes nothing.
use Prim.Native.Nat.{ℕ}
use mathlib.Core.Path.{◌≡◌, sym, ap, ◌∙◌}
use mathlib.Core.List.{List}
use lib.ListN.{get_or}
use Rattle.salvage.specs.Salvages.{Salvaged, salvaged_shown, salvages}
use Rattle.hands.specs.Traces.{mended_of}
use Rattle.hands.specs.declared.Mended.{Mended}

-- the numbers are those that the answer shows, so they stand for it in what the salvage promises
pub handed_on_lem : (r : Mended) (m : Salvaged) (room list : List ℕ) (promised : List ℕ × List ℕ × List ℕ) → mended_of r ≡ salvaged_shown m → (salvaged_shown m, room, list) ≡ promised
    → (mended_of r, room, list) ≡ promised
handed_on_lem r m room list promised e p = (λ i. (e i, room, list)) ∙ p

-- the three numbers are the answer
at : ℕ → List ℕ → ℕ
at n l = get_or l n 0

mended_once : (r s : Mended) → mended_of r ≡ mended_of s → r ≡ s
unfolding at
mended_once r s h = λ i. record { refusal = ap (at 0) h i; bytes = ap (at 1) h i; rows = ap (at 2) h i }

-- any two outcomes that the promise of a salvage through C admits are equal
pub salvage_once : (bs room list : List ℕ) (r s : Mended) (xs ys zs ws : List ℕ) → (mended_of r, xs, zs) ≡ salvages bs room list → (mended_of s, ys, ws) ≡ salvages bs room list
    → (r ≡ s) × (xs ≡ ys) × (zs ≡ ws)
salvage_once bs room list r s xs ys zs ws p q =
    let e = p ∙ sym q in
    (mended_once r s (ap (λ (x : List ℕ × List ℕ × List ℕ). x.0) e), ap (λ (x : List ℕ × List ℕ × List ℕ). x.1) e, ap (λ (x : List ℕ × List ℕ × List ℕ). x.2) e)
