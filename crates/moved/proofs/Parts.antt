-- Parts of a slice as the checker has them, `take (from + n - from) (drop from bs)`, and the few bytes that a put writes. Assumes nothing.
use Prim.Native.Nat.{ℕ, suc, ◌+◌, ◌-◌, ◌*◌, ◌≤◌}
use mathlib.Core.Path.{◌≡◌, sym, ap, ◌∙◌}
use mathlib.Core.List.{List, [], ◌∷◌}
use native.Mathlib.Omega.{arith}
use lib.ListN.{length, take, drop, length-drop}
use lib.Seq.{length-take-le, drop-cons}
use Rattle.trace.specs.Little.{byte_at}

-- a part of n bytes
pub part_is : (bs : List ℕ) (from n : ℕ) → take (from + n - from) (drop from bs) ≡ take n (drop from bs)
part_is bs from n = let e : from + n - from ≡ n = omega arith in ap (λ (k : ℕ). take k (drop from bs)) e

pub length_part : (bs : List ℕ) (from n : ℕ) → from + n ≤ length bs → length (take (from + n - from) (drop from bs)) ≡ n
length_part bs from n h = ap length (part_is bs from n) ∙ length-take-le n (drop from bs) (rw length-drop (omega arith))

-- depth, guests and capacity
pub counts_part : (bs : List ℕ) → 9 ≤ length bs → take 4 (drop 5 bs) ≡ byte_at bs 5 ∷ byte_at bs 6 ∷ byte_at bs 7 ∷ byte_at bs 8 ∷ []
counts_part bs h =
    ap (take 4)
    (drop-cons bs 5 0 (omega arith)
    ∙ ap (λ (l : List ℕ). byte_at bs 5 ∷ l) (drop-cons bs 6 0 (omega arith))
    ∙ ap (λ (l : List ℕ). byte_at bs 5 ∷ byte_at bs 6 ∷ l) (drop-cons bs 7 0 (omega arith))
    ∙ ap (λ (l : List ℕ). byte_at bs 5 ∷ byte_at bs 6 ∷ byte_at bs 7 ∷ l) (drop-cons bs 8 0 (omega arith)))

-- the bytes of an event: the first, and the thirteen behind it
pub event_part : (bs : List ℕ) (from x : ℕ) → from + 14 ≤ length bs → x ≡ byte_at bs from → take 14 (drop from bs) ≡ x ∷ take (from + 14 - (from + 1)) (drop (from + 1) bs)
event_part bs from x h e =
    let n : 13 ≡ from + 14 - (from + 1) = omega arith in
    let s : suc from ≡ from + 1 = omega arith in
    ap (take 14) (drop-cons bs from 0 (omega arith)) ∙ (λ i. sym e i ∷ take (n i) (drop (s i) bs))

-- one event more
pub events-part : (bs : List ℕ) (k : ℕ) → take ((k + 1) * 14) bs ≡ take (k * 14 + 14) bs
events-part bs k = let e : (k + 1) * 14 ≡ k * 14 + 14 = omega arith in ap (λ (n : ℕ). take n bs) e
