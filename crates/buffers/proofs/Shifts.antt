-- Bytes that move to the front of a buffer: one more of them, and what stands at the front then. Assumes nothing.
use Prim.Native.Nat.{ℕ, ◌+◌, ◌-◌, ◌≤◌, ◌<◌}
use mathlib.Core.Path.{◌≡◌, sym, ap, ◌∙◌}
use mathlib.Core.List.{List}
use native.Mathlib.Omega.{arith}
use native.Mathlib.Numerals.{add-one}
use lib.ListN.{length, take, drop, set, get_or, length-drop}
use lib.Seq.{paste, paste-suc, take-paste, drop-paste, get_or-drop, take-add, drop_at, length-take-le}

-- one byte more: where it is read, nothing has moved yet
pub shift_next : (d l : List ℕ) (from n i : ℕ) → from + n ≤ length d → i < n → l ≡ paste d 0 (drop from d) i → set l i (get_or l (from + i) 0) ≡ paste d 0 (drop from d) (i + 1)
shift_next d l from n i room here e =
    let s = drop from d in
    let m : length s ≡ length d - from = length-drop from d in
    let q : get_or l (from + i) 0 ≡ get_or s i 0 =
    ap (λ (x : List ℕ). get_or x (from + i) 0) e
    ∙ ap (λ (k : ℕ). get_or (paste d 0 s i) k 0) (let r : from + i ≡ 0 + i + from = omega arith in r)
    ∙ sym (get_or-drop (0 + i) (paste d 0 s i) from 0)
    ∙ ap (λ (x : List ℕ). get_or x from 0) (drop-paste d 0 s i (omega arith) (omega arith))
    ∙ get_or-drop (0 + i) d from 0
    ∙ ap (λ (k : ℕ). get_or d k 0) (let r : 0 + i + from ≡ from + i = omega arith in r)
    ∙ sym (get_or-drop from d i 0) in
    ap (λ (v : ℕ). set l i v) q
    ∙ ap (λ (x : List ℕ). set x i (get_or s i 0)) e
    ∙ ap (λ (k : ℕ). set (paste d 0 s i) k (get_or s i 0)) (let r : i ≡ 0 + i = omega arith in r)
    ∙ paste-suc d 0 s i 0 (omega arith) (omega arith)
    ∙ ap (paste d 0 s) (sym (add-one i))

-- what stands at the front then
pub shift_front : (d : List ℕ) (from to : ℕ) → from ≤ to → to ≤ length d → take (to - from) (paste d 0 (drop from d) (to - from)) ≡ drop from (take to d)
shift_front d from to h k =
    let n = to - from in
    let m : length (drop from d) ≡ length d - from = length-drop from d in
    ap (λ (j : ℕ). take j (paste d 0 (drop from d) n)) (let r : n ≡ 0 + n = omega arith in r)
    ∙ take-paste d 0 (drop from d) n (omega arith) (omega arith)
    ∙ sym (drop_at (take from d) (take n (drop from d)) from (length-take-le from d (omega arith)))
    ∙ ap (drop from) (sym (take-add from n d))
    ∙ ap (λ (j : ℕ). drop from (take j d)) (let r : from + n ≡ to = omega arith in r)
