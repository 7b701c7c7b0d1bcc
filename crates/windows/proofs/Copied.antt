-- A run of stores that copies a list to the front of another. Assumes nothing.
use Prim.Native.Nat.{ℕ, ◌+◌, ◌-◌, ◌≤◌, ◌<◌}
use mathlib.Core.Path.{◌≡◌, sym, ap, ◌∙◌}
use mathlib.Core.List.{List, ◌++◌}
use mathlib.Core.Logic.{⊎_elim}
use native.Mathlib.Omega.{arith}
use lib.ListN.{length, get_or, drop, length-append, length-drop, get_or-append}
use lib.Seq.{ext_get_or, get_or-append-add, get_or-drop}
use Rattle.lists.specs.Tab.{lt_or_le}
use Rattle.lists.specs.Stores.{stores, length-stores, stores_at, stores_other}

-- ys after the first n numbers of xs were stored where they stand
abbrev pub stored : (xs ys : List ℕ) (n : ℕ) → List ℕ
stored xs ys n = stores (λ k. k) (λ k. get_or xs k 0) n ys

pub copied : (xs ys : List ℕ) → length xs ≤ length ys → stored xs ys (length xs) ≡ xs ++ drop (length xs) ys
copied xs ys fit =
    ext_get_or 0 (stored xs ys (length xs)) (xs ++ drop (length xs) ys) (length-stores (λ k. k) (λ k. get_or xs k 0) ys (length xs) ∙ sym whole)
    (λ i l. ⊎_elim (front i) (behind i) (lt_or_le i (length xs)))
  where
    whole : length (xs ++ drop (length xs) ys) ≡ length ys
    whole = simp (length-append, length-drop) (omega (arith, fit))

    front : (i : ℕ) → i < length xs → get_or (stored xs ys (length xs)) i 0 ≡ get_or (xs ++ drop (length xs) ys) i 0
    front i l = stores_at (λ k. k) (λ k. get_or xs k 0) ys (λ j k m e. omega (arith, m, e)) (length xs) i l (omega (arith, l, fit)) ∙ sym (get_or-append xs (drop (length xs) ys) 0 i l)

    behind : (i : ℕ) → length xs ≤ i → get_or (stored xs ys (length xs)) i 0 ≡ get_or (xs ++ drop (length xs) ys) i 0
    behind i l =
        let q : i ≡ length xs + (i - length xs) = omega (arith, l) in
        stores_other (λ k. k) (λ k. get_or xs k 0) ys (length xs) i (λ k m e. omega (arith, l, m, e))
        ∙ ap (λ (k : ℕ). get_or ys k 0) q
        ∙ sym (get_or-drop (length xs) ys (i - length xs) 0)
        ∙ sym (get_or-append-add xs (drop (length xs) ys) (i - length xs) 0)
        ∙ ap (λ (k : ℕ). get_or (xs ++ drop (length xs) ys) k 0) (sym q)
