-- What the functions that write lines cite. Assumes nothing.
use Prim.Native.Nat.{ℕ}
use mathlib.Core.Path.{◌≡◌, refl, sym, ap, ◌∙◌}
use mathlib.Core.List.{List, [], ◌∷◌, ◌++◌, append_assoc}
use Rattle.lines.specs.Line.{decimal_of, spaced}

-- the numbers of two lists, each after a space
pub spaced-append : (xs ys : List ℕ) → spaced (xs ++ ys) ≡ spaced xs ++ spaced ys
spaced-append [] ys = refl
spaced-append (x ∷ xs) ys = ap (λ (l : List ℕ). 32 ∷ (decimal_of x ++ l)) (spaced-append xs ys) ∙ sym (ap (32 ∷◌) (append_assoc (decimal_of x) (spaced xs) (spaced ys)))
