-- The promise of the judge admits one answer only. Assumes nothing.
use Prim.Native.Nat.{ℕ}
use mathlib.Core.Path.{◌≡◌, sym, ◌∙◌}
use mathlib.Core.List.{List}
use Rattle.judge.specs.Judging.{judged_of}
use Rattle.judge.specs.declared.Judged.{Judged}

pub once : (bs ls : List ℕ) (a b : Judged) → a ≡ judged_of bs ls → b ≡ judged_of bs ls → a ≡ b
once bs ls a b p q = p ∙ sym q
