-- The line of a cut event: none where no byte is left, else one. Assumes nothing.
use Prim.Native.Nat.{ℕ, ◌+◌, ◌<◌}
use mathlib.Core.Path.{◌≡◌, refl}
use mathlib.Core.List.{List, [], ◌∷◌}
use native.Mathlib.Omega.{arith}
use lib.ListN.{length}
use Rattle.rules.specs.declared.Refusal.TheVariants.{EventCut}
use Rattle.rules.specs.declared.Answer.TheVariants.{Refused}
use Rattle.lines.specs.Line.{line_of}
use Rattle.lines.specs.Put.{Put}
use Rattle.trace.specs.Printed.{cut}

pub cut-none : (number : ℕ) (bs : List ℕ) → length bs ≡ 0 → (out : List ℕ) → Put 0 (cut number bs) out 0 out
unfolding cut
cut-none number [] h out = record { next = refl; bytes = refl }
cut-none number (b ∷ bs) h out = absurd (omega arith)

pub cut-some : (number : ℕ) (bs : List ℕ) → 0 < length bs → (out out' : List ℕ) (next : ℕ) → Put 0 (line_of (number + 1) (Refused EventCut)) out next out' → Put 0 (cut number bs) out next out'
unfolding cut
cut-some number [] h out out' next p = absurd (omega arith)
cut-some number (b ∷ bs) h out out' next p = p
