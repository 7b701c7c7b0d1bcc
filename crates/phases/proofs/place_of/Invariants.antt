use Rattle.std.proofs.Common.{◌≡◌, false, ℕ, ◌<◌}
use Rattle.rules.specs.Tables.{same}
use Rattle.arrays.specs.Steps.{name_at}
use Rattle.phases.proofs.place_of.Given as goal

-- no place up to the one looked at has the name
abbrev pub invariant-loop-place : goal.invariant-loop-place
invariant-loop-place l = (j : ℕ) → j < l.place → same l.which (name_at l.flight j) ≡ false
