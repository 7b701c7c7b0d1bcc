use Rattle.std.proofs.Common.{◌≡◌, true, ltb, get_or}
use Rattle.lists.specs.Words.{below}
use Rattle.arrays.specs.Phases.{good_phase}
use Rattle.phases.proofs.is_in_step.Given as goal

-- every place up to the one looked at is good
abbrev pub invariant-loop-place : goal.invariant-loop-place
invariant-loop-place l = below l.place (λ i. good_phase (ltb i l.flying) (get_or l.phases i 0)) ≡ true
