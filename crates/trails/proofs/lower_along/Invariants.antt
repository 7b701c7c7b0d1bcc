-- The loop has lowered the tags of the guest's rows before the next one; that next one is further on at each turn.
use mathlib.Core.Path.{◌≡◌}
use lib.ListN.{length}
use Rattle.index.proofs.Laws.{ahead}
use Rattle.trails.specs.Trail.{Trail}
use Rattle.trails.proofs.lower_along.Given as goal

abbrev pub invariant-loop-number : goal.invariant-loop-number
invariant-loop-number l =
    (length l.waiting ≡ length l.initial.waiting) × Trail l.guest l.fall.by l.fall.spacing l.fall.next l.initial.waiting l.count l.waiting l.after l.number

abbrev pub decreases-loop-number : goal.decreases-loop-number
decreases-loop-number l = ahead l.count l.number
