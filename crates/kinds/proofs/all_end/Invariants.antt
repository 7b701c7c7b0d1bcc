-- The next numbers of the guests passed are right.
use mathlib.Core.Path.{◌≡◌}
use mathlib.Core.Bool.{true}
use Rattle.lists.specs.Words.{below}
use Rattle.entries.specs.Kinds.{ends_at}
use Rattle.kinds.proofs.all_end.Given as goal

abbrev pub invariant-loop-g : goal.invariant-loop-g
invariant-loop-g l = below l.g (ends_at l.guests l.kind l.floors) ≡ true
