use Rattle.std.proofs.Common.{◌≡◌, true}
use Rattle.lists.specs.Words.{below}
use Rattle.arrays.specs.Counters.{good_row}
use Rattle.counters.proofs.is_good.Given as goal

-- every row up to the one looked at is good
abbrev pub invariant-loop-row : goal.invariant-loop-row
invariant-loop-row l = below l.row (good_row l.counters) ≡ true
