-- The walk goes from the last row to the first: every row behind it has passed.
use Rattle.entries.specs.Tests.{named_row}
use Rattle.entries.proofs.AllRows.{Passed}
use Rattle.entries.proofs.requests.are_named.Given as goal

abbrev pub invariant-loop-i : goal.invariant-loop-i
invariant-loop-i g l = Passed g.row.WIDE (named_row l.known) l.rows l.count l.i
