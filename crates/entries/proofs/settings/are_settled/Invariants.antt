-- The walk goes from the last row to the first: every row behind it has passed.
use Rattle.entries.specs.Tests.{settled_row}
use Rattle.entries.proofs.AllRows.{Passed}
use Rattle.entries.proofs.settings.are_settled.Given as goal

abbrev pub invariant-loop-i : goal.invariant-loop-i
invariant-loop-i g l = Passed g.row.WIDE (settled_row g.row.AT) l.rows l.known l.i
