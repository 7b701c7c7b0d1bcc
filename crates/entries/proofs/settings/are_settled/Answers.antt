-- The walk goes from the last row to the first: every row behind it has passed.
use Prim.Native.Nat.{◌-◌}
use mathlib.Core.Path.{sym, ◌∙◌}
use borrow.Author.Tests.{not-true, not-false}
use Rattle.entries.specs.Tests.{settled_row}
use Rattle.entries.proofs.RowTests.{settled_is}
use Rattle.entries.proofs.AllRows.{rows_start, rows_next, rows_fail}
use mathlib.Core.Bool.{not}
use mathlib.Core.Path.{ap}
use Rattle.entries.proofs.settings.are_settled.Goals as goal

pub loop-i-init : goal.loop-i-init
loop-i-init g c = let a = c.args in rows_start g.row.WIDE (settled_row g.row.AT) a.rows.now a.known

pub returns-then-not-is_settled : goal.returns-then-not-is_settled
returns-then-not-is_settled g c =
    let a = c.args in
    let s = c.loop-i in
    rows_fail g.row.WIDE (settled_row g.row.AT) a.rows.now a.known s.i s.invariant c.loop-i-test.true (settled_is g.row.WIDE a.rows.now (s.i - 1) g.row.AT c.requires.1 c.requires.2 ∙ sym c.is_settled.ensures ∙ not-true _ (ap not c.if-not-is_settled.true))

pub loop-i-preserved : goal.loop-i-preserved
loop-i-preserved g c =
    let a = c.args in
    let s = c.loop-i in
    rows_next g.row.WIDE (settled_row g.row.AT) a.rows.now a.known s.i s.invariant c.loop-i-test.true (settled_is g.row.WIDE a.rows.now (s.i - 1) g.row.AT c.requires.1 c.requires.2 ∙ sym c.is_settled.ensures ∙ not-false _ (ap not c.if-not-is_settled.false))
