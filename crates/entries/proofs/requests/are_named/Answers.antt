-- The walk goes from the last row to the first: every row behind it has passed.
use Prim.Native.Nat.{◌-◌}
use mathlib.Core.Path.{sym, ◌∙◌}
use borrow.Author.Tests.{not-true, not-false}
use Rattle.entries.specs.Tests.{named_row}
use Rattle.entries.proofs.RowTests.{named_is}
use Rattle.entries.proofs.AllRows.{rows_start, rows_next, rows_fail}
use mathlib.Core.Bool.{not}
use mathlib.Core.Path.{ap}
use Rattle.entries.proofs.requests.are_named.Goals as goal

pub loop-i-init : goal.loop-i-init
loop-i-init g c = let a = c.args in rows_start g.row.WIDE (named_row a.known) a.rows.now a.count

pub returns-then-not-is_named : goal.returns-then-not-is_named
returns-then-not-is_named g c =
    let a = c.args in
    let s = c.loop-i in
    rows_fail g.row.WIDE (named_row a.known) a.rows.now a.count s.i s.invariant c.loop-i-test.true (named_is g.row.WIDE a.rows.now (s.i - 1) a.known c.requires.1 ∙ sym c.is_named.ensures ∙ not-true _ (ap not c.if-not-is_named.true))

pub loop-i-preserved : goal.loop-i-preserved
loop-i-preserved g c =
    let a = c.args in
    let s = c.loop-i in
    rows_next g.row.WIDE (named_row a.known) a.rows.now a.count s.i s.invariant c.loop-i-test.true (named_is g.row.WIDE a.rows.now (s.i - 1) a.known c.requires.1 ∙ sym c.is_named.ensures ∙ not-false _ (ap not c.if-not-is_named.false))
