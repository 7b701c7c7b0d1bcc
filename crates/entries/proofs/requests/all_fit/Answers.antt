-- The walk goes from the last row to the first: every row behind it has passed.
use mathlib.Core.Path.{sym, ◌∙◌}
use borrow.Author.Tests.{not-true, not-false}
use Rattle.rules.specs.Sound.{lawful}
use Rattle.table.specs.View.{request_form}
use Rattle.entries.specs.Tests.{fits}
use Rattle.entries.proofs.AllRows.{rows_start, rows_next, rows_fail, rows_end, entries_are}
use mathlib.Core.Bool.{not}
use mathlib.Core.Path.{ap}
use Rattle.entries.proofs.requests.all_fit.Goals as goal

pub loop-i-init : goal.loop-i-init
loop-i-init c = let a = c.args in rows_start request_form.wide (λ v. fits (request_form.read v)) a.waiting.now a.count

pub returns-then-not-is_fit : goal.returns-then-not-is_fit
unfolding lawful
returns-then-not-is_fit c =
    let a = c.args in
    let s = c.loop-i in
    rows_fail request_form.wide (λ v. fits (request_form.read v)) a.waiting.now a.count s.i s.invariant c.loop-i-test.true (sym c.is_fit.ensures ∙ not-true _ (ap not c.if-not-is_fit.true)) ∙ entries_are request_form fits a.waiting.now a.count

pub loop-i-preserved : goal.loop-i-preserved
unfolding lawful
loop-i-preserved c =
    let a = c.args in
    let s = c.loop-i in
    rows_next request_form.wide (λ v. fits (request_form.read v)) a.waiting.now a.count s.i s.invariant c.loop-i-test.true (sym c.is_fit.ensures ∙ not-false _ (ap not c.if-not-is_fit.false))

pub returns : goal.returns
returns c =
    let a = c.args in
    let s = c.loop-i in
    rows_end request_form.wide (λ v. fits (request_form.read v)) a.waiting.now a.count s.i s.invariant c.loop-i-test.false ∙ entries_are request_form fits a.waiting.now a.count
