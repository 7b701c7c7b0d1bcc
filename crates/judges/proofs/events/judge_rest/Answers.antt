-- `events::judge_rest` meets its contract, with a cut event and without. Assumes nothing.
use mathlib.Core.Path.{sym, ◌∙◌}
use native.Mathlib.Omega.{arith}
use mathlib.Core.List.{[]}
use borrow.Author.Tests.{eqb-true, eqb-false}
use Rattle.judge.proofs.Going.{rest-none, rest_wrong, rest_right, rest-fits}
use Rattle.judges.proofs.events.judge_rest.Goals as goal

pub returns-then-is_empty : goal.returns-then-is_empty
returns-then-is_empty c =
    λ u. rest-none c.args.number u c.args.said.now c.args.rest.now (eqb-true _ _ (sym c.is_empty.ensures ∙ c.if-is_empty.true)) _ c.ended.ensures

pub returns-in_default : goal.returns-in_default
returns-in_default c =
    λ u. rest_wrong c.args.number u c.args.said.now c.args.rest.now (eqb-false _ _ (sym c.is_empty.ensures ∙ c.if-is_empty.false)) _ c.in_default.ensures c.wrong_at.ensures

pub slice_bounds-ended-count : goal.slice_bounds-ended-count
slice_bounds-ended-count c =
    omega (arith, rest-fits c.args.number (record { setup = record { depth = 0; capacity = 0; rule = 0 }; time = 0; guests = []; waiting = []; flight = [] }) c.args.said.now c.in-Some.long c.in-Some.ensures)

pub slice_bounds-ended-start : goal.slice_bounds-ended-start
slice_bounds-ended-start c =
    omega (arith, rest-fits c.args.number (record { setup = record { depth = 0; capacity = 0; rule = 0 }; time = 0; guests = []; waiting = []; flight = [] }) c.args.said.now c.in-Some.long c.in-Some.ensures)

pub returns : goal.returns
returns c =
    λ u. rest_right c.args.number u c.args.said.now c.args.rest.now (eqb-false _ _ (sym c.is_empty.ensures ∙ c.if-is_empty.false)) _ c.in-Some.long c.in-Some.ensures c.ended-2.ensures
