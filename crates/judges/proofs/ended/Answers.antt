-- `ended` meets its contract, with bytes left and without. Assumes nothing.
use mathlib.Core.Path.{sym, ◌∙◌}
use borrow.Author.Tests.{eqb-true, eqb-false}
use Rattle.judge.proofs.Going.{ended-none, ended_some}
use Rattle.judges.proofs.ended.Goals as goal

pub returns-then-is_empty : goal.returns-then-is_empty
returns-then-is_empty c = ended-none c.args.line c.args.said.now (eqb-true _ _ (sym c.is_empty.ensures ∙ c.if-is_empty.true))

pub returns : goal.returns
returns c = ended_some c.args.line c.args.said.now (eqb-false _ _ (sym c.is_empty.ensures ∙ c.if-is_empty.false))
