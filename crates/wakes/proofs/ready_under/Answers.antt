-- `ready_under` meets its contract: under rule 2 the limit tag, else as under rule 1. Assumes nothing.
use mathlib.Core.Path.{◌∙◌}
use Rattle.wakes.specs.Ready.{ready_2, ready_1}
use Rattle.wakes.proofs.ready_under.Goals as goal

pub returns-then-rule-eq2 : goal.returns-then-rule-eq2
returns-then-rule-eq2 c = ready_2 _ _ _ _ c.if-rule-eq2.true

pub returns-else-rule-eq2 : goal.returns-else-rule-eq2
returns-else-rule-eq2 c = c.ready_at.ensures ∙ ready_1 _ _ _ _ c.if-rule-eq2.false
