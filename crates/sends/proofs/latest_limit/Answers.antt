use borrow.Author.Tests.{eq-eqb, ne_eqb}
use Rattle.sends.proofs.latest_limit.Goals as goal

pub returns-then-rule-eq2 : goal.returns-then-rule-eq2
returns-then-rule-eq2 c = rw (eq-eqb _ _ c.if-rule-eq2.true)

pub returns-else-rule-eq2 : goal.returns-else-rule-eq2
returns-else-rule-eq2 c = rw (ne_eqb _ _ c.if-rule-eq2.false)
