use borrow.Author.Tests.{eq-eqb, ne_eqb}
use Rattle.trace.specs.Header.{body}
use Rattle.fields.proofs.body.Goals as goal

pub returns-then-version-eq2 : goal.returns-then-version-eq2
unfolding body
returns-then-version-eq2 c = simp (eq-eqb _ _ c.if-version-eq2.true)

pub returns-else-version-eq2 : goal.returns-else-version-eq2
unfolding body
returns-else-version-eq2 c = simp (ne_eqb _ _ c.if-version-eq2.false)
