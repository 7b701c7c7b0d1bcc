use borrow.Author.Tests.{eq-eqb, ne_eqb}
use Rattle.trace.specs.Event.{upper_in}
use Rattle.items.proofs.upper_in.Goals as goal

pub returns-then-version-eq2 : goal.returns-then-version-eq2
unfolding upper_in
returns-then-version-eq2 c = rw (eq-eqb _ _ c.if-version-eq2.true)

pub returns-else-version-eq2 : goal.returns-else-version-eq2
unfolding upper_in
returns-else-version-eq2 c = simp (ne_eqb _ _ c.if-version-eq2.false)
