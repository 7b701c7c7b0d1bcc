use native.Mathlib.Omega.{arith}
use borrow.Author.Tests.{eq-eqb, ne_eqb}
use Rattle.trace.specs.Header.{credit_at}
use Rattle.fields.proofs.credit_at.Goals as goal

pub overflow_add-at : goal.overflow_add-at
overflow_add-at c = omega (arith, c.requires.1 c.if-version-eq2.true)

pub short_at-requires : goal.short_at-requires
short_at-requires c = omega (arith, c.requires.1 c.if-version-eq2.true)

pub returns-then-version-eq2 : goal.returns-then-version-eq2
unfolding credit_at
returns-then-version-eq2 c = rw (eq-eqb _ _ c.if-version-eq2.true) c.short_at.ensures

pub returns-else-version-eq2 : goal.returns-else-version-eq2
unfolding credit_at
returns-else-version-eq2 c = rw (ne_eqb _ _ c.if-version-eq2.false)
