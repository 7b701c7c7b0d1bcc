use native.Mathlib.Omega.{arith}
use borrow.Author.Tests.{eq-eqb, ne_eqb}
use Rattle.trace.specs.Header.{rule_in}
use Rattle.trace.proofs.HeaderLaws.{body-two}
use Rattle.fields.proofs.rule_in.Goals as goal

pub bounds-bytes-9 : goal.bounds-bytes-9
bounds-bytes-9 c = omega (arith, c.requires, body-two c.args.version 0 c.if-version-eq2.true)

pub returns-then-version-eq2 : goal.returns-then-version-eq2
unfolding rule_in
returns-then-version-eq2 c = rw (eq-eqb _ _ c.if-version-eq2.true) c.from.ensures

pub returns-else-version-eq2 : goal.returns-else-version-eq2
unfolding rule_in
returns-else-version-eq2 c = rw (ne_eqb _ _ c.if-version-eq2.false)
