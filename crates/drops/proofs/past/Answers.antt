use native.Mathlib.Omega.{arith}
use borrow.Author.Tests.{eq-eqb, ne_eqb}
use Rattle.rules.proofs.Spacings.{cost_le}
use Rattle.drops.proofs.past.Goals as goal

pub overflow_mul-result : goal.overflow_mul-result
overflow_mul-result c =
    let a = c.args in
    let p = c.requires in
    record { fits = omega (arith, cost_le a.cost a.spacing p.1 p.2) }

pub overflow_add-result : goal.overflow_add-result
overflow_add-result c =
    let a = c.args in
    let p = c.requires in
    record { fits = omega (arith, p.0, cost_le a.cost a.spacing p.1 p.2) }

pub returns-then-owner-guest : goal.returns-then-owner-guest
returns-then-owner-guest c = simp (eq-eqb _ _ c.if-owner-guest.true)

pub returns-else-owner-guest : goal.returns-else-owner-guest
returns-else-owner-guest c = simp (ne_eqb _ _ c.if-owner-guest.false)
