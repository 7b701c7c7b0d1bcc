use Rattle.std.proofs.Common.{sym, ◌∙◌, arith}
use Rattle.arrays.proofs.Places.{place_at_lem, place_past}
use Rattle.phases.proofs.place_of.Goals as goal

pub returns-then-is_named-clause-place : goal.returns-then-is_named-clause-place
returns-then-is_named-clause-place c =
    let a = c.args in
    λ h. place_at_lem a.flight.now a.flying a.which c.loop-place.place c.loop-place-test.true (sym c.is_named.ensures ∙ c.if-is_named.true) c.loop-place.invariant

pub returns-clause-place : goal.returns-clause-place
returns-clause-place c =
    let a = c.args in
    λ h. place_past a.flight.now a.flying a.which (λ j k. c.loop-place.invariant j (omega (arith, k, c.loop-place-test.false)))
