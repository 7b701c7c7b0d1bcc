-- `events::wait` meets its contract, by what its callees promise. Assumes nothing.
use mathlib.Core.Path.{refl}
use Rattle.enter.proofs.Ticks.{tick_late, tick_early}
use Rattle.enter.proofs.EventReturns.{tick_returns}
use Rattle.enter.proofs.events.wait.Goals as goal

pub returns-then-time-gt-CEILING : goal.returns-then-time-gt-CEILING
returns-then-time-gt-CEILING c =
    (tick_late c.args.gate c.args.guests.now c.args.waiting.now c.args.flight.now c.requires c.args.time c.if-time-gt-CEILING.true, refl, refl, refl)

pub returns-then-time-gate : goal.returns-then-time-gate
returns-then-time-gate c =
    (tick_early c.args.gate c.args.guests.now c.args.waiting.now c.args.flight.now c.requires c.args.time c.if-time-gt-CEILING.false c.if-time-gate.true, refl, refl, refl)

pub returns : goal.returns
returns c =
    tick_returns c.args.gate c.args.guests.now c.args.waiting.now c.args.flight.now c.requires c.args.time c.if-time-gt-CEILING.false c.if-time-gate.false _ c.timed.ensures
