-- `events::complete` meets its contract, by what its callees promise. Assumes nothing.
use mathlib.Core.Path.{refl}
use native.Mathlib.Omega.{arith}
use Rattle.rules.specs.declared.Event.TheVariants.{Completion}
use Rattle.enter.proofs.Judges.{completion_names, unknown_guest, above_ceiling, before_last}
use Rattle.enter.proofs.EventReturns.{absent_is, out_asks, out_returns}
use Rattle.table.proofs.Facts.{flight_asks}
use Rattle.enter.proofs.events.complete.Goals as goal

pub returns-then-gate-which : goal.returns-then-gate-which
returns-then-gate-which c =
    (unknown_guest c.args.gate c.args.guests.now c.args.waiting.now c.args.flight.now c.requires (Completion c.args.which c.args.time) c.args.which.guest c.args.time (completion_names _ c.args.which c.args.time) c.if-gate-which.true, refl, refl, refl)

pub returns-then-time-gt-CEILING : goal.returns-then-time-gt-CEILING
returns-then-time-gt-CEILING c =
    (above_ceiling c.args.gate c.args.guests.now c.args.waiting.now c.args.flight.now c.requires (Completion c.args.which c.args.time) c.args.which.guest c.args.time (completion_names _ c.args.which c.args.time) c.if-gate-which.false c.if-time-gt-CEILING.true, refl, refl, refl)

pub returns-then-time-gate : goal.returns-then-time-gate
returns-then-time-gate c =
    (before_last c.args.gate c.args.guests.now c.args.waiting.now c.args.flight.now c.requires (Completion c.args.which c.args.time) c.args.which.guest c.args.time (completion_names _ c.args.which c.args.time) c.if-gate-which.false c.if-time-gt-CEILING.false c.if-time-gate.true, refl, refl, refl)

pub find_flight-found-requires : goal.find_flight-found-requires
find_flight-found-requires c =
    flight_asks c.args.gate c.args.guests.now c.args.waiting.now c.args.flight.now c.requires

pub take_out-requires : goal.take_out-requires
take_out-requires c =
    let f = c.find_flight-found in
    out_asks c.args.gate c.args.guests.now c.args.waiting.now c.args.flight.now c.requires c.args.time c.if-time-gt-CEILING.false c.if-time-gate.false c.args.which c.if-gate-which.false f.result f.ensures _ c.in-Some.is

pub freed-requires : goal.freed-requires
freed-requires c =
    let f = c.find_flight-found in
    omega (arith, (out_asks c.args.gate c.args.guests.now c.args.waiting.now c.args.flight.now c.requires c.args.time c.if-time-gt-CEILING.false c.if-time-gate.false c.args.which c.if-gate-which.false f.result f.ensures _ c.in-Some.is).0)

pub returns-in-Some : goal.returns-in-Some
returns-in-Some c =
    let f = c.find_flight-found in
    out_returns c.args.gate c.args.guests.now c.args.waiting.now c.args.flight.now c.requires c.args.time c.if-time-gt-CEILING.false c.if-time-gate.false c.args.which c.if-gate-which.false f.result f.ensures _ c.in-Some.is _ c.take_out.ensures _ c.freed.ensures

pub returns-in-None : goal.returns-in-None
returns-in-None c =
    let f = c.find_flight-found in
    (absent_is c.args.gate c.args.guests.now c.args.waiting.now c.args.flight.now c.requires c.args.time c.if-time-gt-CEILING.false c.if-time-gate.false c.args.which c.if-gate-which.false f.result f.ensures c.in-None.is, refl, refl, refl)
