-- `arrive::arrive_new` meets its contract, by what its callees promise. Assumes nothing.
use mathlib.Core.Path.{refl, ◌∙◌}
use Rattle.table.proofs.Facts.{flight_asks}
use Rattle.enter.proofs.Settles.{flies-refused, full-refused, is_ready}
use Rattle.enter.proofs.arrive.arrive_new.Goals as goal

pub find_flight-found-requires : goal.find_flight-found-requires
find_flight-found-requires c =
    flight_asks c.args.gate c.args.guests.now c.args.waiting.now c.args.flight.now c.requires.known

pub returns-then-gate : goal.returns-then-gate
returns-then-gate c =
    let w = c.find_flight-found in record {
      enters = (full-refused c.args.gate c.args.guests.now c.args.waiting.now c.args.flight.now c.requires.known c.args.what c.args.time c.requires.timely w.result w.ensures c.in-None.is c.requires.waiting_value c.if-gate.true, refl, refl, refl);
      enters_beside = c.requires.beside;
    }

pub arrive_idle-requires : goal.arrive_idle-requires
arrive_idle-requires c =
    let w = c.find_flight-found in record {
      known = c.requires.known;
      ready = is_ready c.args.gate c.args.guests.now c.args.waiting.now c.args.flight.now c.requires.known c.args.what c.args.time c.requires.timely w.result w.ensures c.in-None.is c.requires.waiting_value c.if-gate.false;
      guest_value = c.requires.guest_value ∙ c.if-idle.true;
      beside = c.requires.beside;
    }

pub arrive_busy-requires : goal.arrive_busy-requires
arrive_busy-requires c =
    let w = c.find_flight-found in record {
      known = c.requires.known;
      ready = is_ready c.args.gate c.args.guests.now c.args.waiting.now c.args.flight.now c.requires.known c.args.what c.args.time c.requires.timely w.result w.ensures c.in-None.is c.requires.waiting_value c.if-gate.false;
      guest_value = c.requires.guest_value ∙ c.if-idle.false;
      beside = c.requires.beside;
    }

pub returns-in-Some : goal.returns-in-Some
returns-in-Some c =
    let w = c.find_flight-found in
    record {
      enters = (flies-refused c.args.gate c.args.guests.now c.args.waiting.now c.args.flight.now c.requires.known c.args.what c.args.time c.requires.timely w.result w.ensures c.in-Some.field-0 c.in-Some.is, refl, refl, refl);
      enters_beside = c.requires.beside;
    }

pub returns-then-idle : goal.returns-then-idle
returns-then-idle c = c.arrive_idle.ensures

pub returns-else-idle : goal.returns-else-idle
returns-else-idle c = c.arrive_busy.ensures
