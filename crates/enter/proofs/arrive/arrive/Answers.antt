-- `arrive::arrive` meets its contract, by what its callees promise. Assumes nothing.
use mathlib.Core.Path.{refl, sym, ◌∙◌}
use Rattle.rules.specs.declared.Event.TheVariants.{Arrival}
use Rattle.stamps.specs.Arrive.{Timely}
use Rattle.enter.proofs.Judges.{arrival_names, unknown_guest, above_ceiling, before_last}
use Rattle.enter.proofs.Arrivals.{arrival_costly, arrival_spread}
use Rattle.enter.proofs.Settles.{waits-refused, own_repeated, own-waits, own-idle}
use Rattle.enter.proofs.Besides.{own_asks}
use Rattle.enter.proofs.arrive.arrive.Goals as goal

pub returns-then-gate-what : goal.returns-then-gate-what
returns-then-gate-what c = record {
  enters = (unknown_guest c.args.gate c.args.guests.now c.args.waiting.now c.args.flight.now c.requires.known (Arrival c.args.what c.args.time) c.args.what.guest c.args.time (arrival_names _ c.args.what c.args.time) c.if-gate-what.true, refl, refl, refl);
  enters_beside = c.requires.beside;
}

pub returns-then-time-gt-CEILING : goal.returns-then-time-gt-CEILING
returns-then-time-gt-CEILING c = record {
  enters = (above_ceiling c.args.gate c.args.guests.now c.args.waiting.now c.args.flight.now c.requires.known (Arrival c.args.what c.args.time) c.args.what.guest c.args.time (arrival_names _ c.args.what c.args.time) c.if-gate-what.false c.if-time-gt-CEILING.true, refl, refl, refl);
  enters_beside = c.requires.beside;
}

pub returns-then-time-gate : goal.returns-then-time-gate
returns-then-time-gate c = record {
  enters = (before_last c.args.gate c.args.guests.now c.args.waiting.now c.args.flight.now c.requires.known (Arrival c.args.what c.args.time) c.args.what.guest c.args.time (arrival_names _ c.args.what c.args.time) c.if-gate-what.false c.if-time-gt-CEILING.false c.if-time-gate.true, refl, refl, refl);
  enters_beside = c.requires.beside;
}

pub returns-then-not-is_fair : goal.returns-then-not-is_fair
returns-then-not-is_fair c =
    let costly = sym c.is_fair.ensures ∙ c.if-not-is_fair.true in record {
      enters = (arrival_costly c.args.gate c.args.guests.now c.args.waiting.now c.args.flight.now c.requires.known c.args.what c.args.time c.if-gate-what.false c.if-time-gt-CEILING.false c.if-time-gate.false costly, refl, refl, refl);
      enters_beside = c.requires.beside;
    }

pub returns-then-not-is_spread : goal.returns-then-not-is_spread
returns-then-not-is_spread c =
    let cheap = sym c.is_fair.ensures ∙ c.if-not-is_fair.false in
    let apart = sym c.is_spread.ensures ∙ c.if-not-is_spread.true in record {
      enters = (arrival_spread c.args.gate c.args.guests.now c.args.waiting.now c.args.flight.now c.requires.known c.args.what c.args.time c.if-gate-what.false c.if-time-gt-CEILING.false c.if-time-gate.false cheap apart, refl, refl, refl);
      enters_beside = c.requires.beside;
    }

pub own_rows-own-requires : goal.own_rows-own-requires
own_rows-own-requires c =
    let b = own_asks c.args.gate c.args.guests.now c.args.waiting.now c.args.flight.now c.requires.known c.args.what.guest c.if-gate-what.false c.requires.beside in record { count_le_most_capacity = b.0; beside = b.1 }

pub arrive_new-requires : goal.arrive_new-requires
arrive_new-requires c =
    let o = c.own_rows-own in
    let t : Timely c.args.gate c.args.what c.args.time = record { known = c.if-gate-what.false; late = c.if-time-gt-CEILING.false; early = c.if-time-gate.false; cheap = sym c.is_fair.ensures ∙ c.if-not-is_fair.false; many = sym c.is_spread.ensures ∙ c.if-not-is_spread.false } in
    let w = own-waits c.args.gate c.args.guests.now c.args.waiting.now c.args.flight.now c.requires.known c.args.what c.args.time t o.result o.ensures c.in-Waits.is in record {
      known = c.requires.known;
      timely = t;
      waiting_value = w.0;
      guest_value = w.1;
      beside = c.requires.beside;
    }

pub arrive_new-requires-in-Idle : goal.arrive_new-requires-in-Idle
arrive_new-requires-in-Idle c =
    let o = c.own_rows-own in
    let t : Timely c.args.gate c.args.what c.args.time = record { known = c.if-gate-what.false; late = c.if-time-gt-CEILING.false; early = c.if-time-gate.false; cheap = sym c.is_fair.ensures ∙ c.if-not-is_fair.false; many = sym c.is_spread.ensures ∙ c.if-not-is_spread.false } in
    let w = own-idle c.args.gate c.args.guests.now c.args.waiting.now c.args.flight.now c.requires.known c.args.what c.args.time t o.result o.ensures c.in-Idle.is in record {
      known = c.requires.known;
      timely = t;
      waiting_value = w.0;
      guest_value = w.1;
      beside = c.requires.beside;
    }

pub returns-in-Repeated : goal.returns-in-Repeated
returns-in-Repeated c =
    let o = c.own_rows-own in
    let t : Timely c.args.gate c.args.what c.args.time = record { known = c.if-gate-what.false; late = c.if-time-gt-CEILING.false; early = c.if-time-gate.false; cheap = sym c.is_fair.ensures ∙ c.if-not-is_fair.false; many = sym c.is_spread.ensures ∙ c.if-not-is_spread.false } in record {
      enters = (
        waits-refused c.args.gate c.args.guests.now c.args.waiting.now c.args.flight.now c.requires.known c.args.what c.args.time t
            (own_repeated c.args.gate c.args.guests.now c.args.waiting.now c.args.flight.now c.requires.known c.args.what c.args.time t o.result o.ensures c.in-Repeated.is),
        refl,
        refl,
        refl,
      );
      enters_beside = c.requires.beside;
    }

pub returns-in-Waits : goal.returns-in-Waits
returns-in-Waits c = c.arrive_new.ensures

pub returns-in-Idle : goal.returns-in-Idle
returns-in-Idle c = c.arrive_new-in-Idle.ensures
