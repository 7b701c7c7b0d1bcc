-- `hears::send_in` meets its contract: the sends of `choose`, by the phase. Assumes nothing.
use mathlib.Core.Path.{sym}
use Rattle.rules.specs.declared.Phase.TheVariants.{Reservation, Weight}
use Rattle.table.specs.View.{table_of}
use Rattle.judge.proofs.Sent.{send_left}
use Rattle.hears.proofs.Besides.{sent_stood}
use Rattle.hears.proofs.send_in.Goals as goal

pub returns-in-Reservation : goal.returns-in-Reservation
returns-in-Reservation c =
    let d = c.send_by_reservation-sent in
    let q = sent_stood c.args.index.now d.new.waiting Reservation (table_of c.args.gate c.args.guests.now c.args.waiting.now c.args.flight.now) c.args.place d.result.answer d.ensures.leaves.answers in record {
      sends = rw (sym q) (send_left c.args.gate c.args.guests.now c.args.waiting.now c.args.flight.now c.requires.known c.requires.flight_lt_depth.0 c.args.place c.requires.flight_lt_depth.1 c.requires.first_of c.args.phase Reservation c.in-Reservation.is d.result _ _ _ d.ensures.leaves);
      beside_2 = rw (sym q) d.ensures.beside_2;
    }

pub returns-in-Weight : goal.returns-in-Weight
returns-in-Weight c =
    let d = c.send_by_weight-sent in
    let q = sent_stood c.args.index.now d.new.waiting Weight (table_of c.args.gate c.args.guests.now c.args.waiting.now c.args.flight.now) c.args.place d.result.answer d.ensures.leaves.answers in record {
      sends = rw (sym q) (send_left c.args.gate c.args.guests.now c.args.waiting.now c.args.flight.now c.requires.known c.requires.flight_lt_depth.0 c.args.place c.requires.flight_lt_depth.1 c.requires.first_of c.args.phase Weight c.in-Weight.is d.result _ _ _ d.ensures.leaves);
      beside_2 = rw (sym q) d.ensures.beside_2;
    }
