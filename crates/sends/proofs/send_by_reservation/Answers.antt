-- `send_by_reservation` meets its contract, by what the send does to the rows and their index. Assumes nothing.
use mathlib.Core.Path.{◌∙◌}
use native.Mathlib.Omega.{arith}
use Rattle.rules.specs.declared.Phase.TheVariants.{Reservation}
use Rattle.index.proofs.Laws.{stands_sent}
use Rattle.sends.proofs.Besides.{leave_asks, beside_sent}
use Rattle.sends.proofs.Phases.{sent_asks}
use Rattle.sends.proofs.Returns.{narrow_id, reservation_returns}
use Rattle.sends.proofs.send_by_reservation.Goals as goal

pub leave-gone-requires : goal.leave-gone-requires
leave-gone-requires c =
    let l =
    leave_asks c.args.gate c.args.guests.now c.args.waiting.now c.args.flight.now c.requires.known c.args.place c.requires.flight_lt_depth.1 c.requires.flight_lt_depth.0 c.requires.first_of c.args.index.now c.requires.beside
    in record {
      place_lt_count = l.0;
      count_le_most_capacity = l.1.0;
      beside = l.1.1;
    }

pub overflow_cast-id : goal.overflow_cast-id
overflow_cast-id c =
    let n = c.leave-gone in
    omega (arith, narrow_id c.args.gate c.args.guests.now c.args.waiting.now c.args.flight.now c.requires.known c.args.place c.requires.flight_lt_depth.1 n.result n.ensures.named)

pub sent-requires : goal.sent-requires
sent-requires c =
    sent_asks c.args.gate c.args.guests.now c.args.waiting.now c.args.flight.now c.requires.known c.requires.flight_lt_depth.0 c.args.place c.requires.flight_lt_depth.1

pub returns : goal.returns
returns c =
    let n = c.leave-gone in
    let h = stands_sent c.args.index.now _ _ c.args.gate c.sent.ensures in record {
      leaves = reservation_returns c.args.gate c.args.guests.now c.args.waiting.now c.args.flight.now c.requires.known c.requires.flight_lt_depth.0 c.args.place c.requires.flight_lt_depth.1 n.result _ _ _ (h ∙ n.ensures.waiting_after) n.ensures.flight_after n.ensures.named c.sent.ensures;
      beside_2 = beside_sent c.args.gate Reservation n.result.guest _ _ c.sent.ensures (rw h n.ensures.beside_2);
    }
