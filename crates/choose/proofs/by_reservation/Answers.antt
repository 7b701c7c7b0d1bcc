-- `by_reservation` meets its contract: what the walk found due goes, and else the weight phase chooses. Assumes nothing.
use Rattle.sends.proofs.Returns.{due-here, one-due, none-due}
use Rattle.sends.proofs.Phases.{line_asks, latest_asks}
use Rattle.choose.proofs.by_reservation.Goals as goal

pub first_in_line-firsts-requires : goal.first_in_line-firsts-requires
first_in_line-firsts-requires c =
    let l = line_asks c.args.gate c.args.guests.now c.args.waiting.now c.args.flight.now c.requires.known in record {
      count_le_most_capacity = l.0;
      owned = l.1.0;
      time_le_ceiling = (l.1.1, latest_asks c.args.gate c.args.guests.now c.args.waiting.now c.args.flight.now c.requires.known _ c.latest_limit-latest.ensures);
      beside = c.requires.beside.0;
    }

pub send_by_reservation-requires : goal.send_by_reservation-requires
send_by_reservation-requires c =
    let w = c.first_in_line-firsts in
    let h = due-here c.args.gate c.args.guests.now c.args.waiting.now c.args.flight.now c.requires.known c.requires.flight_lt_depth _ c.latest_limit-latest.ensures w.result.due c.in-Some.place w.ensures.picks c.in-Some.is in record {
      known = c.requires.known;
      flight_lt_depth = (c.requires.flight_lt_depth, h.0);
      first_of = h.1;
      beside = c.requires.beside;
    }

pub by_weight-requires : goal.by_weight-requires
by_weight-requires c =
    record {
      known = c.requires.known;
      flight_lt_depth = c.requires.flight_lt_depth;
      picks = c.first_in_line-firsts.ensures.picks_2;
      beside = c.requires.beside;
    }

pub returns-in-Some : goal.returns-in-Some
returns-in-Some c =
    let w = c.first_in_line-firsts in
    let e = c.send_by_reservation.ensures in record {
      leaves = one-due c.args.gate c.args.guests.now c.args.waiting.now c.args.flight.now c.requires.known c.requires.flight_lt_depth _ c.latest_limit-latest.ensures w.result.due c.in-Some.place w.ensures.picks c.in-Some.is e.leaves;
      beside_2 = e.beside_2;
    }

pub returns-in-None : goal.returns-in-None
returns-in-None c =
    let w = c.first_in_line-firsts in
    let e = c.by_weight.ensures in record {
      leaves = none-due c.args.gate c.args.guests.now c.args.waiting.now c.args.flight.now c.requires.known c.requires.flight_lt_depth _ c.latest_limit-latest.ensures w.result.due w.ensures.picks c.in-None.is e.leaves;
      beside_2 = e.beside_2;
    }
