-- `by_weight` meets its contract: what the walk found open goes, and else nothing does. Assumes nothing.
use Rattle.index.proofs.Laws.{stands_still}
use Rattle.sends.proofs.Besides.{beside_decided}
use Rattle.sends.proofs.Returns.{open_here, one_open, none_open}
use Rattle.choose.proofs.by_weight.Goals as goal

pub send_by_weight-requires : goal.send_by_weight-requires
send_by_weight-requires c =
    let h = open_here c.args.gate c.args.guests.now c.args.waiting.now c.args.flight.now c.requires.known c.requires.flight_lt_depth c.args.found c.in-Some.place c.requires.picks c.in-Some.is in record {
      known = c.requires.known;
      flight_lt_depth = (c.requires.flight_lt_depth, h.0);
      first_of = h.1;
      beside = c.requires.beside;
    }

pub returns-in-Some : goal.returns-in-Some
returns-in-Some c =
    let e = c.send_by_weight.ensures in record {
      leaves = one_open c.args.gate c.args.guests.now c.args.waiting.now c.args.flight.now c.requires.known c.requires.flight_lt_depth c.args.found c.in-Some.place c.requires.picks c.in-Some.is e.leaves;
      beside_2 = e.beside_2;
    }

pub returns-in-None : goal.returns-in-None
returns-in-None c =
    rw (stands_still c.args.index.now c.args.waiting.now _ c.args.gate c.decided.ensures) (
    record {
      leaves = none_open c.args.gate c.args.guests.now c.args.waiting.now c.args.flight.now c.requires.known c.requires.flight_lt_depth c.args.found c.requires.picks c.in-None.is _ c.decided.ensures;
      beside_2 = beside_decided c.args.gate _ _ c.decided.ensures c.requires.beside.0;
    }
    )
