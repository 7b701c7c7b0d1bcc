-- `choose` meets its contract: with a place free it is the reservation phase, else nothing goes. Assumes nothing.
use Rattle.index.proofs.Laws.{stands_still}
use Rattle.sends.proofs.Besides.{beside_decided}
use Rattle.sends.proofs.Returns.{place-free, none_free}
use Rattle.choose.proofs.choose.Goals as goal

pub by_reservation-requires : goal.by_reservation-requires
by_reservation-requires c = record {
  known = c.requires.known;
  flight_lt_depth = c.if-gate.true;
  beside = c.requires.beside;
}

pub returns-then-gate : goal.returns-then-gate
returns-then-gate c =
    let e = c.by_reservation.ensures in record {
      leaves = place-free c.args.gate c.args.guests.now c.args.waiting.now c.args.flight.now c.requires.known c.if-gate.true e.leaves;
      beside_2 = e.beside_2;
    }

pub returns-else-gate : goal.returns-else-gate
returns-else-gate c =
    rw (stands_still c.args.index.now c.args.waiting.now _ c.args.gate c.decided.ensures) (
    record {
      leaves = none_free c.args.gate c.args.guests.now c.args.waiting.now c.args.flight.now c.requires.known c.if-gate.false _ c.decided.ensures;
      beside_2 = beside_decided c.args.gate _ _ c.decided.ensures c.requires.beside.0;
    }
    )
