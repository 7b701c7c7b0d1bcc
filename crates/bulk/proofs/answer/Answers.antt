-- An event follows what was found of the tables, and what is none is refused 14. Assumes nothing.
use Rattle.calling.proofs.Returns.{bad_beside, bad_stands}
use Rattle.batch.proofs.Going.{good-one, bad_one, bad_judges}
use Rattle.bulk.proofs.answer.Goals as goal

pub returns-in-Some : goal.returns-in-Some
returns-in-Some c =
    let o = c.follow.ensures in record {
      flight_after = good-one c.args.gate c.args.guests.now c.args.waiting.now c.args.flight.now c.args.event _ c.in-Some.is _ o.flight_after;
      judges_2 = o.judges_2;
      beside_2 = o.beside_2;
    }

pub returns-in-None : goal.returns-in-None
returns-in-None c =
    let q = bad_stands c.args.gate c.args.guests.now c.args.waiting.now c.args.flight.now _ _ c.refused.ensures c.args.index.now in record {
      flight_after = rw q (bad_one c.args.gate c.args.guests.now c.args.waiting.now c.args.flight.now c.args.event c.in-None.is _ c.refused.ensures);
      judges_2 = rw q (bad_judges c.args.gate c.args.guests.now c.args.waiting.now c.args.flight.now c.args.event c.args.found c.requires.judges _ c.refused.ensures);
      beside_2 = rw q (bad_beside c.args.gate c.args.guests.now c.args.waiting.now c.args.flight.now _ _ c.refused.ensures _ c.requires.beside.0);
    }
