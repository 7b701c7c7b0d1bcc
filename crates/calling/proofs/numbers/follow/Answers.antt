-- What was found of the tables stays true, and the call is the step or the refusal. Assumes nothing.
use Rattle.calling.proofs.Returns.{good-known, good_returns, bad_returns, good_stays, bad_stays, bad_beside, bad_stands}
use Rattle.calling.proofs.numbers.follow.Goals as goal

pub step_and_wake-requires : goal.step_and_wake-requires
step_and_wake-requires c = record {
  known = good-known c.args.gate c.args.guests.now c.args.waiting.now c.args.flight.now c.args.found c.requires.judges c.in-Ok.is;
  beside = c.requires.beside;
}

pub returns-in-Err : goal.returns-in-Err
returns-in-Err c =
    rw (bad_stands c.args.gate c.args.guests.now c.args.waiting.now c.args.flight.now _ _ c.refused.ensures c.args.index.now) (record {
      flight_after = bad_returns c.args.gate c.args.guests.now c.args.waiting.now c.args.flight.now c.args.found c.requires.judges c.args.event _ c.in-Err.is _ c.refused.ensures;
      judges_2 = bad_stays c.args.gate c.args.guests.now c.args.waiting.now c.args.flight.now c.args.found c.requires.judges _ _ c.refused.ensures;
      beside_2 = bad_beside c.args.gate c.args.guests.now c.args.waiting.now c.args.flight.now _ _ c.refused.ensures _ c.requires.beside.0;
    })

pub returns-in-Ok : goal.returns-in-Ok
returns-in-Ok c =
    let e = c.in-Ok.is in
    let o = c.step_and_wake.ensures in record {
      flight_after = good_returns c.args.gate c.args.guests.now c.args.waiting.now c.args.flight.now c.args.found c.requires.judges c.args.event e _ o.flight_after;
      judges_2 = good_stays c.args.gate c.args.guests.now c.args.waiting.now c.args.flight.now c.args.found c.requires.judges e _ _ _ _ o.known_2;
      beside_2 = o.beside_2;
    }
