-- `events::judge` meets its contract: a good event is the step, a bad one leaves all as it stood. Assumes nothing.
use Rattle.index.proofs.Laws.{stands-refused}
use Rattle.feed.proofs.Judging.{good-answers, bad_answers, bad_beside}
use Rattle.feed.proofs.events.judge.Goals as goal

pub step-requires : goal.step-requires
step-requires c = c.requires

pub returns-in-Some : goal.returns-in-Some
returns-in-Some c =
    let a = c.args in
    let m = c.step.ensures in record {
      leaves = good-answers a.gate a.guests.now a.waiting.now a.flight.now a.event _ c.in-Some.is m.leaves;
      known_2 = m.known_2;
      beside_2 = m.beside_2;
    }

pub returns-in-None : goal.returns-in-None
returns-in-None c =
    let d = c.decided.ensures in
    let m = bad_answers c.args.gate c.args.guests.now c.args.waiting.now c.args.flight.now c.args.event c.requires.known c.in-None.is _ d in
    let e = stands-refused c.args.index.now c.args.waiting.now _ c.args.gate d in record {
      leaves = rw e m.0;
      known_2 = rw e m.1;
      beside_2 = rw e (bad_beside c.args.gate c.args.guests.now c.args.waiting.now c.args.flight.now c.args.event _ d c.requires.beside.0);
    }
