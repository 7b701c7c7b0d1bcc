-- `hears::hear_send` meets its contract: what was heard goes, and it is the first of its guest. Assumes nothing.
use Rattle.judge.proofs.Ties.{row-there, id_there, place_here}
use Rattle.judge.proofs.Heard.{send_wrong, send_right, there-here, there-first}
use Rattle.hears.proofs.Besides.{send_stood}
use Rattle.hears.proofs.hear_send.Goals as goal

pub send_of-answer-requires : goal.send_of-answer-requires
send_of-answer-requires c =
    let h = place_here c.args.gate c.args.guests.now c.args.waiting.now c.args.flight.now c.requires.known c.args.place c.args.phase c.requires.picks in
    ((row-there c.args.gate c.args.guests.now c.args.waiting.now c.args.flight.now c.requires.known c.args.place h).0, id_there c.args.gate c.args.guests.now c.args.waiting.now c.args.flight.now c.requires.known c.args.place h)

pub returns-in_default-clause-hears : goal.returns-in_default-clause-hears
returns-in_default-clause-hears c =
    send_wrong c.args.gate c.args.guests.now c.args.waiting.now c.args.flight.now c.requires.known c.args.place c.args.phase c.requires.picks c.args.number c.args.said.now (c.in_default.ensures c.args.flight.now) _ c.send_of-answer.ensures _ _ _

pub send_in-after-requires : goal.send_in-after-requires
send_in-after-requires c =
    let f = c.in-Some.ensures c.args.flight.now in record {
      known = c.requires.known;
      flight_lt_depth = (c.requires.flight_lt_depth, there-here c.args.gate c.args.guests.now c.args.waiting.now c.args.flight.now c.requires.known c.args.place c.args.phase c.requires.picks c.args.number c.args.said.now c.in-Some.told f);
      first_of = there-first c.args.gate c.args.guests.now c.args.waiting.now c.args.flight.now c.requires.known c.args.place c.args.phase c.requires.picks c.args.number c.args.said.now c.in-Some.told f;
      beside = c.requires.beside;
    }

pub returns : goal.returns
returns c =
    let x = c.send_in-after in
    let a = c.send_of-answer.ensures in
    let q = send_stood c.args.index.now x.new.waiting _ a in record {
      hears = rw q (send_right c.args.gate c.args.guests.now c.args.waiting.now c.args.flight.now c.requires.known c.args.place c.args.phase c.requires.picks c.args.number c.args.said.now c.in-Some.told (c.in-Some.ensures c.args.flight.now) _ a _ _ _ _ x.ensures.sends);
      beside_2 = rw q (λ some. x.ensures.beside_2);
    }
