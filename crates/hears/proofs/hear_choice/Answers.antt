-- `hears::hear_choice` meets its contract, by what is found. Assumes nothing.
use mathlib.Core.Path.{ap}
use native.Mathlib.Omega.{arith}
use Rattle.judge.specs.declared.Said.{Said}
use Rattle.judge.proofs.Heard.{choice-full, due-at, choice-due, open_at, choice_open, choice-none}
use Rattle.hears.proofs.Besides.{beside_said, nothing_stands}
use Rattle.sends.proofs.Phases.{line_asks, latest_asks}
use Rattle.hears.proofs.hear_choice.Goals as goal

pub first_in_line-firsts-requires : goal.first_in_line-firsts-requires
first_in_line-firsts-requires c =
    let l = line_asks c.args.gate c.args.guests.now c.args.waiting.now c.args.flight.now c.requires.known in record {
      count_le_most_capacity = l.0;
      owned = l.1.0;
      time_le_ceiling = (l.1.1, latest_asks c.args.gate c.args.guests.now c.args.waiting.now c.args.flight.now c.requires.known _ c.latest_limit-latest.ensures);
      beside = c.requires.beside.0;
    }

pub returns-then-gate : goal.returns-then-gate
returns-then-gate c =
    let p = c.hear_plain in
    let q = nothing_stands c.args.index.now c.args.waiting.now p.result p.ensures in record {
      hears = rw q (choice-full c.args.gate c.args.guests.now c.args.waiting.now c.args.flight.now c.requires.known c.args.number c.args.said.now c.if-gate.true p.result p.ensures);
      beside_2 = rw q (λ some. beside_said c.args.gate p.result (ap Said.gate p.ensures) c.requires.beside.0);
    }

pub hear_send-requires-clause-picks : goal.hear_send-requires-clause-picks
hear_send-requires-clause-picks c =
    let w = c.first_in_line-firsts in
    due-at c.args.gate c.args.guests.now c.args.waiting.now c.args.flight.now c.requires.known c.args.number c.args.said.now (omega (arith, c.if-gate.false)) _ c.latest_limit-latest.ensures w.result.due w.ensures.picks c.in-Some-default.place c.in-Some-default.is-0

pub hear_send-requires-in-None-Some-clause-picks : goal.hear_send-requires-in-None-Some-clause-picks
hear_send-requires-in-None-Some-clause-picks c =
    let w = c.first_in_line-firsts in
    open_at c.args.gate c.args.guests.now c.args.waiting.now c.args.flight.now c.requires.known c.args.number c.args.said.now (omega (arith, c.if-gate.false)) _ c.latest_limit-latest.ensures w.result.due w.ensures.picks c.in-None-Some.is-0 w.result.open w.ensures.picks_2 c.in-None-Some.place c.in-None-Some.is-1

pub returns-in-Some-default-clause-hears : goal.returns-in-Some-default-clause-hears
returns-in-Some-default-clause-hears c =
    let w = c.first_in_line-firsts in
    choice-due c.args.gate c.args.guests.now c.args.waiting.now c.args.flight.now c.requires.known c.args.number c.args.said.now (omega (arith, c.if-gate.false)) _ c.latest_limit-latest.ensures w.result.due w.ensures.picks c.in-Some-default.place c.in-Some-default.is-0 c.hear_send.ensures.hears

pub returns-in-None-Some-clause-hears : goal.returns-in-None-Some-clause-hears
returns-in-None-Some-clause-hears c =
    let w = c.first_in_line-firsts in
    choice_open c.args.gate c.args.guests.now c.args.waiting.now c.args.flight.now c.requires.known c.args.number c.args.said.now (omega (arith, c.if-gate.false)) _ c.latest_limit-latest.ensures w.result.due w.ensures.picks c.in-None-Some.is-0 w.result.open w.ensures.picks_2 c.in-None-Some.place c.in-None-Some.is-1 c.hear_send-in-None-Some.ensures.hears

pub returns-in-None-None : goal.returns-in-None-None
returns-in-None-None c =
    let w = c.first_in_line-firsts in
    let p = c.hear_plain-in-None-None in
    let q = nothing_stands c.args.index.now c.args.waiting.now p.result p.ensures in record {
      hears = rw q (choice-none c.args.gate c.args.guests.now c.args.waiting.now c.args.flight.now c.requires.known c.args.number c.args.said.now (omega (arith, c.if-gate.false)) _ c.latest_limit-latest.ensures w.result.due w.ensures.picks c.in-None-None.is-0 w.result.open w.ensures.picks_2 c.in-None-None.is-1 p.result p.ensures);
      beside_2 = rw q (λ some. beside_said c.args.gate p.result (ap Said.gate p.ensures) c.requires.beside.0);
    }
