-- The function meets its contract, by what its callees promise. Assumes nothing.
use native.Mathlib.Omega.{arith}
use Rattle.opens.proofs.OpenReturns.{not_opened_returns, open_room, opened_returns}
use Rattle.opens.proofs.open.Goals as goal

pub start-requires : goal.start-requires
start-requires c =
    let o = open_room c.args.opening.setup.depth c.args.opening.guests c.args.opening.setup.capacity c.args.opening.setup.rule c.args.settings.now c.args.guests.now c.args.waiting.now c.args.flight.now _ c.gate_at-gate.ensures _ c.judge_opening-found.ensures c.in-Ok.is in
    (o.guests, o.settings)

pub overflow_mul-rooms : goal.overflow_mul-rooms
overflow_mul-rooms c =
    omega (arith, (open_room c.args.opening.setup.depth c.args.opening.guests c.args.opening.setup.capacity c.args.opening.setup.rule c.args.settings.now c.args.guests.now c.args.waiting.now c.args.flight.now _ c.gate_at-gate.ensures _ c.judge_opening-found.ensures c.in-Ok.is).most)

pub clear-requires : goal.clear-requires
clear-requires c =
    (open_room c.args.opening.setup.depth c.args.opening.guests c.args.opening.setup.capacity c.args.opening.setup.rule c.args.settings.now c.args.guests.now c.args.waiting.now c.args.flight.now _ c.gate_at-gate.ensures _ c.judge_opening-found.ensures c.in-Ok.is).waiting

pub overflow_mul-places : goal.overflow_mul-places
overflow_mul-places c =
    omega (arith, (open_room c.args.opening.setup.depth c.args.opening.guests c.args.opening.setup.capacity c.args.opening.setup.rule c.args.settings.now c.args.guests.now c.args.waiting.now c.args.flight.now _ c.gate_at-gate.ensures _ c.judge_opening-found.ensures c.in-Ok.is).most)

pub clear-requires-in-Ok : goal.clear-requires-in-Ok
clear-requires-in-Ok c =
    (open_room c.args.opening.setup.depth c.args.opening.guests c.args.opening.setup.capacity c.args.opening.setup.rule c.args.settings.now c.args.guests.now c.args.waiting.now c.args.flight.now _ c.gate_at-gate.ensures _ c.judge_opening-found.ensures c.in-Ok.is).flight

pub returns-in-Err : goal.returns-in-Err
returns-in-Err c =
    not_opened_returns c.args.opening.setup.depth c.args.opening.guests c.args.opening.setup.capacity c.args.opening.setup.rule c.args.settings.now c.args.guests.now c.args.waiting.now c.args.flight.now _ c.gate_at-gate.ensures _ c.judge_opening-found.ensures _ c.in-Err.is _ c.not_opened.ensures

pub returns-in-Ok : goal.returns-in-Ok
returns-in-Ok c =
    opened_returns c.args.opening.setup.depth c.args.opening.guests c.args.opening.setup.capacity c.args.opening.setup.rule c.args.settings.now c.args.guests.now c.args.waiting.now c.args.flight.now _ c.gate_at-gate.ensures _ c.judge_opening-found.ensures c.in-Ok.is _ _ _ c.start.ensures c.clear.ensures c.clear-in-Ok.ensures _ c.answered.ensures
