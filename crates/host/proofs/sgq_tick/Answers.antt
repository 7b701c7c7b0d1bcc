use Rattle.rules.specs.declared.Event.TheVariants.{Tick}
use Rattle.hands.proofs.Returns.{call-returned}
use Rattle.host.proofs.sgq_tick.Goals as goal

pub returns : goal.returns
returns c =
    let s = c.before.before.before.before.before.before.before.before.before.before.before.before.before.before.before.before.before in
    call-returned (Tick s.args.time) s.args.seven.now _ c.gate_in-gate.result c.gate_in-gate.ensures s.args.guests.now s.args.waiting.now s.args.flight.now c.hand_back.result (c.tick-outcome.result, _, _, _) c.tick-outcome.ensures c.hand_back.ensures.0 c.hand_back.ensures.1
