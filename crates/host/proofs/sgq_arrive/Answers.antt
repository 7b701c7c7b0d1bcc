use Rattle.rules.specs.declared.Event.TheVariants.{Arrival}
use Rattle.hands.proofs.Returns.{call-returned}
use Rattle.host.proofs.sgq_arrive.Goals as goal

pub returns : goal.returns
returns c =
    let s = c.before.before.before.before.before.before.before.before.before.before.before.before.before.before.before.before.before in
    call-returned (Arrival (record { guest = s.args.guest; id = s.args.id; cost = s.args.cost; delta = s.args.delta; rho = s.args.rho }) s.args.time) s.args.seven.now _ c.gate_in-gate.result c.gate_in-gate.ensures s.args.guests.now s.args.waiting.now s.args.flight.now c.hand_back.result (c.arrive-outcome.result, _, _, _) c.arrive-outcome.ensures c.hand_back.ensures.0 c.hand_back.ensures.1
