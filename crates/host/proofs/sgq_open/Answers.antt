use Rattle.gate.specs.Promise.{opened}
use Rattle.hands.proofs.Returns.{returned}
use Rattle.host.proofs.sgq_open.Goals as goal

pub returns : goal.returns
returns c =
    returned c.args.seven.now _ c.hand_back.result (c.open-outcome.result, _, _, _) (opened c.args.depth c.args.known c.args.capacity c.args.rule c.args.settings.now c.args.guests.now c.args.waiting.now c.args.flight.now) c.open-outcome.ensures c.hand_back.ensures.0 c.hand_back.ensures.1
