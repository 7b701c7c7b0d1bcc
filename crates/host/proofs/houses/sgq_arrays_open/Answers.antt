use Rattle.arrays.specs.Promise.{begun}
use Rattle.hands.specs.Host.{site_at}
use Rattle.hands.proofs.Returns.{returned-at}
use Rattle.host.proofs.houses.sgq_arrays_open.Goals as goal

pub returns : goal.returns
returns c =
    let a = c.args in
    returned-at a.seven.now _ c.hand_back.result (c.open-outcome.result, _, _, _, _, _) (begun (site_at a.arrays a.array) a.depth a.known a.capacity a.rule a.settings.now a.guests.now a.waiting.now a.flight.now a.counters.now a.phases.now) c.open-outcome.ensures c.hand_back.ensures.0 c.hand_back.ensures.1
