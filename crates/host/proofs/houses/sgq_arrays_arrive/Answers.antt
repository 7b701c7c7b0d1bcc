use Rattle.arrays.specs.declared.Ask.TheVariants.{Arrives}
use Rattle.hands.specs.Host.{site_at}
use Rattle.hands.proofs.Returns.{asked-returned}
use Rattle.host.proofs.houses.sgq_arrays_arrive.Goals as goal

pub returns : goal.returns
returns c =
    let a = c.args in
    asked-returned (site_at a.arrays a.array) (Arrives (record { guest = a.guest; id = a.id; cost = a.cost }) a.time) a.seven.now _ c.gate_in-gate.result c.gate_in-gate.ensures a.guests.now a.waiting.now a.flight.now a.counters.now a.phases.now c.hand_back.result (c.arrive-outcome.result, _, _, _, _, _) c.arrive-outcome.ensures c.hand_back.ensures.0 c.hand_back.ensures.1
