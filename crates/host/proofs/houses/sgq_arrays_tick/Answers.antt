use Rattle.arrays.specs.declared.Ask.TheVariants.{Ticks}
use Rattle.hands.specs.Host.{site_at}
use Rattle.hands.proofs.Returns.{asked-returned}
use Rattle.host.proofs.houses.sgq_arrays_tick.Goals as goal

pub returns : goal.returns
returns c =
    let a = c.args in
    asked-returned (site_at a.arrays a.array) (Ticks a.time) a.seven.now _ c.gate_in-gate.result c.gate_in-gate.ensures a.guests.now a.waiting.now a.flight.now a.counters.now a.phases.now c.hand_back.result (c.tick-outcome.result, _, _, _, _, _) c.tick-outcome.ensures c.hand_back.ensures.0 c.hand_back.ensures.1
