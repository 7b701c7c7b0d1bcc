-- By what is asked. Assumes nothing.
use Rattle.arrays.proofs.Follows.{judged-same, asked-same}
use Rattle.follows.proofs.follow.Goals as goal

pub follow_arrival-requires : goal.follow_arrival-requires
follow_arrival-requires c =
    let a = c.args in
    judged-same a.site a.gate a.guests.now a.waiting.now a.flight.now a.counters.now a.phases.now a.what _ c.in-Arrives.is c.requires

pub follow_completion-requires : goal.follow_completion-requires
follow_completion-requires c =
    let a = c.args in
    judged-same a.site a.gate a.guests.now a.waiting.now a.flight.now a.counters.now a.phases.now a.what _ c.in-Completes.is c.requires

pub follow_tick-requires : goal.follow_tick-requires
follow_tick-requires c =
    let a = c.args in
    judged-same a.site a.gate a.guests.now a.waiting.now a.flight.now a.counters.now a.phases.now a.what _ c.in-Ticks.is c.requires

pub returns-in-Arrives : goal.returns-in-Arrives
returns-in-Arrives c =
    let a = c.args in
    asked-same a.site a.gate a.guests.now a.waiting.now a.flight.now a.counters.now a.phases.now a.what _ c.in-Arrives.is (c.follow_arrival.result, _, _, _, _, _) c.follow_arrival.ensures

pub returns-in-Completes : goal.returns-in-Completes
returns-in-Completes c =
    let a = c.args in
    asked-same a.site a.gate a.guests.now a.waiting.now a.flight.now a.counters.now a.phases.now a.what _ c.in-Completes.is (c.follow_completion.result, _, _, _, _, _) c.follow_completion.ensures

pub returns-in-Ticks : goal.returns-in-Ticks
returns-in-Ticks c =
    let a = c.args in
    asked-same a.site a.gate a.guests.now a.waiting.now a.flight.now a.counters.now a.phases.now a.what _ c.in-Ticks.is (c.follow_tick.result, _, _, _, _, _) c.follow_tick.ensures
