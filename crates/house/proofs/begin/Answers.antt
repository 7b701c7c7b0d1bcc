-- The gate is opened; where it is, counters and phases begin at 0. Assumes nothing.
use Rattle.arrays.proofs.Follows.{opening-rows, opening-room, opening-refused, opening-taken}
use mathlib.Core.Bool.{not}
use mathlib.Core.Path.{ap}
use Rattle.house.proofs.begin.Goals as goal

pub returns-then-not-is_taken : goal.returns-then-not-is_taken
returns-then-not-is_taken c =
    let a = c.args in
    opening-refused a.site a.opening.setup.depth a.opening.guests a.opening.setup.capacity a.opening.setup.rule a.settings.now a.guests.now a.waiting.now a.flight.now a.counters.now a.phases.now c.requires (c.open-outcome.result, _, _, _) c.open-outcome.ensures _ c.is_taken.ensures (ap not c.if-not-is_taken.true)

pub clear_all-requires : goal.clear_all-requires
clear_all-requires c =
    let a = c.args in
    opening-rows a.site a.opening.setup.depth a.opening.guests a.opening.setup.capacity a.opening.setup.rule a.settings.now a.guests.now a.waiting.now a.flight.now a.counters.now a.phases.now c.requires

pub clear-requires : goal.clear-requires
clear-requires c =
    let a = c.args in
    opening-room a.site a.opening.setup.depth a.opening.guests a.opening.setup.capacity a.opening.setup.rule a.settings.now a.guests.now a.waiting.now a.flight.now a.counters.now a.phases.now c.requires

pub returns : goal.returns
returns c =
    let a = c.args in
    opening-taken a.site a.opening.setup.depth a.opening.guests a.opening.setup.capacity a.opening.setup.rule a.settings.now a.guests.now a.waiting.now a.flight.now a.counters.now a.phases.now c.requires (c.open-outcome.result, _, _, _) c.open-outcome.ensures _ c.is_taken.ensures (ap not c.if-not-is_taken.false) _ _ c.clear_all.ensures c.clear.ensures
