-- The gate is asked with what was counted; where it accepts, the row begins anew. Assumes nothing.
use native.Mathlib.Omega.{arith}
use Rattle.arrays.proofs.Follows.{arrival_row, arrival_refused, arrival_placed, arrival_taken}
use mathlib.Core.Bool.{not}
use mathlib.Core.Path.{ap}
use Rattle.follows.proofs.follow_arrival.Goals as goal

pub overflow_mul-row : goal.overflow_mul-row
overflow_mul-row c =
    let a = c.args in
    omega (arith, arrival_row a.site a.gate a.guests.now a.waiting.now a.flight.now a.counters.now a.phases.now a.which a.time c.requires)

pub overflow_add-row : goal.overflow_add-row
overflow_add-row c =
    let a = c.args in
    omega (arith, arrival_row a.site a.gate a.guests.now a.waiting.now a.flight.now a.counters.now a.phases.now a.which a.time c.requires)

pub arriving_of-what-requires : goal.arriving_of-what-requires
arriving_of-what-requires c =
    let a = c.args in
    arrival_row a.site a.gate a.guests.now a.waiting.now a.flight.now a.counters.now a.phases.now a.which a.time c.requires

pub returns-then-not-is_taken : goal.returns-then-not-is_taken
returns-then-not-is_taken c =
    let a = c.args in
    arrival_refused a.site a.gate a.guests.now a.waiting.now a.flight.now a.counters.now a.phases.now a.which a.time c.requires _ c.arriving_of-what.ensures (c.arrive-outcome.result, _, _, _) c.arrive-outcome.ensures _ c.is_taken.ensures (ap not c.if-not-is_taken.true)

pub set_row-requires : goal.set_row-requires
set_row-requires c =
    let a = c.args in
    arrival_row a.site a.gate a.guests.now a.waiting.now a.flight.now a.counters.now a.phases.now a.which a.time c.requires

pub note-requires : goal.note-requires
note-requires c =
    let a = c.args in
    arrival_placed a.site a.gate a.guests.now a.waiting.now a.flight.now a.counters.now a.phases.now a.which a.time c.requires _ c.arriving_of-what.ensures (c.arrive-outcome.result, _, _, _) c.arrive-outcome.ensures

pub returns : goal.returns
returns c =
    let a = c.args in
    arrival_taken a.site a.gate a.guests.now a.waiting.now a.flight.now a.counters.now a.phases.now a.which a.time c.requires _ c.arriving_of-what.ensures (c.arrive-outcome.result, _, _, _) c.arrive-outcome.ensures _ c.is_taken.ensures (ap not c.if-not-is_taken.false) _ _ c.set_row.ensures c.note.ensures
