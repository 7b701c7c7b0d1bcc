-- The gate is asked; where it accepts, what it sends is noted. Assumes nothing.
use Rattle.arrays.proofs.Follows.{tick_refused, tick_placed, tick_taken}
use mathlib.Core.Bool.{not}
use mathlib.Core.Path.{ap}
use Rattle.follows.proofs.follow_tick.Goals as goal

pub returns-then-not-is_taken : goal.returns-then-not-is_taken
returns-then-not-is_taken c =
    let a = c.args in
    tick_refused a.site a.gate a.guests.now a.waiting.now a.flight.now a.counters.now a.phases.now a.time c.requires (c.tick-outcome.result, _, _, _) c.tick-outcome.ensures _ c.is_taken.ensures (ap not c.if-not-is_taken.true)

pub note-requires : goal.note-requires
note-requires c =
    let a = c.args in
    tick_placed a.site a.gate a.guests.now a.waiting.now a.flight.now a.counters.now a.phases.now a.time c.requires (c.tick-outcome.result, _, _, _) c.tick-outcome.ensures

pub returns : goal.returns
returns c =
    let a = c.args in
    tick_taken a.site a.gate a.guests.now a.waiting.now a.flight.now a.counters.now a.phases.now a.time c.requires (c.tick-outcome.result, _, _, _) c.tick-outcome.ensures _ c.is_taken.ensures (ap not c.if-not-is_taken.false) _ c.note.ensures
