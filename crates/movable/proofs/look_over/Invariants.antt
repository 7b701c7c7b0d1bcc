use mathlib.Core.Path.{◌≡◌}
use Rattle.trace.specs.Event.{events_of}
use Rattle.moved.specs.Moves.{is_bad, is_dear, first_that, event_number}
use Rattle.movable.proofs.look_over.Given as goal

abbrev pub invariant-loop-i : goal.invariant-loop-i
invariant-loop-i l = (first_that is_bad 0 (events_of l.version l.i l.bytes) ≡ 0) × (event_number l.dear ≡ first_that is_dear 0 (events_of l.version l.i l.bytes))
