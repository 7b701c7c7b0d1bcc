-- The loop keeps `Stage`: after k events the table stands in the window, and the host and the answers are those of k events one by one. Assumes nothing.
use Prim.Native.Nat.{ℕ}
use mathlib.Core.Path.{◌≡◌}
use mathlib.Core.List.{List}
use lib.ListN.{length}
use Rattle.gate.specs.Promise.{numbers}
use Rattle.windows.specs.Window.{Window}
use Rattle.batch.specs.Promise.{host_of}
use Rattle.bulk.proofs.Staged.{Stage}
use Rattle.bulk.proofs.answer_rows_in.Given as goal

abbrev pub invariant-loop-k : goal.invariant-loop-k
invariant-loop-k l =
    (length l.guests ≡ length l.initial.guests) × (length l.window ≡ length l.initial.window) × (length l.flight ≡ length l.initial.flight) × (length l.answers ≡ length l.initial.answers)
    × (length l.index ≡ length l.initial.index)
    × ((ws : List ℕ) → Window l.size 0 l.initial.window ws → Stage l.events l.found (host_of numbers l.initial.gate l.initial.guests ws l.initial.flight) l.initial.answers l.size l.start l.window l.k l.gate l.guests l.flight l.answers l.index)
