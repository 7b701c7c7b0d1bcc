-- `events::feed_in` meets its contract. The loop's invariant: the events so far were judged, and the table stands in the window with its index beside it. Assumes nothing.
use Prim.Native.Nat.{ℕ, ◌*◌, ◌≤◌}
use mathlib.Core.List.{List}
use Rattle.windows.specs.Window.{spare, Window}
use Rattle.feed.proofs.Staged.{Stage}
use Rattle.feed.proofs.events.feed_in.Given as goal

abbrev pub invariant-loop-i : goal.invariant-loop-i
invariant-loop-i l =
    (l.at ≤ 65 * l.i) × (l.start ≤ spare)
    × ((ws : List ℕ) → Window l.size 0 l.initial.window ws → Stage l.version l.initial.gate l.initial.guests ws l.initial.flight l.bytes l.number l.initial.out l.size l.start l.window l.i l.gate l.guests l.flight l.out l.at l.index)
