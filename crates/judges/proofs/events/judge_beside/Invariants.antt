-- `events::judge_beside` meets its contract. The loop's invariant: what is left to judge, from the tables and the place in the lines that were reached, is what was to
-- judge, and the table stands in the window with its index beside it. Assumes nothing.
use Prim.Native.Nat.{ℕ}
use mathlib.Core.List.{List}
use Rattle.windows.specs.Window.{Window}
use Rattle.judges.proofs.Staged.{Stage}
use Rattle.judges.proofs.events.judge_beside.Given as goal

abbrev pub invariant-loop-i : goal.invariant-loop-i
invariant-loop-i l =
    (ws : List ℕ) → Window l.size 0 l.initial.window ws → Stage l.version l.initial.gate l.initial.guests ws l.initial.flight l.bytes l.said l.size l.start l.window l.i l.gate l.guests l.flight l.at l.index
