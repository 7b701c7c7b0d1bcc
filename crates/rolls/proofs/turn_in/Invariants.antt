-- `turn_in` meets its contract. The loop's invariant: the events so far have turned the page, and the table stands in the window with its index beside it. Assumes nothing.
use Prim.Native.Nat.{ℕ}
use mathlib.Core.List.{List}
use Rattle.windows.specs.Window.{Window}
use Rattle.tally.specs.Kept.{page_of}
use Rattle.rolls.proofs.Staged.{Stage}
use Rattle.rolls.proofs.turn_in.Given as goal

abbrev pub invariant-loop-i : goal.invariant-loop-i
invariant-loop-i l =
    (ws : List ℕ) → Window l.size 0 l.initial.window ws → Stage l.version (page_of l.initial.gate l.initial.guests ws l.initial.flight l.initial.book l.initial.figures) l.bytes l.number l.size l.start l.window l.i l.gate l.guests l.flight l.book l.figures l.index
