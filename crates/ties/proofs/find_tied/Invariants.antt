-- `ties::find_tied` meets its contract. The loop's invariant: no request before place i has a line that was heard. Assumes nothing.
use Prim.Native.Nat.{ℕ, ◌<◌}
use mathlib.Core.Path.{◌≡◌}
use mathlib.Core.Bool.{false}
use mathlib.Core.List.{List}
use Rattle.rules.specs.Chosen.{at}
use Rattle.table.specs.View.{waiting_of, table_of, Known}
use Rattle.judge.specs.Judging.{named}
use Rattle.ties.proofs.find_tied.Given as goal

abbrev pub invariant-loop-i : goal.invariant-loop-i
invariant-loop-i l =
    (fs : List ℕ) → Known l.gate l.guests l.waiting fs → (j : ℕ) → j < l.i → named l.number l.said l.phase (table_of l.gate l.guests l.waiting fs) l.tag (at (waiting_of l.waiting l.gate.waiting) j) ≡ false
