-- `ties::is_first` meets its contract. The loop's invariant: no request before place i is of that guest. Assumes nothing.
use mathlib.Core.Path.{◌≡◌}
use mathlib.Core.Bool.{true}
use Rattle.lists.specs.Words.{below}
use Rattle.judge.proofs.Tied.{other_at}
use Rattle.ties.proofs.is_first.Given as goal

abbrev pub invariant-loop-i : goal.invariant-loop-i
invariant-loop-i l = below l.i (other_at l.waiting l.place) ≡ true
