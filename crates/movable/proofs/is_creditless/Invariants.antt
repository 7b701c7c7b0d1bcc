use mathlib.Core.Path.{◌≡◌}
use mathlib.Core.Bool.{true}
use Rattle.lists.specs.Words.{all}
use Rattle.lists.specs.Tab.{tab}
use Rattle.trace.specs.Header.{settings_at}
use Rattle.moved.specs.Moves.{creditless}
use Rattle.movable.proofs.is_creditless.Given as goal

abbrev pub invariant-loop-k : goal.invariant-loop-k
invariant-loop-k l = all creditless (tab l.k (settings_at l.version l.bytes)) ≡ true
