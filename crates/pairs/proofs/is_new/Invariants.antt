-- The places passed have another name.
use mathlib.Core.Path.{◌≡◌}
use mathlib.Core.Bool.{true}
use Rattle.lists.specs.Words.{below}
use Rattle.pairs.specs.Names.{other_at}
use Rattle.pairs.proofs.is_new.Given as goal

abbrev pub invariant-loop-j : goal.invariant-loop-j
invariant-loop-j l = below l.j (other_at l.waiting l.count l.flight l.k) ≡ true
