-- Before row `k` the index is that of the first `k` rows.
use Rattle.index.specs.Index.{Indexed}
use Rattle.index.proofs.build.Given as goal

abbrev pub invariant-loop-k : goal.invariant-loop-k
invariant-loop-k l = Indexed l.waiting l.index l.k
