-- Each number before the one looked at has fallen, and the others stand as they did.
use Rattle.std.proofs.Common.{get_or}
use Rattle.index.specs.Index.{fallen, Rewritten}
use Rattle.index.proofs.fall.Given as goal

abbrev pub invariant-loop-number : goal.invariant-loop-number
invariant-loop-number l = Rewritten (λ j. fallen l.mark (get_or l.initial.number-items j 0)) l.initial.number-items l.number-items 0 l.number-index
