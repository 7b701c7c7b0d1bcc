-- Each number before `i` is the one behind it, fallen, and the others stand as they did.
use Rattle.std.proofs.Common.{◌+◌, get_or}
use Rattle.index.specs.Index.{fallen, Rewritten}
use Rattle.index.proofs.close.Given as goal

abbrev pub invariant-loop-i : goal.invariant-loop-i
invariant-loop-i l = Rewritten (λ j. fallen l.mark (get_or l.initial.index (j + 1) 0)) l.initial.index l.index l.from l.i
