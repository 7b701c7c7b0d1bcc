-- After some guests the loop holds two share tags between which those of their rows lie.
use Rattle.spans.specs.Spanned.{Spanned}
use Rattle.spans.proofs.ends.Given as goal

abbrev pub invariant-loop-g : goal.invariant-loop-g
invariant-loop-g l = Spanned l.waiting l.count l.g l.least l.most
