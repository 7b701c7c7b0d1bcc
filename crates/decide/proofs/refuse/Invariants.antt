use Rattle.trace.specs.Printed.{printed}
use Rattle.decide.proofs.refuse.Given as goal

abbrev pub ghost-finish : goal.ghost-finish
ghost-finish a = printed
