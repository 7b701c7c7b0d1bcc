-- `gone_on` meets its contract: a row behind a send beside an index, else none. Assumes nothing.
use Rattle.std.proofs.Common.{arith}
use Rattle.std.proofs.lemmas.Bool.Decides.{nat_tests}
use Rattle.index.proofs.Laws.{stands-none, stands_else, stands-moved}
use Rattle.index.proofs.gone_on.Goals as goal

pub returns-then-is_empty-clause-by_index : goal.returns-then-is_empty-clause-by_index
returns-then-is_empty-clause-by_index c = λ ws. stands-none c.args.index.now ws c.args.answer (grind (arith, nat_tests))

pub returns-in-Sent-clause-by_index : goal.returns-in-Sent-clause-by_index
returns-in-Sent-clause-by_index c = λ ws. stands-moved c.args.index.now ws c.args.answer (grind (arith, nat_tests)) c.in-Sent.is

pub returns-in_default-clause-by_index : goal.returns-in_default-clause-by_index
returns-in_default-clause-by_index c = λ ws. stands_else c.args.index.now ws c.args.answer c.in_default.not-Sent
