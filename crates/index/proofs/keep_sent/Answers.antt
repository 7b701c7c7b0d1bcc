use Rattle.std.proofs.Common.{arith}
use Rattle.std.proofs.lemmas.Bool.Decides.{nat_tests}
use Rattle.index.proofs.keep_sent.Goals as goal

pub returns : goal.returns
returns c = λ ws ws' b first out some. c.unlink.ensures ws ws' (b (grind (arith, nat_tests))) first out
