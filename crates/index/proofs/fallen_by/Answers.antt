use borrow.Author.Tests.{lt-ltb, le-ltb}
use Rattle.index.specs.Index.{fallen}
use Rattle.index.proofs.fallen_by.Goals as goal

pub returns-then-mark-x : goal.returns-then-mark-x
unfolding fallen
returns-then-mark-x c = rw (lt-ltb _ _ c.if-mark-x.true)

pub returns-else-mark-x : goal.returns-else-mark-x
unfolding fallen
returns-else-mark-x c = rw (le-ltb _ _ c.if-mark-x.false)
