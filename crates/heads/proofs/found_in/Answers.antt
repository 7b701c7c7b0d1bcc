use borrow.Author.Tests.{lt-ltb, le-ltb}
use Rattle.heads.specs.Heads.{found_in}
use Rattle.heads.proofs.found_in.Goals as goal

pub returns-then-place-count : goal.returns-then-place-count
unfolding found_in
returns-then-place-count c = rw (lt-ltb _ _ c.if-place-count.true)

pub returns-else-place-count : goal.returns-else-place-count
unfolding found_in
returns-else-place-count c = rw (le-ltb _ _ c.if-place-count.false)
