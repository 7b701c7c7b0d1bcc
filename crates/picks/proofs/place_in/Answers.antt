use borrow.Author.Tests.{lt-ltb, le-ltb}
use Rattle.walks.specs.Walks.{place_in}
use Rattle.picks.proofs.place_in.Goals as goal

pub returns-then-at-used : goal.returns-then-at-used
unfolding place_in
returns-then-at-used c = rw (lt-ltb _ _ c.if-at-used.true)

pub returns-else-at-used : goal.returns-else-at-used
unfolding place_in
returns-else-at-used c = rw (le-ltb _ _ c.if-at-used.false)
