-- A test, and those of the array. Assumes nothing.
use borrow.Author.Tests.{le-leb, lt-leb}
use Rattle.sites.proofs.judge_guest.Goals as goal

pub returns-then-gate-guest : goal.returns-then-gate-guest
returns-then-gate-guest c = simp (le-leb _ _ c.if-gate-guest.true)

pub returns : goal.returns
returns c = simp (lt-leb _ _ c.if-gate-guest.false) c.judge_array.ensures
