-- Where the mark is 0 the number stays.
use borrow.Author.Tests.{eq-eqb, ne_eqb}
use Rattle.shares.proofs.next_share.Goals as goal

pub moved-requires : goal.moved-requires
moved-requires c = c.requires (ne_eqb _ _ c.if-mark-eq0.false)

pub returns-then-mark-eq0 : goal.returns-then-mark-eq0
returns-then-mark-eq0 c = rw (eq-eqb _ _ c.if-mark-eq0.true)

pub returns-else-mark-eq0 : goal.returns-else-mark-eq0
returns-else-mark-eq0 c = rw (ne_eqb _ _ c.if-mark-eq0.false) c.moved.ensures
