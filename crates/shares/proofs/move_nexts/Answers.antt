-- The loop knows the guests' numbers after the moves made so far.
use Rattle.std.proofs.Common.{refl}
use Rattle.lists.specs.Stores.{stores}
use Rattle.shares.specs.SharesLaws.{nexts_read, nexts_next}
use Rattle.shares.proofs.move_nexts.Invariants.{unmarked}
use Rattle.shares.proofs.move_nexts.Goals as goal

pub loop-g-init : goal.loop-g-init
loop-g-init c = unfold stores in refl

pub next_share-to-requires : goal.next_share-to-requires
next_share-to-requires c =
    let a = c.args in
    let s = c.loop-g in
    λ e. rw (nexts_read a.time a.m (unmarked a.busy.now) a.guests.now s.guests s.g s.invariant) (c.requires.nexts_move s.g c.loop-g-test.true e)

pub loop-g-preserved : goal.loop-g-preserved
loop-g-preserved c =
    let a = c.args in
    let s = c.loop-g in
    nexts_next a.time a.m (unmarked a.busy.now) a.guests.now s.guests s.g s.invariant _ c.next_share-to.ensures
