-- The loop knows the waiting numbers after the moves made so far, and the marks of the guests passed.
use Rattle.std.proofs.Common.{refl, arith, length-set}
use Rattle.lists.specs.Stores.{stores}
use Rattle.table.specs.Columns.{GUEST, STAG}
use Rattle.shares.specs.SharesLaws.{marked_none, marked_next, tags-row, tags-next}
use Rattle.shares.proofs.move_tags.Goals as goal

pub loop-i-init : goal.loop-i-init
loop-i-init c = let a = c.args in (omega arith, unfold stores in refl, marked_none a.waiting.now a.busy.now)

pub moved-to-requires : goal.moved-to-requires
moved-to-requires c =
    let a = c.args in
    let s = c.loop-i in
    rw (tags-row a.time a.m a.waiting.now s.waiting s.i s.invariant.1 STAG) (c.requires.tags_move s.i c.loop-i-test.true)

pub offset_bounds-busy-g : goal.offset_bounds-busy-g
offset_bounds-busy-g c =
    let a = c.args in
    let s = c.loop-i in
    omega (arith, tags-row a.time a.m a.waiting.now s.waiting s.i s.invariant.1 GUEST, c.requires.by_index s.i c.loop-i-test.true)

pub bounds-busy-g : goal.bounds-busy-g
bounds-busy-g c =
    let a = c.args in
    let s = c.loop-i in
    omega (arith, tags-row a.time a.m a.waiting.now s.waiting s.i s.invariant.1 GUEST, c.requires.by_index s.i c.loop-i-test.true)

pub loop-i-preserved : goal.loop-i-preserved
loop-i-preserved c =
    let a = c.args in
    let s = c.loop-i in
    let ws = a.waiting.now in
    let g = tags-row a.time a.m ws s.waiting s.i s.invariant.1 GUEST in (
      simp length-set (omega arith),
      tags-next a.time a.m ws s.waiting s.i s.invariant.1 c.moved-to.result c.moved-to.ensures,
      rw g (marked_next ws a.busy.now s.i s.busy s.invariant.0 (c.requires.by_index s.i c.loop-i-test.true) s.invariant.2),
    )
