-- `soonest` meets its contract. After some rows the walk holds the smallest time of them, which is still ahead; a row whose guest is marked stands
-- behind an earlier one. Assumes nothing.
use Prim.Native.Nat.{◌-◌, ◌≤◌}
use native.Mathlib.Omega.{arith}
use Rattle.std.proofs.Common.{ℕ, ◌<◌, ◌≡◌, Bool, true, false, List, length, get_or, set}
use Rattle.walks.specs.Unseen.{mark_in, marked_set, unseen, unseen_most, unseen-some, unseen-mark}
use Rattle.wakes.specs.Ready.{ready_start, ready_now, ready_next, ready_skip, ready_rest, ready_end}
use Rattle.wakes.proofs.soonest.Goals as goal

-- a row that is the first of its guest: one guest is left to see
left-before : (seen : List Bool) (known g left : ℕ) → g < known → get_or seen g false ≡ false → unseen (mark_in seen) known ≤ left → 1 ≤ left
left-before seen known g left here fresh h = omega (arith, h, unseen-some (mark_in seen) known g here (rw fresh))

-- and one less behind it
left-after : (seen : List Bool) (known g left : ℕ) → g < length seen → g < known → get_or seen g false ≡ false → unseen (mark_in seen) known ≤ left → unseen (mark_in (set seen g true)) known ≤ left - 1
left-after seen known g left long here fresh h =
    omega (arith, h, unseen-mark (mark_in seen) (mark_in (set seen g true)) known g (marked_set seen g long) here (rw fresh))

pub loop-row-init : goal.loop-row-init
loop-row-init c =
    let a = c.args.queue in
    (ready_start a.guests.now a.waiting.now a.known a.count a.time c.args.rule c.requires.time_le_ceiling, unseen_most _ a.known)

pub loop-row-preserved-then-seen-guest : goal.loop-row-preserved-then-seen-guest
loop-row-preserved-then-seen-guest c =
    let s = c.loop-row in
    let a = c.args.queue in
    (ready_skip a.guests.now a.waiting.now a.known a.count a.time c.args.rule s.invariant.0 c.loop-row-test.true c.requires.owned.0 c.requires.count_nonzero.3 c.requires.owned.1 c.if-seen-guest.true, s.invariant.1)

pub overflow_sub-left : goal.overflow_sub-left
overflow_sub-left c =
    let s = c.loop-row in
    left-before s.seen c.args.queue.known _ s.left (c.requires.owned.0 s.row c.loop-row-test.true) c.if-seen-guest.false s.invariant.1

pub returns-then-ready-queue : goal.returns-then-ready-queue
returns-then-ready-queue c =
    let s = c.loop-row in
    let a = c.args.queue in
    ready_now a.guests.now a.waiting.now a.known a.count a.time c.args.rule s.invariant.0 c.loop-row-test.true c.requires.owned.0 _ c.ready_under-ready.ensures c.if-ready-queue.true

pub returns-then-left-eq0 : goal.returns-then-left-eq0
returns-then-left-eq0 c =
    let s = c.loop-row in
    let a = c.args.queue in
    let w = a.waiting.now in
    let g = a.guests.now in
    let known = c.requires.owned.0 s.row c.loop-row-test.true in
    let fewer = left-after s.seen a.known _ s.left (omega (arith, known, s.invariant.0.marks.long)) known c.if-seen-guest.false s.invariant.1 in
    ready_end g w a.known a.count a.time c.args.rule
    (ready_rest g w a.known a.count a.time c.args.rule
    (ready_next g w a.known a.count a.time c.args.rule s.invariant.0 c.loop-row-test.true c.requires.owned.0 _ c.ready_under-ready.ensures c.if-ready-queue.false _ (omega arith)) (omega arith) c.requires.owned.0
    c.requires.count_nonzero.3 c.requires.owned.1 (omega (arith, fewer, c.if-left-eq0.true)))
    (omega arith) c.requires.count_nonzero.0 c.requires.owned.0 c.requires.owned.2

pub loop-row-preserved : goal.loop-row-preserved
loop-row-preserved c =
    let s = c.loop-row in
    let a = c.args.queue in
    let known = c.requires.owned.0 s.row c.loop-row-test.true in (
      ready_next a.guests.now a.waiting.now a.known a.count a.time c.args.rule s.invariant.0 c.loop-row-test.true c.requires.owned.0 _ c.ready_under-ready.ensures c.if-ready-queue.false _ (omega arith),
      left-after s.seen a.known _ s.left (omega (arith, known, s.invariant.0.marks.long)) known c.if-seen-guest.false s.invariant.1,
    )

pub returns : goal.returns
returns c =
    let a = c.args.queue in
    ready_end a.guests.now a.waiting.now a.known a.count a.time c.args.rule c.loop-row.invariant.0 (omega arith) c.requires.count_nonzero.0 c.requires.owned.0 c.requires.owned.2
