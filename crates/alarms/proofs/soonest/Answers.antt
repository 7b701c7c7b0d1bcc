-- `soonest` meets its contract. After some guests the loop holds the smallest time of their rows, which is still ahead. Assumes nothing.
use native.Mathlib.Omega.{arith}
use Rattle.seeks.specs.Reads.{row_here}
use Rattle.alarms.specs.Woken.{woken_start, woken_none, woken_now, woken_next, woken_end}
use Rattle.alarms.proofs.soonest.Goals as goal
use Rattle.alarms.proofs.soonest.Goals.{then-number-gt0+else-ready-queue, else-number-gt0}

pub loop-g-init : goal.loop-g-init
loop-g-init c =
    let a = c.args.queue in
    woken_start a.guests.now a.waiting.now a.known a.count a.time c.args.rule c.requires.time_le_ceiling

pub overflow_cast-number : goal.overflow_cast-number
overflow_cast-number c = omega (arith, c.type_inv.index c.loop-g.g)

pub overflow_mul-number : goal.overflow_mul-number
overflow_mul-number c =
    omega (arith, (row_here (c.requires.indexed.first c.loop-g.g (omega arith)) c.if-number-gt0.true).0)

pub ready_under-ready-requires : goal.ready_under-ready-requires
ready_under-ready-requires c =
    let r = row_here (c.requires.indexed.first c.loop-g.g (omega arith)) c.if-number-gt0.true in
    (omega (arith, r.0), omega arith, omega arith)

pub returns-then-ready-queue : goal.returns-then-ready-queue
returns-then-ready-queue c =
    let s = c.loop-g in
    let a = c.args.queue in
    let r = row_here (c.requires.indexed.first s.g (omega arith)) c.if-number-gt0.true in
    woken_now a.guests.now a.waiting.now a.known a.count a.time c.args.rule s.invariant c.requires.owned.0 c.requires.owned.1 r.0 r.1 c.ready_under-ready.ensures c.if-ready-queue.true

pub loop-g-preserved : goal.loop-g-preserved
loop-g-preserved c =
    let s = c.loop-g in
    let a = c.args.queue in
    let leads = c.requires.indexed.first s.g (omega arith) in
    elim c.if-number-gt0.branch [
      | then-number-gt0+else-ready-queue v ↦ let r = row_here leads v.if-number-gt0.true in
          rw v.first-is (woken_next a.guests.now a.waiting.now a.known a.count a.time c.args.rule s.invariant c.requires.owned.0 c.requires.owned.1 r.0 r.1 v.ready_under-ready.ensures v.if-ready-queue.false _ (omega arith))
      | else-number-gt0 v ↦ rw v.first-is (woken_none a.guests.now a.waiting.now a.known a.count a.time c.args.rule s.invariant (leads.none (omega (arith, v.if-number-gt0.false))))
    ]

pub returns : goal.returns
returns c =
    let a = c.args.queue in
    woken_end a.guests.now a.waiting.now a.known a.count a.time c.args.rule c.loop-g.invariant (omega arith) c.requires.count_nonzero.0 c.requires.owned.0 c.requires.owned.2
