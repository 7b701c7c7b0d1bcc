-- `collect` meets its contract: each guest of a row that was passed has its bit, and the first row of each is collected. Assumes nothing.
use Prim.Native.Nat.{◌+◌, ◌-◌, ◌*◌}
use native.Mathlib.Omega.{arith}
use lib.ListN.{set}
use Rattle.table.specs.Columns.{waiting_wide}
use Rattle.picks.specs.Collected.{Collecting, collecting_start, collecting_next, collecting_all}
use Rattle.picks.proofs.collect.Goals as goal

pub loop-row-init : goal.loop-row-init
loop-row-init c =
    let a = c.args.queue in
    (collecting_start a.waiting.now a.known c.args.rows.now, λ some. omega (arith, c.requires.owned 0 some))

pub returns-then-n-queue : goal.returns-then-n-queue
returns-then-n-queue c =
    let s = c.loop-row in
    let a = c.args.queue in
    -- the row is passed: written down, and kept where it is the first of its guest
    let one : Collecting a.waiting.now a.known (set s.rows s.n (s.row * waiting_wide)) c.with_bit-seen.result (s.n + (1 - c.bit_of-bit.result)) (s.row + 1) =
    rw c.bit_of-bit.ensures
    (collecting_next a.waiting.now a.known a.count s.invariant.0 c.loop-row-test.true c.requires.owned (omega (arith, s.auto.rows, s.invariant.1 c.loop-row-test.true)) c.with_bit-seen.ensures)
    in
    (omega (arith, one.left), collecting_all a.waiting.now a.known a.count one (omega arith) c.requires.owned (omega (arith, c.if-n-queue.true)))

pub loop-row-preserved : goal.loop-row-preserved
loop-row-preserved c =
    let s = c.loop-row in
    let a = c.args.queue in
    -- the row is passed: written down, and kept where it is the first of its guest
    let one : Collecting a.waiting.now a.known (set s.rows s.n (s.row * waiting_wide)) c.with_bit-seen.result (s.n + (1 - c.bit_of-bit.result)) (s.row + 1) =
    rw c.bit_of-bit.ensures
    (collecting_next a.waiting.now a.known a.count s.invariant.0 c.loop-row-test.true c.requires.owned (omega (arith, s.auto.rows, s.invariant.1 c.loop-row-test.true)) c.with_bit-seen.ensures)
    in
    (one, λ more. omega (arith, one.left, c.if-n-queue.false))
