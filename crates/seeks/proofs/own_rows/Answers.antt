-- The loop knows that no row of the guest before the next one is this request; that next one is further on at each turn.
use Prim.Native.Nat.{◌+◌, ◌-◌, ◌<◌}
use mathlib.Core.Path.{◌≡◌}
use mathlib.Core.Bool.{true, false}
use native.Mathlib.Omega.{arith}
use Rattle.walks.specs.Survey.{own_of, idle_in}
use Rattle.index.specs.Index.{NEXTS, first_at}
use Rattle.seeks.specs.Reads.{row_further}
use Rattle.seeks.specs.Sought.{sought_start, sought_next, sought_hit, sought_end, none-waits, some-waits}
use Rattle.seeks.proofs.own_rows.Goals as goal

pub overflow_cast-next : goal.overflow_cast-next
overflow_cast-next c = omega (arith, c.type_inv.index c.args.guest)

pub returns-then-next-eq0 : goal.returns-then-next-eq0
unfolding own_of
returns-then-next-eq0 c =
    let a = c.args in
    let i = c.requires.indexed in
    let h = c.requires.count_le_most_capacity.2 in
    let e = sought_end i a.guest a.id (sought_start i a.guest a.id h) (omega (arith, c.if-next-eq0.true)) false (none-waits i a.guest a.id h c.if-next-eq0.true) in
    let y : idle_in a.waiting.now a.count a.guest ≡ true = e.1 in
    rw (e.0, y)

pub loop-next-init : goal.loop-next-init
loop-next-init c = sought_start c.requires.indexed c.args.guest c.args.id c.requires.count_le_most_capacity.2

pub returns-then-waiting-row : goal.returns-then-waiting-row
unfolding own_of
returns-then-waiting-row c =
    rw (sought_hit c.requires.indexed c.args.guest c.args.id c.loop-next.invariant c.loop-next-test.true c.if-waiting-row.true)

pub overflow_cast-next-in-loop-next : goal.overflow_cast-next-in-loop-next
overflow_cast-next-in-loop-next c = omega (arith, c.type_inv.index (NEXTS + (c.loop-next.next - 1)))

pub loop-next-smaller : goal.loop-next-smaller
loop-next-smaller c =
    row_further c.loop-next.invariant.leads c.loop-next-test.true c.requires.indexed

pub loop-next-preserved : goal.loop-next-preserved
loop-next-preserved c =
    sought_next c.requires.indexed c.args.guest c.args.id c.loop-next.invariant c.loop-next-test.true c.if-waiting-row.false

pub returns : goal.returns
unfolding own_of
returns c =
    let a = c.args in
    let i = c.requires.indexed in
    let some : 0 < first_at a.index.now a.guest = omega (arith, c.if-next-eq0.false) in
    let e = sought_end i a.guest a.id c.loop-next.invariant c.loop-next-test.false true (some-waits i a.guest a.id c.requires.count_le_most_capacity.2 some) in
    let y : idle_in a.waiting.now a.count a.guest ≡ false = e.1 in
    rw (e.0, y)
