-- The loop has lowered the tags of the guest's rows before the next one; that next one is further on at each turn.
use Prim.Native.Nat.{◌+◌, ◌-◌, ◌*◌}
use mathlib.Core.Path.{refl, ◌∙◌}
use native.Mathlib.Omega.{arith}
use lib.ListN.{length-set}
use Rattle.rules.proofs.Spacings.{cost_le}
use Rattle.table.specs.Columns.{COST, RTAG, waiting_wide, waiting_at}
use Rattle.index.specs.Index.{NEXTS}
use Rattle.seeks.specs.Reads.{row_further}
use Rattle.trails.specs.Trail.{trail_start, trail_fits, trail_next, trail_end}
use Rattle.trails.proofs.lower_along.Goals as goal

pub overflow_cast-number : goal.overflow_cast-number
overflow_cast-number c = omega (arith, c.type_inv.index c.args.guest)

pub loop-number-init : goal.loop-number-init
loop-number-init c =
    let a = c.args in
    (refl, trail_start a.guest a.fall.by a.fall.spacing a.fall.next c.requires.indexed c.requires.waiting_wide_in_bounds.2)

pub overflow_mul-after : goal.overflow_mul-after
overflow_mul-after c =
    let s = c.loop-number in
    let a = c.args in
    let f = trail_fits a.guest a.fall.by a.fall.spacing a.fall.next c.requires.indexed s.invariant.1 c.loop-number-test.true c.requires.waiting_wide_in_bounds.3 in
    record { fits = omega (arith, cost_le (waiting_at s.waiting (s.number - 1) COST) a.fall.spacing f.1 c.requires.waiting_wide_in_bounds.1) }

pub overflow_add-after-in-loop-number : goal.overflow_add-after-in-loop-number
overflow_add-after-in-loop-number c =
    let s = c.loop-number in
    let a = c.args in
    let f = trail_fits a.guest a.fall.by a.fall.spacing a.fall.next c.requires.indexed s.invariant.1 c.loop-number-test.true c.requires.waiting_wide_in_bounds.3 in
    record { fits = omega (arith, f.0, c.saturating_sub-q.ensures, cost_le (waiting_at s.waiting (s.number - 1) COST) a.fall.spacing f.1 c.requires.waiting_wide_in_bounds.1) }

pub overflow_cast-number-in-loop-number : goal.overflow_cast-number-in-loop-number
overflow_cast-number-in-loop-number c = omega (arith, c.type_inv.index (NEXTS + (c.loop-number.number - 1)))

pub loop-number-smaller : goal.loop-number-smaller
loop-number-smaller c =
    row_further c.loop-number.invariant.1.leads c.loop-number-test.true c.requires.indexed

pub loop-number-preserved : goal.loop-number-preserved
loop-number-preserved c =
    let s = c.loop-number in
    let a = c.args in
    let cut = c.saturating_sub-q in (
      length-set s.waiting ((s.number - 1) * waiting_wide + RTAG) cut.result ∙ s.invariant.0,
      trail_next a.guest a.fall.by a.fall.spacing a.fall.next c.requires.indexed s.invariant.1 c.loop-number-test.true cut.ensures,
    )

pub shape_of-waiting : goal.shape_of-waiting
shape_of-waiting c = c.loop-number.invariant.0

pub returns : goal.returns
returns c =
    let a = c.args in
    let e = trail_end a.guest a.fall.by a.fall.spacing a.fall.next c.requires.indexed c.loop-number.invariant.1 c.loop-number-test.false in record { waiting_after = e.0; value = e.1 }
