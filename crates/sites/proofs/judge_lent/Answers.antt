-- Each way out is a test of the list. Assumes nothing.
use native.Mathlib.Omega.{arith}
use Rattle.arrays.proofs.Found.{few_rows, arrays_bad, few_arrays, counts_bad, few_guests, lent-short, counters_long, phases_long, counters_bad, phases_bad, lent_fit}
use mathlib.Core.Bool.{not}
use mathlib.Core.Path.{ap}
use Rattle.sites.proofs.judge_lent.Goals as goal
use Rattle.sites.proofs.judge_lent.Goals.{then-not-is_good-via-then-not-is_good, then-not-is_good-via-else-not-is_good+then-not-is_in_step}

pub returns-then-not-is_several : goal.returns-then-not-is_several
returns-then-not-is_several c =
    let a = c.args in
    arrays_bad a.site a.gate a.counters.now a.phases.now _ c.is_several.ensures (ap not c.if-not-is_several.true)

pub returns-then-not-is_counted : goal.returns-then-not-is_counted
returns-then-not-is_counted c =
    let a = c.args in
    counts_bad a.site a.gate a.counters.now a.phases.now _ c.is_several.ensures (ap not c.if-not-is_several.false) _ c.is_counted.ensures (ap not c.if-not-is_counted.true)

pub is_short-requires : goal.is_short-requires
is_short-requires c =
    let a = c.args in (
      few_arrays a.site a.gate a.counters.now a.phases.now _ c.is_several.ensures (ap not c.if-not-is_several.false),
      few_guests a.site a.gate a.counters.now a.phases.now _ c.is_several.ensures (ap not c.if-not-is_several.false) _ c.is_counted.ensures (ap not c.if-not-is_counted.false),
    )

pub returns-then-is_short : goal.returns-then-is_short
returns-then-is_short c =
    let a = c.args in
    lent-short a.site a.gate a.counters.now a.phases.now _ c.is_several.ensures (ap not c.if-not-is_several.false) _ c.is_counted.ensures (ap not c.if-not-is_counted.false) _ c.is_short.ensures c.if-is_short.true

pub overflow_mul-arrays : goal.overflow_mul-arrays
overflow_mul-arrays c =
    let a = c.args in
    omega (
      arith,
      few_rows a.site.arrays a.gate.guests (few_arrays a.site a.gate a.counters.now a.phases.now _ c.is_several.ensures (ap not c.if-not-is_several.false)) (few_guests a.site a.gate a.counters.now a.phases.now _ c.is_several.ensures (ap not c.if-not-is_several.false) _ c.is_counted.ensures (ap not c.if-not-is_counted.false)),
    )

pub is_good-requires : goal.is_good-requires
is_good-requires c =
    let a = c.args in
    counters_long a.site a.gate a.counters.now a.phases.now _ c.is_several.ensures (ap not c.if-not-is_several.false) _ c.is_counted.ensures (ap not c.if-not-is_counted.false) _ c.is_short.ensures c.if-is_short.false

pub returns-then-not-is_good : goal.returns-then-not-is_good
returns-then-not-is_good c =
    let a = c.args in
    elim c.then-not-is_good.branch [
      | then-not-is_good-via-then-not-is_good w ↦ counters_bad a.site a.gate a.counters.now a.phases.now _ c.is_several.ensures (ap not c.if-not-is_several.false) _ c.is_counted.ensures (ap not c.if-not-is_counted.false) _ c.is_short.ensures c.if-is_short.false _ c.is_good.ensures (ap not w.if-not-is_good.true)
      | then-not-is_good-via-else-not-is_good+then-not-is_in_step w ↦ phases_bad a.site a.gate a.counters.now a.phases.now _ c.is_several.ensures (ap not c.if-not-is_several.false) _ c.is_counted.ensures (ap not c.if-not-is_counted.false) _ c.is_short.ensures c.if-is_short.false _ c.is_good.ensures (ap not w.if-not-is_good.false) _ w.is_in_step.ensures (ap not w.if-not-is_in_step.true)
    ]

pub is_in_step-requires : goal.is_in_step-requires
is_in_step-requires c =
    let a = c.args in
    phases_long a.site a.gate a.counters.now a.phases.now _ c.is_several.ensures (ap not c.if-not-is_several.false) _ c.is_counted.ensures (ap not c.if-not-is_counted.false) _ c.is_short.ensures c.if-is_short.false

pub returns : goal.returns
returns c =
    let a = c.args in
    lent_fit a.site a.gate a.counters.now a.phases.now _ c.is_several.ensures (ap not c.if-not-is_several.false) _ c.is_counted.ensures (ap not c.if-not-is_counted.false) _ c.is_short.ensures c.if-is_short.false _ c.is_good.ensures (ap not c.if-not-is_good.false) _ c.is_in_step.ensures (ap not c.if-not-is_in_step.false)
