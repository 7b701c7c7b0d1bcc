-- Each way out is a test of the list. Assumes nothing.
use mathlib.Core.Path.{sym, ◌∙◌}
use Rattle.arrays.proofs.Found.{open_arrays_bad, open_array_bad, open_counts_bad, open_rule_bad, open_few, open_short, open_fit}
use mathlib.Core.Bool.{not}
use mathlib.Core.Path.{ap}
use Rattle.sites.proofs.judge_opening.Goals as goal
use Rattle.sites.proofs.judge_opening.Goals.{then-not-is_counted-via-then-not-is_counted, then-not-is_counted-via-else-not-is_counted+then-not-is_ruled}
use Rattle.sites.proofs.judge_opening.Goals.{then-not-is_several-via-then-not-is_several, then-not-is_several-via-else-not-is_several+then-is_absent}

pub returns-then-not-is_several : goal.returns-then-not-is_several
returns-then-not-is_several c =
    let a = c.args in
    elim c.then-not-is_several.branch [
      | then-not-is_several-via-then-not-is_several w ↦ open_arrays_bad a.site a.opening.setup.depth a.opening.guests a.opening.setup.capacity a.opening.setup.rule a.counters.now a.phases.now _ c.is_several.ensures (ap not w.if-not-is_several.true)
      | then-not-is_several-via-else-not-is_several+then-is_absent w ↦ open_array_bad a.site a.opening.setup.depth a.opening.guests a.opening.setup.capacity a.opening.setup.rule a.counters.now a.phases.now _ c.is_several.ensures (ap not w.if-not-is_several.false) (sym w.is_absent.ensures ∙ w.if-is_absent.true)
    ]

pub returns-then-not-is_counted : goal.returns-then-not-is_counted
returns-then-not-is_counted c =
    let a = c.args in
    elim c.then-not-is_counted.branch [
      | then-not-is_counted-via-then-not-is_counted w ↦ open_counts_bad a.site a.opening.setup.depth a.opening.guests a.opening.setup.capacity a.opening.setup.rule a.counters.now a.phases.now _ c.is_several.ensures (ap not c.if-not-is_several.false) (sym c.is_absent.ensures ∙ c.if-is_absent.false) _ c.is_counted.ensures (ap not w.if-not-is_counted.true)
      | then-not-is_counted-via-else-not-is_counted+then-not-is_ruled w ↦ open_rule_bad a.site a.opening.setup.depth a.opening.guests a.opening.setup.capacity a.opening.setup.rule a.counters.now a.phases.now _ c.is_several.ensures (ap not c.if-not-is_several.false) (sym c.is_absent.ensures ∙ c.if-is_absent.false) _ c.is_counted.ensures (ap not w.if-not-is_counted.false) _ w.is_ruled.ensures (ap not w.if-not-is_ruled.true)
    ]

pub is_short-requires : goal.is_short-requires
is_short-requires c =
    let a = c.args in
    open_few a.site a.opening.setup.depth a.opening.guests a.opening.setup.capacity a.opening.setup.rule a.counters.now a.phases.now _ c.is_several.ensures (ap not c.if-not-is_several.false) (sym c.is_absent.ensures ∙ c.if-is_absent.false) _ c.is_counted.ensures (ap not c.if-not-is_counted.false) _ c.is_ruled.ensures

pub returns-then-is_short : goal.returns-then-is_short
returns-then-is_short c =
    let a = c.args in
    open_short a.site a.opening.setup.depth a.opening.guests a.opening.setup.capacity a.opening.setup.rule a.counters.now a.phases.now _ c.is_several.ensures (ap not c.if-not-is_several.false) (sym c.is_absent.ensures ∙ c.if-is_absent.false) _ c.is_counted.ensures (ap not c.if-not-is_counted.false) _ c.is_ruled.ensures (ap not c.if-not-is_ruled.false) _ c.is_short.ensures c.if-is_short.true

pub returns : goal.returns
returns c =
    let a = c.args in
    open_fit a.site a.opening.setup.depth a.opening.guests a.opening.setup.capacity a.opening.setup.rule a.counters.now a.phases.now _ c.is_several.ensures (ap not c.if-not-is_several.false) (sym c.is_absent.ensures ∙ c.if-is_absent.false) _ c.is_counted.ensures (ap not c.if-not-is_counted.false) _ c.is_ruled.ensures (ap not c.if-not-is_ruled.false) _ c.is_short.ensures c.if-is_short.false
