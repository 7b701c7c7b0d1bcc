-- The loop knows of the rows passed that none is this request, and whether one is of its guest.
use mathlib.Core.Path.{◌≡◌, ap, ◌∙◌}
use mathlib.Core.Bool.{true, false, not}
use Rattle.walks.specs.Survey.{own_of, idle_in}
use Rattle.walks.specs.SurveyLaws.{search_start, search_hit, search_own, search_other, search_end}
use Rattle.walks.proofs.survey.own_rows.Goals as goal

pub loop-row-init : goal.loop-row-init
loop-row-init c = let a = c.args in search_start a.waiting.now a.count a.guest a.id

pub returns-then-waiting-at-2 : goal.returns-then-waiting-at-2
unfolding own_of
returns-then-waiting-at-2 c =
    let a = c.args in
    let s = c.loop-row in
    rw (search_hit a.waiting.now a.count a.guest a.id s.invariant c.loop-row-test.true s.auto.row c.if-waiting-at.true c.if-waiting-at-2.true)

pub loop-row-preserved-then-waiting-at : goal.loop-row-preserved-then-waiting-at
loop-row-preserved-then-waiting-at c =
    let a = c.args in
    let s = c.loop-row in
    search_own a.waiting.now a.count a.guest a.id s.invariant c.loop-row-test.true s.auto.row c.if-waiting-at.true c.if-waiting-at-2.false

pub loop-row-preserved : goal.loop-row-preserved
loop-row-preserved c =
    let a = c.args in
    let s = c.loop-row in
    search_other a.waiting.now a.count a.guest a.id s.invariant c.loop-row-test.true s.auto.row c.if-waiting-at.false

pub returns-then-waits : goal.returns-then-waits
unfolding own_of
returns-then-waits c =
    let a = c.args in
    let e = search_end a.waiting.now a.count a.guest a.id c.loop-row.invariant c.loop-row-test.false in
    let y : idle_in a.waiting.now a.count a.guest ≡ false = e.1 ∙ ap not c.if-waits.true in
    rw (e.0, y)

pub returns-else-waits : goal.returns-else-waits
unfolding own_of
returns-else-waits c =
    let a = c.args in
    let e = search_end a.waiting.now a.count a.guest a.id c.loop-row.invariant c.loop-row-test.false in
    let y : idle_in a.waiting.now a.count a.guest ≡ true = e.1 ∙ ap not c.if-waits.false in
    rw (e.0, y)
