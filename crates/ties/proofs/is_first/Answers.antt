-- `ties::is_first` meets its contract. The loop's invariant: no request before place i is of that guest. Assumes nothing.
use mathlib.Core.Path.{◌≡◌, refl, sym, ap, ◌∙◌}
use mathlib.Core.Bool.{not}
use native.Mathlib.Omega.{arith}
use borrow.Author.Tests.{eq-eqb, ne_eqb}
use Rattle.lists.specs.Walks.{below_next, below_fails}
use Rattle.judge.proofs.Tied.{other_at, leads-numbers}
use Rattle.ties.proofs.is_first.Goals as goal

pub loop-i-init : goal.loop-i-init
loop-i-init c = refl

pub returns-then-waiting-i : goal.returns-then-waiting-i
returns-then-waiting-i c =
    let a = c.args in
    let i = c.loop-i.i in
    λ count h. sym (leads-numbers a.waiting.now count a.place h ∙ below_fails (other_at a.waiting.now a.place) a.place i c.loop-i-test.true (ap not (eq-eqb _ _ c.if-waiting-i.true)))

pub loop-i-preserved : goal.loop-i-preserved
loop-i-preserved c =
    let a = c.args in
    let l = c.loop-i in
    below_next (other_at a.waiting.now a.place) l.i (ap not (ne_eqb _ _ c.if-waiting-i.false)) l.invariant

pub returns : goal.returns
returns c =
    let a = c.args in
    let l = c.loop-i in
    let all_of : l.i ≡ a.place = omega arith in
    λ count h. sym (leads-numbers a.waiting.now count a.place h ∙ (rw all_of at l.invariant))
