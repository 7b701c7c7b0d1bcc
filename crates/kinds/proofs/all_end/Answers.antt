-- The next numbers of the guests passed are right.
use mathlib.Core.Path.{◌≡◌, sym, ap, ◌∙◌}
use native.Mathlib.Omega.{arith}
use borrow.Author.Tests.{not-true, not-false}
use Rattle.lists.specs.Walks.{below_next, below_fails}
use Rattle.entries.specs.Kinds.{ends_at}
use mathlib.Core.Bool.{not}
use Rattle.kinds.proofs.all_end.Goals as goal

pub returns-then-not-is_end : goal.returns-then-not-is_end
returns-then-not-is_end c =
    let a = c.args in
    let s = c.loop-g in
    sym (below_fails (ends_at a.guests.now a.kind a.floors.now) a.known s.g c.loop-g-test.true (sym c.is_end.ensures ∙ not-true _ (ap not c.if-not-is_end.true)))

pub loop-g-preserved : goal.loop-g-preserved
loop-g-preserved c =
    let a = c.args in
    let s = c.loop-g in
    below_next (ends_at a.guests.now a.kind a.floors.now) s.g (sym c.is_end.ensures ∙ not-false _ (ap not c.if-not-is_end.false)) s.invariant

pub returns : goal.returns
returns c =
    let a = c.args in
    let s = c.loop-g in
    let e : s.g ≡ a.known = omega arith in
    sym (rw e at s.invariant)
