use Rattle.std.proofs.Common.{◌≡◌, refl, sym, ap, ◌∙◌, ◌<◌, false, length-take-le, get_or, get_or-take, ltb, leb, arith}
use Rattle.std.proofs.lemmas.Bool.{lt-leb, le-leb}
use Rattle.lists.specs.Walks.{below_fails}
use Rattle.lists.specs.WordsLaws.{join, right_fails}
use Rattle.arrays.specs.Phases.{good_phase, in_step}
use Rattle.phases.proofs.is_in_step.Goals as goal

pub returns-then-depth-flying : goal.returns-then-depth-flying
unfolding in_step
returns-then-depth-flying c = rw (lt-leb _ _ c.if-depth-flying.true) refl

pub returns-then-not-is_good_phase : goal.returns-then-not-is_good_phase
unfolding in_step
returns-then-not-is_good_phase c =
    let a = c.args in
    let p = c.loop-place.place in
    let here : p < a.depth = omega (arith, length-take-le a.depth a.phases.now c.requires, c.loop-place-test.true) in
    let bad : good_phase (ltb p a.flying) (get_or a.phases.now p 0) ≡ false =
    ap (good_phase (ltb p a.flying)) (sym (get_or-take a.depth a.phases.now p 0 here)) ∙ sym c.is_good_phase.ensures ∙ c.if-not-is_good_phase.true
    in
    sym (right_fails (leb a.flying a.depth) (below_fails (λ i. good_phase (ltb i a.flying) (get_or a.phases.now i 0)) a.depth p here bad))

pub returns : goal.returns
unfolding in_step
returns c =
    let a = c.args in
    let all : c.loop-place.place ≡ a.depth = omega (arith, length-take-le a.depth a.phases.now c.requires, c.loop-place-test.false) in
    sym (join (le-leb _ _ c.if-depth-flying.false) (rw all at c.loop-place.invariant))
