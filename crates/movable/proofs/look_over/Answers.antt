use Prim.Native.Nat.{ℕ, ◌+◌, ◌-◌, ◌*◌}
use mathlib.Core.Path.{◌≡◌, refl, sym, ap, ◌∙◌}
use mathlib.Core.Bool.{true, false}
use native.Mathlib.Omega.{arith}
use lib.ListN.{take, drop}
use Rattle.trace.specs.Event.{event_of, events_of, whole}
use Rattle.trace.proofs.EventLaws.{event_take}
use Rattle.trace.proofs.Shown.{read-shown_once}
use Rattle.moved.specs.Moves.{is_bad, is_dear, first_that, sooner, event_number}
use Rattle.moved.proofs.First.{first_more, first-here, made-number, sooner_or, sooner_not}
use Rattle.movable.proofs.look_over.Goals as goal
use Rattle.movable.proofs.look_over.Goals.{then-is_dear, else-is_dear}

pub loop-i-init : goal.loop-i-init
unfolding first_that events_of
loop-i-init c = (refl, refl)

pub returns-in_default : goal.returns-in_default
returns-in_default c =
    let l = c.loop-i in
    let a = c.args in
    let from = l.i * 14 in
    let n : from + 14 - from ≡ 14 = omega arith in
    let x = c.read_event in
    let e = read-shown_once x.result _ x.ensures ∙ ap (λ (k : ℕ). event_of a.version (take k (drop from a.bytes.now))) n ∙ event_take a.version (drop from a.bytes.now) in
    let number = made-number c.new-number.result (l.i + 1) c.new-number.ensures in
    let told : is_bad (event_of a.version (drop from a.bytes.now)) ≡ true = ap is_bad (sym e ∙ c.in_default.is) in
    (refl, omega (arith, number), number ∙ sym (first-here is_bad a.version l.i (whole a.bytes.now) a.bytes.now (omega arith) l.invariant.0 told))

pub loop-i-preserved : goal.loop-i-preserved
loop-i-preserved c =
    let l = c.loop-i in
    let a = c.args in
    let from = l.i * 14 in
    let n : from + 14 - from ≡ 14 = omega arith in
    let x = c.read_event in
    let e = read-shown_once x.result _ x.ensures ∙ ap (λ (k : ℕ). event_of a.version (take k (drop from a.bytes.now))) n ∙ event_take a.version (drop from a.bytes.now) in
    let number = made-number c.new-number.result (l.i + 1) c.new-number.ensures in
    let good : is_bad (event_of a.version (drop from a.bytes.now)) ≡ false = ap is_bad (sym e ∙ c.in-Some.is) in
    let told : is_dear (event_of a.version (drop from a.bytes.now)) ≡ c.is_dear.result = ap is_dear (sym e ∙ c.in-Some.is) ∙ sym c.is_dear.ensures in
    let more = sym (first_more is_dear a.version l.i a.bytes.now) in (
      first_more is_bad a.version l.i a.bytes.now ∙ (λ j. sooner (l.invariant.0 j) (good j) (l.i + 1)),
      elim c.if-is_dear.branch [
        | then-is_dear w ↦
            ap event_number (w.dear-is ∙ w.or-dear.ensures)
            ∙ sooner_or l.dear c.new-number.result
            ∙ (λ j. sooner (l.invariant.1 j) (sym (told ∙ w.if-is_dear.true) j) (number j))
            ∙ more
        | else-is_dear w ↦
            ap event_number w.dear-is
            ∙ sym (sooner_not (event_number l.dear) (l.i + 1))
            ∙ (λ j. sooner (l.invariant.1 j) (sym (told ∙ w.if-is_dear.false) j) (l.i + 1))
            ∙ more
      ],
    )
