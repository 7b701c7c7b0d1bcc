-- `step_and_wake` meets its contract: what the step leaves is known, so that the time to wake may be asked of it. Assumes nothing.
use mathlib.Core.Path.{refl, sym}
use Rattle.step.proofs.Besides.{beside_handed, wake-asked, wake-said, handed-stands}
use Rattle.step.proofs.Moves.{refused-told, woken_told}
use Rattle.step.proofs.step_and_wake.Goals as goal

pub step-made-requires : goal.step-made-requires
step-made-requires c = record { known = c.requires.known; beside = c.requires.beside }

pub wake_after-wake-requires : goal.wake_after-wake-requires
wake_after-wake-requires c =
    let m = c.step-made in
    let w = wake-asked c.args.gate c.args.guests.now c.args.waiting.now c.args.flight.now c.args.event m.result _ _ _ c.args.index.now _ m.auto.index m.ensures.leaves m.ensures.known_2 m.ensures.beside_2 m.auto.waiting c.requires.beside.1
    in record { by_index = w.0; beside = w.1 }

pub returns-in-Refused : goal.returns-in-Refused
returns-in-Refused c =
    let m = c.step-made in
    let h = refused-told c.args.gate c.args.guests.now c.args.waiting.now c.args.flight.now c.requires.known c.args.event m.result _ _ _ m.ensures.leaves m.ensures.known_2 _ c.in-Refused.is _ c.refused.ensures in
    rw (handed-stands c.args.index.now _ m.result _ _ _ c.refused.ensures (sym c.in-Refused.is)) (record {
      flight_after = h.0;
      known_2 = h.1;
      beside_2 = beside_handed m.result.gate _ _ _ c.refused.ensures m.ensures.beside_2;
    })

pub returns-in_default : goal.returns-in_default
returns-in_default c =
    let m = c.step-made in
    let w = wake-said c.args.gate c.args.guests.now c.args.waiting.now c.args.flight.now c.args.event m.result _ _ _ c.args.index.now _ m.auto.index m.ensures.known_2 _ c.wake_after-wake.ensures in
    let h = woken_told c.args.gate c.args.guests.now c.args.waiting.now c.args.flight.now c.requires.known c.args.event m.result _ _ _ m.ensures.leaves m.ensures.known_2
    c.in_default.not-Refused
    _ w _ c.answered.ensures in
    rw (handed-stands c.args.index.now _ m.result _ _ _ c.answered.ensures refl) (record {
      flight_after = h.0;
      known_2 = h.1;
      beside_2 = beside_handed m.result.gate _ _ _ c.answered.ensures m.ensures.beside_2;
    })
