-- `step` meets its contract, by what its callees promise. Assumes nothing.
use mathlib.Core.Path.{◌∙◌}
use Rattle.index.proofs.Laws.{stands-refused}
use Rattle.enter.proofs.Besides.{beside_entered, entered_snug}
use Rattle.step.proofs.Besides.{beside_refused, kept_step}
use Rattle.step.proofs.Moves.{refused-moves, entered_known, entered_moves}
use Rattle.step.proofs.step.Goals as goal

pub enter-entered-requires : goal.enter-entered-requires
enter-entered-requires c = let p = c.requires in record {
  known = p.known;
  beside = p.beside.0;
}

pub choose-requires : goal.choose-requires
choose-requires c =
    let x = c.enter-entered in
    let e = c.in-Ok.is in record {
      known = entered_known c.args.gate c.args.guests.now c.args.waiting.now c.args.flight.now c.requires.known c.args.event x.result _ _ _ x.ensures.enters _ e;
      beside = (beside_entered c.args.gate x.result _ e x.ensures.enters_beside, entered_snug c.args.gate c.args.guests.now c.args.waiting.now c.args.flight.now c.requires.known c.args.event x.result x.new.guests x.new.waiting x.new.flight c.args.index.now x.new.index x.ensures.enters _ e x.auto.waiting x.auto.index c.requires.beside.1);
    }

pub returns-in-Err : goal.returns-in-Err
returns-in-Err c =
    let x = c.enter-entered in
    let e = c.in-Err.is in
    let m = refused-moves c.args.gate c.args.guests.now c.args.waiting.now c.args.flight.now c.requires.known c.args.event x.result _ _ _ x.ensures.enters _ e _ c.decided.ensures in
    rw (stands-refused c.args.index.now _ _ c.args.gate c.decided.ensures) (record {
      leaves = m.0;
      known_2 = m.1;
      beside_2 = beside_refused c.args.gate x.result _ e _ _ c.decided.ensures x.ensures.enters_beside;
    })

pub shape_of-guests-in-Ok : goal.shape_of-guests-in-Ok
shape_of-guests-in-Ok c = c.choose.auto.guests ∙ c.enter-entered.auto.guests

pub returns-in-Ok : goal.returns-in-Ok
returns-in-Ok c =
    let x = c.enter-entered in
    let y = c.choose.ensures in
    let m = entered_moves c.args.gate c.args.guests.now c.args.waiting.now c.args.flight.now c.requires.known c.args.event x.result _ _ _ x.ensures.enters _ c.in-Ok.is _ _ _ _ y.leaves in
    let k = kept_step _ c.args.gate c.args.guests.now c.args.waiting.now c.args.flight.now _ _ _ _ c.args.index.now _ _ x.auto.index m y.beside_2 in record {
      leaves = k.0;
      known_2 = k.1.0;
      beside_2 = k.1.1;
    }
