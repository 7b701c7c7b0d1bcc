-- `hears::hear_good` meets its contract: a refusal, or the choice on what entered. Assumes nothing.
use mathlib.Core.Path.{sym, ap}
use Rattle.index.proofs.Laws.{stands-kept}
use Rattle.judge.specs.declared.Said.{Said}
use Rattle.judge.proofs.Heard.{good-refused, good-known, good_entered}
use Rattle.enter.proofs.Besides.{beside_barred, beside_entered, entered_snug}
use Rattle.hears.proofs.Besides.{beside_said, refused-stands}
use Rattle.hears.proofs.hear_good.Goals as goal

pub hear_choice-requires : goal.hear_choice-requires
hear_choice-requires c =
    let x = c.enter-entered in
    let e = c.in-Ok.is in record {
      known = good-known c.args.gate c.args.guests.now c.args.waiting.now c.args.flight.now c.requires.known c.args.event c.args.number c.args.said.now x.result _ _ _ x.ensures.enters _ e;
      beside = (beside_entered c.args.gate x.result _ e x.ensures.enters_beside, entered_snug c.args.gate c.args.guests.now c.args.waiting.now c.args.flight.now c.requires.known c.args.event x.result x.new.guests x.new.waiting x.new.flight c.args.index.now x.new.index x.ensures.enters _ e x.auto.waiting x.auto.index c.requires.beside.1);
    }

pub returns-in-Err : goal.returns-in-Err
returns-in-Err c =
    let x = c.enter-entered in
    let e = c.in-Err.is in
    let p = c.hear_plain in
    let q = refused-stands c.args.index.now x.new.waiting p.result p.ensures in record {
      hears = rw q (good-refused c.args.gate c.args.guests.now c.args.waiting.now c.args.flight.now c.requires.known c.args.event c.args.number c.args.said.now x.result _ _ _ x.ensures.enters _ e p.result p.ensures);
      beside_2 = rw q (λ some. beside_said c.args.gate p.result (ap Said.gate p.ensures) (beside_barred c.args.gate x.result _ e x.ensures.enters_beside));
    }

pub returns-in-Ok : goal.returns-in-Ok
returns-in-Ok c =
    let x = c.enter-entered in
    let d = c.hear_choice in
    let q = sym (stands-kept c.args.index.now x.new.index d.new.waiting d.result.answer x.auto.index) in record {
      hears = rw q (good_entered c.args.gate c.args.guests.now c.args.waiting.now c.args.flight.now c.requires.known c.args.event c.args.number c.args.said.now x.result _ _ _ x.ensures.enters _ c.in-Ok.is d.ensures.hears);
      beside_2 = rw q d.ensures.beside_2;
    }
