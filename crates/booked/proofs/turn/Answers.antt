-- `turn` meets its contract, by what its callees promise and the laws of a turn. Assumes nothing.
use Prim.Native.Nat.{ℕ, ◌^◌, ◌<◌}
use mathlib.Core.Path.{sym, ◌∙◌}
use native.Mathlib.Omega.{arith}
use Rattle.index.proofs.Laws.{stands-kept}
use Rattle.enter.proofs.Besides.{beside_entered, entered_snug}
use Rattle.tally.specs.Columns.{LOWER, figure_at}
use Rattle.booked.proofs.Turning.{refused-turn, refused_beside, entering, entered_turn, entered_at}
use borrow.Author.Rules.{rules}
use Rattle.booked.proofs.turn.Goals as goal

pub enter-requires : goal.enter-requires
enter-requires c = let p = c.requires in record {
  known = p.known;
  beside = p.beside.0;
}

pub accepted-made-requires : goal.accepted-made-requires
accepted-made-requires c =
    let x = c.enter in
    let e = c.in-Ok.is in
    let a = entered_at c.args.event c.args.gate c.args.guests.now c.args.waiting.now c.args.flight.now x.result _ _ _ x.ensures.enters _ e in record {
      known = a.known;
      entering = entering c.args.number c.args.gate c.args.guests.now c.args.waiting.now c.args.flight.now c.args.book.now c.args.figures.now c.requires.known c.requires.kept c.requires.number_bound c.args.event _ _ _ _ a;
      beside = (
        beside_entered c.args.gate x.result _ e x.ensures.enters_beside,
        entered_snug c.args.gate c.args.guests.now c.args.waiting.now c.args.flight.now c.requires.known c.args.event x.result x.new.guests x.new.waiting x.new.flight c.args.index.now x.new.index x.ensures.enters _ e x.auto.waiting x.auto.index c.requires.beside.1,
      );
    }

pub returns-in-Err : goal.returns-in-Err
returns-in-Err c =
    let x = c.enter in
    let e = c.in-Err.is in
    let r = refused-turn c.args.number c.args.gate c.args.guests.now c.args.waiting.now c.args.flight.now c.args.book.now c.args.figures.now c.requires.known c.requires.kept c.args.event _ x.result _ _ _ x.ensures.enters e in record {
      gone_bound = (omega arith, λ l. absurd (omega (arith, l)));
      figures_after = r.0;
      known_2 = r.1;
      kept_2 = r.2;
      beside_2 = refused_beside c.args.gate x.result _ e x.ensures.enters_beside;
    }

pub shape_of-guests-in-Ok : goal.shape_of-guests-in-Ok
shape_of-guests-in-Ok c = c.accepted-made.auto.guests ∙ c.enter.auto.guests

pub shape_of-waiting-in-Ok : goal.shape_of-waiting-in-Ok
shape_of-waiting-in-Ok c = c.accepted-made.auto.waiting ∙ c.enter.auto.waiting

pub shape_of-flight-in-Ok : goal.shape_of-flight-in-Ok
shape_of-flight-in-Ok c = c.accepted-made.auto.flight ∙ c.enter.auto.flight

pub shape_of-index-in-Ok : goal.shape_of-index-in-Ok
shape_of-index-in-Ok c = c.accepted-made.auto.index ∙ c.enter.auto.index

pub returns-in-Ok : goal.returns-in-Ok
returns-in-Ok c =
    let x = c.enter in
    let m = c.accepted-made in
    let g = c.gone_on in
    let a = entered_at c.args.event c.args.gate c.args.guests.now c.args.waiting.now c.args.flight.now x.result _ _ _ x.ensures.enters _ c.in-Ok.is in
    let low : (j : ℕ) → figure_at c.args.figures.now j LOWER < 2 ^ 64 = λ j. search rules in
    let r = entered_turn c.args.number c.args.gate c.args.guests.now c.args.waiting.now c.args.flight.now c.args.book.now c.args.figures.now c.requires.known c.requires.kept c.requires.number_bound low c.args.event _ _ _ _ a m.result _ _ _ _ _ m.ensures.leaves m.ensures.book_after m.ensures.figures_after in
    let q = sym (stands-kept x.new.index m.new.index m.new.waiting m.result.answer m.auto.index) ∙ g.ensures.by_index m.new.waiting in record {
      gone_bound = (g.ensures.upper_bound.0, λ l. omega (arith, g.ensures.upper_bound.1 l, x.auto.index, m.auto.index));
      figures_after = rw (sym q) r.0;
      known_2 = rw (sym q) r.1;
      kept_2 = rw (sym q) r.2;
      beside_2 = rw (sym q) m.ensures.beside_2;
    }
