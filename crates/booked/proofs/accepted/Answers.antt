-- `accepted` meets its contract, by what its callees promise. Assumes nothing.
use mathlib.Core.Path.{ap, ap₂, ◌∙◌}
use Rattle.booked.specs.Turns.{struck_in, sent_in}
use Rattle.booked.proofs.Noting.{notable}
use Rattle.booked.proofs.Turning.{settled_asks}
use Rattle.booked.proofs.accepted.Goals as goal

pub noted-requires : goal.noted-requires
noted-requires c =
    notable c.args.number c.args.gate c.args.guests.now c.args.waiting.now c.args.flight.now c.args.book.now c.args.figures.now c.requires.known c.args.event c.requires.entering

pub choose-made-requires : goal.choose-made-requires
choose-made-requires c = let p = c.requires in record {
  known = p.known;
  beside = p.beside;
}

pub settled-requires : goal.settled-requires
settled-requires c =
    let b = c.noted in
    let m = c.choose-made in
    settled_asks c.args.number c.args.gate c.args.guests.now c.args.waiting.now c.args.flight.now c.args.book.now c.args.figures.now c.requires.known c.args.event c.requires.entering _ _ b.ensures.book_after b.ensures.figures_after m.result _ _ _ m.ensures.leaves

pub returns : goal.returns
returns c =
    let a = c.args in
    let b = c.noted in
    let m = c.choose-made in
    let l = c.settled in record {
      leaves = m.ensures.leaves;
      book_after = l.ensures.book_after ∙ ap (struck_in m.result.answer a.gate) b.ensures.book_after;
      figures_after = l.ensures.figures_after ∙ ap₂ (sent_in m.result.answer a.gate) b.ensures.book_after b.ensures.figures_after;
      beside_2 = m.ensures.beside_2;
    }
