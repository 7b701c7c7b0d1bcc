-- One row: read, done, answered; and the table stands where `gone` says. Assumes nothing.
use mathlib.Core.Path.{sym, ◌∙◌}
use native.Mathlib.Omega.{arith}
use Rattle.index.proofs.Laws.{stands-kept}
use Rattle.batch.proofs.Going.{turned}
use Rattle.bulk.proofs.answer_row.Goals as goal

pub overflow_mul-k : goal.overflow_mul-k
overflow_mul-k c = let p = c.requires.k_bound in omega (arith, p.0, p.1)

pub put_answer-requires : goal.put_answer-requires
put_answer-requires c = let p = c.requires.k_bound in omega (arith, p.0, p.1)

pub returns : goal.returns
returns c =
    let o = c.answer-outcome in
    let g = c.gone_on-gone in
    let n = o.auto.index in
    let q = sym (stands-kept c.args.index.now o.new.index o.new.waiting o.result.answer n) ∙ g.ensures.by_index o.new.waiting in record {
      gone_bound = (g.ensures.upper_bound.0, λ l. omega (arith, g.ensures.upper_bound.1 l, n));
      answers_after = rw (sym q) (turned _ c.args.k _ c.args.answers.now _ c.event_at-event.ensures (o.result, _, _, _) o.ensures.flight_after _ c.put_answer.ensures);
      judges_2 = rw (sym q) o.ensures.judges_2;
      beside_2 = rw (sym q) o.ensures.beside_2;
    }
