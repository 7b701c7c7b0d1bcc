-- What is lent is the table that stands in the window. Assumes nothing.
use Prim.Native.Nat.{ℕ}
use mathlib.Core.Path.{◌≡◌, sym, ap, ◌∙◌, subst}
use mathlib.Core.List.{List}
use lib.ListN.{length}
use Rattle.index.specs.Index.{Beside, Snug}
use Rattle.gate.specs.Judges.{Judges}
use Rattle.windows.proofs.Windows.{window_long, window_stays}
use Rattle.bulk.proofs.answer_row_in.Goals as goal

pub answer_row-requires : goal.answer_row-requires
answer_row-requires c =
    let p = c.requires.by_index in
    let e = sym p.1.shows in record {
      k_bound = c.requires.k_bound;
      judges = subst (λ (x : List ℕ). Judges c.args.gate c.args.guests.now x c.args.flight.now c.args.found) e p.2;
      beside = (subst (λ (x : List ℕ). Beside x c.args.index.now c.args.gate.waiting) e p.3, subst (λ (x : List ℕ). Snug c.args.gate x c.args.index.now) e p.4);
    }

pub returns : goal.returns
returns c =
    let o = c.answer_row in
    let vs = o.new.waiting in record {
      gone_bound = o.ensures.gone_bound;
      by_index_2 = λ ws w.
          let long : length vs ≡ c.args.size = o.auto.waiting ∙ ap length w.shows ∙ window_long c.args.size c.args.start c.args.window.now ws w in
          (vs, window_stays c.args.size c.args.start c.args.window.now ws vs w long, rw (sym w.shows) o.ensures.answers_after, o.ensures.judges_2, o.ensures.beside_2);
    }
