-- `one_in` meets its contract: what is lent is the table that stands in the window. Assumes nothing.
use Prim.Native.Nat.{ℕ}
use mathlib.Core.Path.{◌≡◌, sym, ap, ◌∙◌, subst}
use mathlib.Core.List.{List}
use lib.ListN.{length}
use Rattle.index.specs.Index.{Beside, Snug}
use Rattle.windows.proofs.Windows.{window_long, window_stays}
use Rattle.pages.specs.Standing.{Firm}
use Rattle.rolls.proofs.one_in.Goals as goal

pub one-requires : goal.one-requires
one-requires c =
    let a = c.args in
    let p = c.requires.by_index in
    let e = sym p.1.shows in record {
      from_in_bounds = c.requires.from_in_bounds;
      firm = subst (λ (x : List ℕ). Firm a.number a.gate a.guests.now x a.flight.now a.book.now a.figures.now) e p.2;
      beside = (subst (λ (x : List ℕ). Beside x a.index.now a.gate.waiting) e p.3, subst (λ (x : List ℕ). Snug a.gate x a.index.now) e p.4);
    }

pub returns : goal.returns
returns c =
    let a = c.args in
    let o = c.one in
    let vs = o.new.waiting in record {
      gone_bound = o.ensures.gone_bound;
      by_index_2 = λ ws w.
          let long : length vs ≡ a.size = o.auto.waiting ∙ ap length w.shows ∙ window_long a.size a.start a.window.now ws w in
          (vs, window_stays a.size a.start a.window.now ws vs w long, rw (sym w.shows) o.ensures.figures_after, o.ensures.firm_2, o.ensures.beside_2);
    }
