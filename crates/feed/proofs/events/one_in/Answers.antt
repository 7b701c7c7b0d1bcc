-- `events::one_in` meets its contract: what is lent is the table that stands in the window. Assumes nothing.
use mathlib.Core.Path.{◌≡◌, sym, ap, ◌∙◌, subst}
use mathlib.Core.List.{List}
use Prim.Native.Nat.{ℕ}
use lib.ListN.{length}
use Rattle.table.specs.View.{Known}
use Rattle.index.specs.Index.{Beside, Snug}
use Rattle.windows.proofs.Windows.{window_long, window_stays}
use Rattle.feed.proofs.events.one_in.Goals as goal

pub one-requires : goal.one-requires
one-requires c =
    let p = c.requires.by_index in
    let e = sym p.1.shows in record {
      from_in_bounds = c.requires.from_in_bounds;
      known = subst (λ (x : List ℕ). Known c.args.gate c.args.guests.now x c.args.flight.now) e p.2;
      at_in_bounds = c.requires.at_in_bounds;
      beside = (subst (λ (x : List ℕ). Beside x c.args.index.now c.args.gate.waiting) e p.3, subst (λ (x : List ℕ). Snug c.args.gate x c.args.index.now) e p.4);
    }

pub returns : goal.returns
returns c =
    let o = c.one in
    let vs = o.new.waiting in record {
      gone_bound = o.ensures.gone_bound;
      by_index_2 = λ ws w.
          let long : length vs ≡ c.args.size = o.auto.waiting ∙ ap length w.shows ∙ window_long c.args.size c.args.start c.args.window.now ws w in
          (vs, window_stays c.args.size c.args.start c.args.window.now ws vs w long, rw (sym w.shows) o.ensures.judged, o.ensures.beside_2);
    }
