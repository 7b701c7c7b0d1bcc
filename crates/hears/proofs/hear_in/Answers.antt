-- `hears::hear_in` meets its contract: what is lent is the table that stands in the window. Assumes nothing.
use mathlib.Core.Path.{◌≡◌, sym, ap, ◌∙◌}
use lib.ListN.{length}
use Rattle.windows.proofs.Windows.{window_long, window_stays}
use Rattle.hears.proofs.hear_in.Goals as goal

pub returns : goal.returns
returns c =
    let o = c.hear in
    let vs = o.new.waiting in
    λ ws w.
    let long : length vs ≡ c.args.size = o.auto.waiting ∙ ap length w.shows ∙ window_long c.args.size c.args.start c.args.window.now ws w in
    (vs, window_stays c.args.size c.args.start c.args.window.now ws vs w long, rw (sym w.shows) o.ensures.hears, o.ensures.beside_2)
