-- Document 02, K1: "Show that accepted arrivals equal waiting plus in flight plus completed, per guest, the first two counted as entries in the
-- gate's tables at the end."
use Rattle.std.specs.Prelude.{◌≡◌, ℕ, ◌+◌, ◌<◌, eqb, length}
use Rattle.lists.specs.Words.{filter}
use Rattle.rules.specs.Tables.{Table, mine}
use Rattle.book.specs.Figures.{Figures, figures_at}
use Rattle.book.specs.Page.{Page}

-- how many entries of the waiting table are guest g's
abbrev pub waits_of : ℕ → Table → ℕ
waits_of g t = length (mine g t.waiting)

-- how many entries of the flight table are guest g's
abbrev pub flies_of : ℕ → Table → ℕ
flies_of g t = length (filter (λ f. eqb f.guest g) t.flight)

-- how many requests were sent, by either phase
abbrev pub sends : Figures → ℕ
sends f = f.reservation + f.weight

-- what the table t held when the page was begun and what came since is what the page's table holds and what left since: for each guest, of those that wait and of those in flight
pub record Balanced (t : Table) (p : Page) : Type 0 where
  pub guests : length p.figures ≡ length p.table.guests
  pub waiting : (g : ℕ) → g < length p.figures → waits_of g t + (figures_at p.figures g).arrivals ≡ waits_of g p.table + sends (figures_at p.figures g)
  pub flight : (g : ℕ) → g < length p.figures → flies_of g t + sends (figures_at p.figures g) ≡ flies_of g p.table + (figures_at p.figures g).completions
