-- The true time: where the instants of the readings are less than 4,294,967,296 microseconds apart, the time after each is 1,000 times the
-- microseconds since the first, as long as that is at most the ceiling. A longer gap is not seen. Assumes nothing.
use Rattle.std.proofs.Common.{◌≡◌, ℕ, ◌+◌, ◌-◌, ◌<◌, ◌≤◌, List, [], ◌∷◌, ◌++◌, map, sym, refl, ap, ◌∙◌, subst, arith}
use Rattle.rules.specs.Numbers.{ceiling}
use Rattle.clock.specs.declared.Clock.{Clock}
use Rattle.clock.specs.declared.Told.{Told}
use Rattle.clock.specs.Reading.{wrap, across, elapsed, clock_of, tells, moved_to, doing}
use Rattle.clock.specs.Runs.{run, after, shows, Near, since, Within, true_at}
use Rattle.clock.proofs.Cases.{first, later, refused}

-- the difference of what the board shows at two instants is theirs
shown-across : (s u : ℕ) → s ≤ u → u - s < wrap → across (shows s) (shows u) ≡ u - s
shown-across s u a b = omega arith

-- a reading at the instant u of a clock that had the true time at s would come to the true time at u
truly : (t s u : ℕ) → t ≤ s → s ≤ u → u - s < wrap → since t s + elapsed (shows s) (shows u) ≡ since t u
truly t s u a b d = rw (shown-across s u b d) (omega arith)

module _ (t s u : ℕ) (a : t ≤ s) (b : s ≤ u) (d : u - s < wrap) where
  -- and does, where that is at most the ceiling
  moves_on : since t u ≤ ceiling → doing (true_at t s) (shows u) ≡ moved_to (true_at t u)
  moves_on fits =
      let e = truly t s u a b d in
      later (true_at t s) (shows u) (λ p. omega (arith, p)) (omega (arith, e, fits)) ∙ ap (λ (x : ℕ). moved_to (clock_of x (shows u) 1)) e

  -- else it is 5, and the clock stays
  stops_at : ceiling < since t u → doing (true_at t s) (shows u) ≡ (tells 5 0, true_at t s)
  stops_at past = refused (true_at t s) (shows u) (λ p. omega (arith, p)) (omega (arith, truly t s u a b d, past))

-- OVER A RUN

-- the first reading has the true time, whatever else the record holds
begins_true : (c : Clock) (t : ℕ) → c.started ≡ 0 → doing c (shows t) ≡ moved_to (true_at t t)
begins_true c t z =
    let e : 0 ≡ since t t = omega arith in
    first c (shows t) z ∙ ap (λ (x : ℕ). moved_to (clock_of x (shows t) 1)) e

-- what is told at an instant, and the clock
abbrev tells_true : ℕ → ℕ → Told × Clock
tells_true t u = moved_to (true_at t u)

from_true : (t s : ℕ) (us : List ℕ) → t ≤ s → Near s us → Within t us → run (true_at t s) (map shows us) ≡ map (tells_true t) us
unfolding run Near Within
from_true t s [] a n w = refl
from_true t s (u ∷ us) a n w =
    ap (λ (h : Told × Clock). h ∷ run h.1 (map shows us)) (moves_on t s u a n.0 n.1 w.0)
    ∙ ap (λ (l : List (Told × Clock)). tells_true t u ∷ l) (from_true t u us (omega (arith, a, n.0)) n.2 w.1)

-- THE TRUE TIME: from the first reading on, each is told 1,000 times the microseconds since the first, and that is the clock's time
pub true_time : (c : Clock) (t : ℕ) (us : List ℕ) → c.started ≡ 0 → Near t us → Within t us
    → run c (map shows (t ∷ us)) ≡ map (λ (u : ℕ). moved_to (true_at t u)) (t ∷ us)
unfolding run
true_time c t us z n w =
    ap (λ (h : Told × Clock). h ∷ run h.1 (map shows us)) (begins_true c t z)
    ∙ ap (λ (l : List (Told × Clock)). tells_true t t ∷ l) (from_true t t us (omega arith) n w)

-- the first instant behind them at which the true time passes the ceiling is 5, and the clock stays
from_past : (t s : ℕ) (us : List ℕ) (u : ℕ) → t ≤ s → Near s (us ++ (u ∷ [])) → Within t us → ceiling < since t u
    → doing (after (true_at t s) (map shows us)) (shows u) ≡ (tells 5 0, after (true_at t s) (map shows us))
unfolding after Near Within
from_past t s [] u a n w past = stops_at t s u a n.0 n.1 past
from_past t s (v ∷ us) u a n w past =
    subst (λ (h : Told × Clock). doing (after h.1 (map shows us)) (shows u) ≡ (tells 5 0, after h.1 (map shows us)))
    (sym (moves_on t s v a n.0 n.1 w.0)) (from_past t v us u (omega (arith, a, n.0)) n.2 w.1 past)

pub first_past : (c : Clock) (t : ℕ) (us : List ℕ) (u : ℕ) → c.started ≡ 0 → Near t (us ++ (u ∷ [])) → Within t us → ceiling < since t u
    → doing (after c (map shows (t ∷ us))) (shows u) ≡ (tells 5 0, after c (map shows (t ∷ us)))
unfolding after
first_past c t us u z n w past =
    subst (λ (h : Told × Clock). doing (after h.1 (map shows us)) (shows u) ≡ (tells 5 0, after h.1 (map shows us)))
    (sym (begins_true c t z)) (from_past t t us u (omega arith) n w past)

-- A LONGER GAP

-- is not seen: after 4,294,967,296 microseconds the board shows what it did, and a reading does the same
pub unseen : (c : Clock) (u : ℕ) → doing c (shows (u + wrap)) ≡ doing c (shows u)
unseen c u =
    let e : shows (u + wrap) ≡ shows u = omega arith in
    ap (doing c) e
