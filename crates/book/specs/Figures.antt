-- The figures of a guest on the sheet, and what an event and a send do to them. Document 02, K1: "accepted arrivals, completions, sends by
-- reservation, sends by weight, reservation sends whose limit tag still lay ahead, the longest and the summed wait from arrival to send in
-- nanoseconds (0 where nothing was sent)".
use Rattle.std.specs.Prelude.{Bool, List, map, ℕ, ◌+◌, max, get_or, set, if◌then◌else◌}
use Rattle.rules.specs.declared.Guest.{Guest}
use Rattle.rules.specs.declared.Phase.{Phase}
use Rattle.rules.specs.declared.Phase.TheVariants.{Reservation, Weight}
use Rattle.rules.specs.declared.Event.{Event}
use Rattle.rules.specs.declared.Event.TheVariants.{Arrival, Completion, Tick}

-- the figures of one guest
pub record Figures : Type 0 where
  pub arrivals : ℕ
  pub completions : ℕ
  pub reservation : ℕ
  pub weight : ℕ
  pub ahead : ℕ
  pub longest : ℕ
  pub summed : ℕ

-- the figures of a guest of which nothing was seen
abbrev pub unseen : Figures
unseen = record { arrivals = 0; completions = 0; reservation = 0; weight = 0; ahead = 0; longest = 0; summed = 0 }

-- such figures for each guest
abbrev pub unseens : List Guest → List Figures
unseens gs = map (λ h. unseen) gs

-- the figures of guest g
abbrev pub figures_at : List Figures → ℕ → Figures
figures_at l g = get_or l g unseen

-- guest g's figures changed by c, those of the others as they were
abbrev pub change : ℕ → (Figures → Figures) → List Figures → List Figures
change g c l = set l g (c (figures_at l g))

-- an arrival was accepted
abbrev pub arrived : Figures → Figures
arrived f = record { arrivals = f.arrivals + 1; completions = f.completions; reservation = f.reservation; weight = f.weight; ahead = f.ahead; longest = f.longest; summed = f.summed }

-- a completion was accepted
abbrev pub completed : Figures → Figures
completed f = record { arrivals = f.arrivals; completions = f.completions + 1; reservation = f.reservation; weight = f.weight; ahead = f.ahead; longest = f.longest; summed = f.summed }

-- a request was sent by this phase that had waited so long; its limit tag lay ahead, or not, which counts in the reservation phase alone
abbrev pub sent_by : Phase → (ahead : Bool) (wait : ℕ) → Figures → Figures
sent_by Reservation b wait f = record { arrivals = f.arrivals; completions = f.completions; reservation = f.reservation + 1; weight = f.weight; ahead = f.ahead + (if b then 1 else 0); longest = max f.longest wait; summed = f.summed + wait }
sent_by Weight b wait f = record { arrivals = f.arrivals; completions = f.completions; reservation = f.reservation; weight = f.weight + 1; ahead = f.ahead; longest = max f.longest wait; summed = f.summed + wait }

-- an accepted event is counted at its guest
abbrev pub counted : Event → List Figures → List Figures
counted (Arrival a now) l = change a.guest arrived l
counted (Completion f now) l = change f.guest completed l
counted (Tick now) l = l
