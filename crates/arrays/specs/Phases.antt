-- Document 02, K14, the phases: "those of them sent by reservation" have to be known when they complete. So a number is kept beside each place of an array's flight table,
-- which says by which phase the request there was sent. It is taken from the gate's answer. Words in quotes are K14's.
use Rattle.std.specs.Prelude.{ℕ, suc, Bool, ◌&&◌, ◌||◌, List, [], ◌∷◌, ◌++◌, ltb, leb, eqb, length, get_or, if◌then◌else◌}
use Rattle.lists.specs.Words.{below}
use Rattle.lists.specs.Lines.{whether}
use Rattle.lists.specs.Tab.{tab}
use Rattle.rules.specs.Tables.{same}
use Rattle.rules.specs.declared.Flight.{Flight}
use Rattle.rules.specs.declared.Phase.{Phase}
use Rattle.rules.specs.declared.Phase.TheVariants.{Reservation, Weight}
use Rattle.rules.specs.declared.Answer.{Answer}
use Rattle.rules.specs.declared.Answer.TheVariants.{Nothing, Sent, Refused}

-- the number of a phase; 0 stands at a place that is not used
abbrev pub phase_number : Phase → ℕ
phase_number Reservation = 1
phase_number Weight = 2

-- the number of the phase by which an answer sends; 0 where it sends nothing
abbrev pub phase_in : Answer → ℕ
phase_in Nothing = 0
phase_in (Sent p g i) = phase_number p
phase_in (Refused r) = 0

-- the number says: by reservation
abbrev pub by_reservation : ℕ → Bool
by_reservation p = eqb p 1

-- the number of a place is good, where a request flies there or not
abbrev pub good_phase : (flies : Bool) → ℕ → Bool
good_phase flies p = if flies then eqb p 1 || eqb p 2 else eqb p 0

-- phases are in step with a flight table of d places in which n requests fly: one for each of them, and zeros behind
unfoldable pub in_step : (n d : ℕ) → List ℕ → Bool
in_step n d ps = leb n d && below d (λ i. good_phase (ltb i n) (get_or ps i 0))

-- the phases of n requests in flight
abbrev pub phases_of : List ℕ → ℕ → List ℕ
phases_of ps n = tab n (λ i. get_or ps i 0)

-- where the request named f stands among those in flight; behind the last where it is not there
unfoldable pub place_of : Flight → List Flight → ℕ
place_of f [] = 0
place_of f (x ∷ xs) = if same f x then 0 else suc (place_of f xs)

-- what is sent comes last
abbrev pub joined : Answer → List ℕ → List ℕ
joined Nothing l = l
joined (Sent p g i) l = l ++ (phase_number p ∷ [])
joined (Refused r) l = l

-- the phases l from the front of what is lent, zeros up to d places, then what stood there
unfoldable pub phases_over : (d : ℕ) → (l ps : List ℕ) → List ℕ
phases_over d l ps = tab (length ps) (λ i. whether (ltb i d) (get_or l i 0) (get_or ps i 0))
