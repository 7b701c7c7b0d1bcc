-- The history of a house, read off its calls and their answers alone, and what document 02, K14, says is counted in it: "for each guest and array, completions
-- anywhere since its last request to that array, or since the start (delta), and those of them sent by reservation (rho)". Words in quotes are K14's.
use Rattle.std.specs.Prelude.{ℕ, suc, ◌<◌, min, ◌≡◌, Bool, false, ◌&&◌, List, [], ◌∷◌, eqb, length, if◌then◌else◌}
use Rattle.rules.specs.Numbers.{most_delta}
use Rattle.rules.specs.Answers.{taken}
use Rattle.rules.specs.Tables.{same}
use Rattle.rules.specs.declared.Flight.{Flight}
use Rattle.rules.specs.declared.Answer.{Answer}
use Rattle.rules.specs.declared.Answer.TheVariants.{Nothing, Sent, Refused}
use Rattle.table.specs.View.{name_is, nameless}
use Rattle.arrays.specs.declared.Ask.{Ask}
use Rattle.arrays.specs.declared.Ask.TheVariants.{Arrives, Completes, Ticks}
use Rattle.arrays.specs.Counters.{DELTA, RHO, row_of, counter_at}
use Rattle.arrays.specs.Phases.{phase_in, by_reservation}
use Rattle.houses.specs.House.{House, Deed, array_at}

-- a line of the history: a call and its answer
pub record Line : Type 0 where
  pub deed : Deed
  pub answer : Answer

-- calls and their answers as a history, the newest first, above an older one
unfoldable pub told_over : List Line → List Deed → List Answer → List Line
told_over ls [] got = ls
told_over ls (d ∷ ds) [] = ls
told_over ls (d ∷ ds) (a ∷ got) = told_over (record { deed = d; answer = a } ∷ ls) ds got

-- what is asked is an arrival of guest g
abbrev pub brings : (g : ℕ) → Ask → Bool
brings g (Arrives a now) = eqb a.guest g
brings g (Completes f now) = false
brings g (Ticks now) = false

-- what is asked is a completion of guest g
abbrev pub ends : (g : ℕ) → Ask → Bool
ends g (Arrives a now) = false
ends g (Completes f now) = eqb f.guest g
ends g (Ticks now) = false

-- the request that a completion names
abbrev pub ended : Ask → Flight
ended (Arrives a now) = nameless
ended (Completes f now) = f
ended (Ticks now) = nameless

-- an accepted request of guest g to array a: "its last request to that array"
abbrev pub anew : (a g : ℕ) → Line → Bool
anew a g l = taken l.answer && eqb l.deed.array a && brings g l.deed.ask

-- an accepted completion of guest g, at any array: "completions anywhere"
abbrev pub done : (g : ℕ) → Line → Bool
done g l = taken l.answer && ends g l.deed.ask

-- the answer sends the request named f
abbrev pub sends_it : Flight → Answer → Bool
sends_it f Nothing = false
sends_it f (Sent p g i) = same f (name_is g i)
sends_it f (Refused r) = false

-- the number of the phase by which array a last sent the request named f; 0 where it never did
unfoldable pub sent_in : (a : ℕ) → Flight → List Line → ℕ
sent_in a f [] = 0
sent_in a f (l ∷ ls) = if eqb l.deed.array a && sends_it f l.answer then phase_in l.answer else sent_in a f ls

-- delta: how many completions of guest g were accepted, at any array, since its last accepted request to array a, or since the start
unfoldable pub delta_in : (a g : ℕ) → List Line → ℕ
delta_in a g [] = 0
delta_in a g (l ∷ ls) = if anew a g l then 0 else if done g l then suc (delta_in a g ls) else delta_in a g ls

-- the request whose completion a line has was last sent by reservation, at the array where it completes, as the older lines say
abbrev pub reserved_in : Line → (older : List Line) → Bool
reserved_in l ls = by_reservation (sent_in l.deed.array (ended l.deed.ask) ls)

-- rho: how many of those completions were of requests "sent by reservation"
unfoldable pub rho_in : (a g : ℕ) → List Line → ℕ
rho_in a g [] = 0
rho_in a g (l ∷ ls) = if anew a g l then 0 else if done g l && reserved_in l ls then suc (rho_in a g ls) else rho_in a g ls

-- the start of a house of n guests: at each array nothing is in flight, and its counters are 0
pub record Begun (n : ℕ) (h : House) : Type 0 where
  pub guests : (a : ℕ) → a < length h.arrays → (array_at h a).host.gate.guests ≡ n
  pub flight : (a : ℕ) → a < length h.arrays → (array_at h a).host.gate.flight ≡ 0
  pub counters : (a g : ℕ) → a < length h.arrays → g < n → (counter_at h.counters (row_of n a g) DELTA ≡ 0) × (counter_at h.counters (row_of n a g) RHO ≡ 0)

-- the counters of a house of n guests are what its history says, "both stop at 65,535"
pub record CountedExactly (n : ℕ) (h : House) (ls : List Line) : Type 0 where
  pub delta : (a g : ℕ) → a < length h.arrays → g < n → counter_at h.counters (row_of n a g) DELTA ≡ min most_delta (delta_in a g ls)
  pub rho : (a g : ℕ) → a < length h.arrays → g < n → counter_at h.counters (row_of n a g) RHO ≡ min most_delta (rho_in a g ls)
