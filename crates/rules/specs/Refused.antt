-- Which refusal number is given when, in plain facts beside the tests of Refusals.antt: document 01, "Refusal numbers". The refusals of a call
-- are one list of cases in the order in which they are judged, and one record says of any such list that a number is given exactly where its
-- condition holds and none before it does. A call is told whether a lent table is short, and whether the table is not sound.
use Rattle.std.specs.Prelude.{◌≡◌, Bool, true, ◌↔◌, ◌⊎◌, ℕ, ◌+◌, ◌-◌, ◌≤◌, ◌<◌, length}
use mathlib.Core.List.{List, [], ◌∷◌, Memᴰ}
use Rattle.rules.specs.Numbers.{ceiling, most_credit, most_cost, most_delta}
use Rattle.rules.specs.Tables.{Settings, Request, Table, idle, names}
use Rattle.rules.specs.Events.{Arriving, Event, Arrival, Completion, Tick, called_by, smallest, stamped_for}

-- LISTS OF CASES

-- a refusal's number, and its condition
pub record Case : Type 1 where
  pub number : ℕ
  pub condition : Type 0

-- n is the number of a case whose condition holds, and no condition before it does
abbrev pub FirstOf : ℕ → List Case → Type 0
FirstOf n [] = ⊥
FirstOf n (c ∷ cs) = ((c.number ≡ n) × c.condition) ⊎ ((c.condition → ⊥) × FirstOf n cs)

-- no condition holds
abbrev pub NoneHolds : List Case → Type 0
NoneHolds [] = Unit {0}
NoneHolds (c ∷ cs) = (c.condition → ⊥) × NoneHolds cs

-- when each number is given: `gives n` is that a call gives number n, `accepts` that it gives none. A number may stand twice; one that does not stand in the
-- list is never given
pub record RefusedExactly (cases : List Case) (gives : ℕ → Type 0) (accepts : Type 0) : Type 0 where
  pub number : (n : ℕ) → gives n ↔ FirstOf n cases
  pub no_number : accepts ↔ NoneHolds cases

-- CONDITIONS

-- a tag of the request passes the ceiling
abbrev pub Above : Request → Type 0
Above q = (ceiling < q.rtag) ⊎ ((ceiling < q.ltag) ⊎ (ceiling < q.stag))

-- 9: "a tag given, or a share tag moved, would pass the ceiling". Share tags are moved only where the arriving guest is idle
pub data Passing (idle : Bool) (now : ℕ) (a : Arriving) (t : Table) : Type 0 where
  given : Above (stamped_for idle now a t) → Passing idle now a t
  moved : idle ≡ true → (q : Request) → Memᴰ q t.waiting → ceiling < q.stag + now - smallest t → Passing idle now a t

-- what `counted` tests: "Depth .. 1 to 64", "1 to 64 guests", "Capacity .. 1 to 1,024"
pub record Countable (depth guests capacity : ℕ) : Type 0 where
  pub depths : (1 ≤ depth) × (depth ≤ 64)
  pub guest-count : (1 ≤ guests) × (guests ≤ 64)
  pub capacities : (1 ≤ capacity) × (capacity ≤ 1024)

-- what `ruled` tests, document 02, K7: "a rule other than 1 or 2 is 1 at opening, 3 in an open table"
abbrev pub Ruled : (rule : ℕ) → Type 0
Ruled r = (r ≡ 1) ⊎ (r ≡ 2)

-- what `settled` tests: "reservation 0 to 1,000,000 .. limit 0 to 1,000,000 .. shares 1 to 1,000,000. A reservation above a non-zero limit is bad; equal is good."
-- Document 02, K6: "a credit above 256 is 1 at opening, 3 in an open table"
pub record Good (s : Settings) : Type 0 where
  pub reservations : s.reservation ≤ 1000000
  pub limits : s.limit ≤ 1000000
  pub share_count : (1 ≤ s.shares) × (s.shares ≤ 1000000)
  pub credits : s.credit ≤ most_credit
  pub not_above : 0 < s.limit → s.reservation ≤ s.limit

-- what `fair` tests, document 02, K8: "a cost from 1 to 64"
abbrev pub Fair : (cost : ℕ) → Type 0
Fair c = (1 ≤ c) × (c ≤ most_cost)

-- what `spread` tests, document 02, K14: a delta that is not "outside 1 to 65,535", and a rho that is not "above delta"
abbrev pub Spread : (delta rho : ℕ) → Type 0
Spread delta rho = (1 ≤ delta) × (delta ≤ most_delta) × (rho ≤ delta)

-- THE CASES OF EACH CALL

-- 5, "time above the ceiling", and 6, "time before the last accepted time"; then the cases cs
abbrev pub time_cases : (now : ℕ) → Table → List Case → List Case
time_cases now t cs =
    record { number = 5; condition = ceiling < now }
    ∷ record { number = 6; condition = now < t.time }
    ∷ cs

-- 4, "unknown guest", then the time, then the cases cs
abbrev pub guest_cases : (g now : ℕ) → Table → List Case → List Case
guest_cases g now t cs = record { number = 4; condition = length t.guests ≤ g } ∷ time_cases now t cs

-- an event's own cases. 7, "arrival: guest has this id waiting or in flight"; 8, "arrival: waiting count equals capacity"; 9, "arrival: a tag
-- given, or a share tag moved, would pass the ceiling"; 10, "completion: guest has no such id in flight". Document 02, K8: "a cost outside 1 to 64 is 18, after 6 and before 7";
-- K14: "delta outside 1 to 65,535 or rho above delta is 20, after 18"
unfoldable pub event_cases : Table → Event → List Case
event_cases t (Arrival a now) =
    guest_cases a.guest now t
    (record { number = 18; condition = Fair a.cost → ⊥ }
    ∷ record { number = 20; condition = Spread a.delta a.rho → ⊥ }
    ∷ record { number = 7; condition = Memᴰ (called_by a) (names t) }
    ∷ record { number = 8; condition = length t.waiting ≡ t.setup.capacity }
    ∷ record { number = 9; condition = Passing (idle t a.guest) now a t }
    ∷ [])
event_cases t (Completion f now) = guest_cases f.guest now t (record { number = 10; condition = Memᴰ f t.flight → ⊥ } ∷ [])
event_cases t (Tick now) = time_cases now t []

-- all cases of a call: 2, "a lent table .. is shorter than the settings need", and 3, "the table is not sound", then the event's own
abbrev pub call_cases : (short unsound : Bool) → Table → Event → List Case
call_cases short unsound t e = record { number = 2; condition = short ≡ true } ∷ record { number = 3; condition = unsound ≡ true } ∷ event_cases t e

-- the cases of an opening: "depth, guests and capacity (1), lengths (2), guest settings (1)." The rule is judged with the counts
unfoldable pub open_cases : (short : Bool) (depth guests capacity rule : ℕ) → List Settings → List Case
open_cases short d n c r ss =
    record { number = 1; condition = Countable d n c → ⊥ }
    ∷ record { number = 1; condition = Ruled r → ⊥ }
    ∷ record { number = 2; condition = short ≡ true }
    ∷ record { number = 1; condition = (s : Settings) × Memᴰ s ss × (Good s → ⊥) }
    ∷ []
