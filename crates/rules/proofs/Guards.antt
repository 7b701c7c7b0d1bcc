-- More readings, as one table under a single statement: document 01's unmarked ones, and small runs that shut out its plausible errors. No guest here
-- has credit, so share tags are by document 02, K3; Bursts.antt has runs with credit.
-- Assumes nothing.
use mathlib.Core.Path.{◌≡◌, refl}
use mathlib.Core.List.{List, [], ◌∷◌, map}
use Prim.Native.Nat.{ℕ, suc}
use lib.ListN.{replicate}
use Rattle.rules.specs.Numbers.{ceiling}
use Rattle.rules.specs.Tables.{Settings, Guest, Request, Table}
use Rattle.rules.specs.Events.{Event, Arrival, Completion, Tick}
use Rattle.rules.specs.Answers.{hour}
use Rattle.rules.specs.Run.{fresh}
use Rattle.rules.specs.Waking.{ready_at, wake, wakes}
use Rattle.rules.proofs.Readings.{one_by, one, ten}
use Rattle.rules.proofs.Trials.{ms, settings, comes, ends, three, -, R, W, X, lines, waiting_after, guests_after, flight_after, named}
use Rattle.rules.proofs.Stepwise.{stepwise, stepwise_then, printed, left}

-- a guest without reservation or limit, with shares 1: its spacing is a second
abbrev free : Settings
free = settings 0 0 1

-- one with reservation 1 besides: both spacings are a second
abbrev owed : Settings
owed = settings 1 0 1

-- an arrival at a time in nanoseconds
abbrev comes_at : (g i : ℕ) → ℕ → Event
comes_at g i n = Arrival (record { guest = g; id = i; cost = 1; delta = 1; rho = 1 }) n

-- a completion at a time in nanoseconds
abbrev ends_at : (g i : ℕ) → ℕ → Event
ends_at g i n = Completion (record { guest = g; id = i }) n

-- guest 0's ids 1, 2, 3 at the last time there is
abbrev lastly : List Event
lastly = comes_at 0 1 ceiling ∷ comes_at 0 2 ceiling ∷ comes_at 0 3 ceiling ∷ []

-- a fresh table with one place at the array and eight to wait; so of three arrivals of one guest at 0 one is in flight and two wait
abbrev gate : List Settings → Table
gate ss = fresh 1 8 1 ss

-- guest 0's reservation 1, limit 1 and shares 1 put a second between its tags
abbrev bound : Table
bound = gate (settings 1 1 1 ∷ settings 0 0 2 ∷ [])

-- guest 1 comes at 100 ms, then guest 0 with its next numbers
abbrev joined : List Event
joined = three (comes 1 1 100 ∷ comes 0 4 100 ∷ [])

-- reservation 250,000 and limit 500,000 put 4,000 and 2,000 ns between the tags
abbrev brisk : Table
brisk = gate (settings 250000 500000 1 ∷ [])

-- ids 2 and 3 come at 9,000 ns
abbrev later : List Event
later = comes_at 0 1 0 ∷ comes_at 0 2 9000 ∷ comes_at 0 3 9000 ∷ []

-- guest 1 has id 1 in flight and none waiting, guest 0 has ids 1 and 2 waiting; guest 1 comes again at 100 ms
abbrev returned : List Event
returned = comes 1 1 0 ∷ comes 0 1 0 ∷ comes 0 2 0 ∷ comes 1 2 100 ∷ []

-- two guests with reservation 1: guest 0's id 2 goes by weight while its id 3 and guest 1's id 2 wait
abbrev spared : List Event
spared = three (comes 1 1 0 ∷ comes 1 2 0 ∷ ends 0 1 0 ∷ ends 1 1 0 ∷ [])

-- three requests are sent and a fourth waits; the completion of the middle one sends it
abbrev flown : List Event
flown = comes 0 7 0 ∷ comes 1 5 0 ∷ comes 0 6 0 ∷ comes 1 9 0 ∷ ends 1 5 0 ∷ []

-- reservation, limit and shares 3, of which a second is no multiple
abbrev third : Table
third = gate (settings 3 3 3 ∷ [])

-- two places, both taken; guest 0's id 2 has the reservation tag 333,333,333 and the limit tag 333,333,334, guest 1's the same reservation tag and no limit,
-- and guest 2 waits, accepted before that, with a share tag as small. A place is freed at each of those times
abbrev tied : (rule : ℕ) → Table
tied rule = fresh 2 8 rule (settings 3 3 1 ∷ settings 3 0 1 ∷ free ∷ [])

abbrev freed : List Event
freed = comes 0 1 0 ∷ comes 1 1 0 ∷ comes 0 2 0 ∷ comes 2 1 0 ∷ comes 1 2 0 ∷ ends_at 0 1 333333333 ∷ ends_at 1 1 333333334 ∷ []

-- the times to wake that the outcomes of a run carry
abbrev wakings : Table → List Event → List (List ℕ)
wakings t es = map hour (wakes t es)

-- the readings
pub record Guards : Type 0 where
  -- "Time 2^62 − 1 is accepted, 2^62 is refused 5."
  pub last_time : lines (gate (free ∷ [])) (Tick ceiling ∷ Tick (suc ceiling) ∷ []) ≡ - ∷ X 5 ∷ []
  -- Document 02, K3: "The 2^62 − 1 case of 01 is refused 9 only while the first request still waits or the guest has a reservation or a limit." Without them
  -- the second arrival is accepted where the first is sent, and the one behind it is refused while it waits
  pub last_arrival : lines (fresh 1 8 1 (free ∷ [])) lastly ≡ W 0 1 ∷ - ∷ X 9 ∷ []
  pub last_arrivals : lines (fresh 2 8 1 (free ∷ [])) lastly ≡ W 0 1 ∷ W 0 2 ∷ - ∷ []
  pub last_reserved : lines (fresh 2 8 1 (owed ∷ [])) lastly ≡ R 0 1 ∷ X 9 ∷ X 9 ∷ []
  pub last_limited : lines (fresh 2 8 1 (settings 0 1 1 ∷ [])) lastly ≡ W 0 1 ∷ X 9 ∷ X 9 ∷ []
  -- a share tag moved passes the ceiling: that of id 3, one second behind the smallest
  pub moved_past : lines (gate (free ∷ free ∷ [])) (three (comes_at 1 1 ceiling ∷ [])) ≡ W 0 1 ∷ - ∷ - ∷ X 9 ∷ []
  -- "Capacity 1, depth 1, one unlimited guest, three ids: first arrival sent, second waits, third refused 8; after a completion the third is accepted."
  pub one_place :
      lines (fresh 1 1 1 (free ∷ [])) (comes 0 1 0 ∷ comes 0 2 0 ∷ comes 0 3 0 ∷ ends 0 1 0 ∷ comes 0 3 0 ∷ []) ≡ W 0 1 ∷ - ∷ X 8 ∷ W 0 2 ∷ - ∷ []
  -- "Guest 64 of 64 (number 63) is known; 64 is refused 4."
  pub last_guest : lines (gate (replicate 64 free)) (comes 64 1 0 ∷ comes 63 1 0 ∷ []) ≡ X 4 ∷ W 63 1 ∷ []
  -- each event's time is judged, and an equal time is accepted
  pub time_before : lines (gate (free ∷ [])) (comes 0 1 5 ∷ comes 0 2 4 ∷ ends 0 1 4 ∷ Tick (ms 4) ∷ Tick (ms 5) ∷ []) ≡ W 0 1 ∷ X 6 ∷ X 6 ∷ X 6 ∷ - ∷ []
  -- an id is its guest's own: it is in use while it waits or is in flight, another guest may use it, and it is free again after its completion
  pub ids :
      lines (gate (free ∷ free ∷ [])) (comes 0 1 0 ∷ comes 0 1 0 ∷ comes 1 1 0 ∷ comes 1 1 0 ∷ ends 1 1 0 ∷ ends 0 1 0 ∷ comes 0 1 0 ∷ [])
      ≡ W 0 1 ∷ X 7 ∷ - ∷ X 7 ∷ X 10 ∷ W 1 1 ∷ - ∷ []
  -- of equal share tags the earlier accepted goes, not the smaller guest number
  pub tie_by_weight : lines (gate (free ∷ free ∷ free ∷ [])) (comes 2 1 0 ∷ comes 1 1 0 ∷ comes 0 1 0 ∷ ends 2 1 0 ∷ []) ≡ W 2 1 ∷ - ∷ - ∷ W 1 1 ∷ []
  -- of equal reservation tags likewise
  pub tie_by_reservation : lines (gate (owed ∷ owed ∷ owed ∷ [])) (comes 2 1 0 ∷ comes 1 1 0 ∷ comes 0 1 0 ∷ ends 2 1 0 ∷ []) ≡ R 2 1 ∷ - ∷ - ∷ R 1 1 ∷ []
  -- a tag is never below the time: the next numbers 4,000 and 2,000 give 9,000 and 9,000 at 9,000, and the next after them count from there; the share tag is
  -- the time, whatever the next number, a second here
  pub tags_from_now : waiting_after Request.rtag brisk later ≡ 9000 ∷ 13000 ∷ []
  pub limits_from_now : waiting_after Request.ltag brisk later ≡ 9000 ∷ 11000 ∷ []
  pub shares_from_now : waiting_after Request.stag brisk later ≡ 9000 ∷ 1000009000 ∷ []
  -- the arrival of an idle guest moves the share tags and next share numbers of those that wait, down here, and nothing else
  pub moved_shares : waiting_after Request.stag bound joined ≡ ms 100 ∷ ms 1100 ∷ ms 100 ∷ ms 2100 ∷ []
  pub unmoved_reservations : waiting_after Request.rtag bound joined ≡ ms 1000 ∷ ms 2000 ∷ 0 ∷ ms 3000 ∷ []
  pub unmoved_limits : waiting_after Request.ltag bound joined ≡ ms 1000 ∷ ms 2000 ∷ 0 ∷ ms 3000 ∷ []
  -- the arrival of a guest that has something waiting moves nothing
  pub not_idle : waiting_after Request.stag bound (three (comes 0 4 100 ∷ [])) ≡ 0 ∷ ms 1000 ∷ ms 2000 ∷ []
  -- a guest with requests in flight only is idle: its arrival moves the others' tags, 0 and 1,000 ms, and its own tag is the time, not its next number, 500 ms
  pub idle_in_flight : waiting_after Request.stag (gate (free ∷ settings 0 0 2 ∷ [])) returned ≡ ms 100 ∷ ms 1100 ∷ ms 100 ∷ []
  -- a weight send drops the reservation tags that wait of that guest, and its next number, and no other guest's
  pub spare : lines (gate (owed ∷ owed ∷ [])) spared ≡ R 0 1 ∷ - ∷ - ∷ - ∷ - ∷ R 1 1 ∷ W 0 2 ∷ []
  pub spare-tags : waiting_after Request.rtag (gate (owed ∷ owed ∷ [])) spared ≡ ms 1000 ∷ ms 1000 ∷ []
  pub spare_nexts : guests_after Guest.rnext (gate (owed ∷ owed ∷ [])) spared ≡ ms 2000 ∷ ms 2000 ∷ []
  -- "Requests in flight stand in order of sending and close up in the same way."
  pub in_flight : flight_after (fresh 3 8 1 (free ∷ free ∷ [])) flown ≡ named 0 7 ∷ named 0 6 ∷ named 1 9 ∷ []
  -- the spacings of reservations and shares are rounded down, those of limits up
  pub thirds-reserved : waiting_after Request.rtag third (three []) ≡ 333333333 ∷ 666666666 ∷ []
  pub thirds-limited : waiting_after Request.ltag third (three []) ≡ 333333334 ∷ 666666668 ∷ []
  pub thirds-shared : waiting_after Request.stag third (three []) ≡ 0 ∷ 333333333 ∷ []
  -- when to wake after each event of the example: at the limit tag; after the drops of two weight sends at the reservation tag, which is then the earlier; at
  -- none where nothing waits; and 0 in a refusal
  pub ten-wakes :
      wakings one ten ≡ [] ∷ (ms 4 ∷ []) ∷ (ms 4 ∷ []) ∷ (ms 4 ∷ []) ∷ (ms 8 ∷ []) ∷ (ms 10 ∷ []) ∷ [] ∷ (0 ∷ []) ∷ [] ∷ (0 ∷ []) ∷ []
  -- under rule 1 the earlier accepted of two equal reservation tags goes; under rule 2 it is passed over while its limit is not due, the other goes, by
  -- reservation and not by weight, and then it goes, at its limit tag
  pub by_rule_1 : lines (tied 1) freed ≡ R 0 1 ∷ R 1 1 ∷ - ∷ - ∷ - ∷ R 0 2 ∷ R 1 2 ∷ []
  pub by_rule_2 : lines (tied 2) freed ≡ R 0 1 ∷ R 1 1 ∷ - ∷ - ∷ - ∷ R 1 2 ∷ R 0 2 ∷ []
  -- under rule 2 the reservation tag does not wake: at the limit tag, 12 ms, after events 6, 7 and 9
  pub ten-wakes_by_rule_2 :
      wakings (one_by 2) ten
      ≡ [] ∷ (ms 4 ∷ []) ∷ (ms 4 ∷ []) ∷ (ms 4 ∷ []) ∷ (ms 8 ∷ []) ∷ (ms 12 ∷ []) ∷ (ms 12 ∷ []) ∷ (0 ∷ []) ∷ (ms 12 ∷ []) ∷ (0 ∷ []) ∷ []
  -- at once where a tick came late and more than one is due, and at none where no place is free
  pub late-wakes : wakings one (three (Tick (ms 20) ∷ [])) ≡ [] ∷ (ms 4 ∷ []) ∷ (ms 4 ∷ []) ∷ (ms 20 ∷ []) ∷ []
  pub full-wakes : wakings (gate (free ∷ [])) (three []) ≡ [] ∷ [] ∷ [] ∷ []

-- they all hold
pub guards : Guards
unfolding stepwise stepwise_then ready_at wake wakes
guards =
    record {
      last_time = printed _ _;
      last_arrival = printed _ _;
      last_arrivals = printed _ _;
      last_reserved = printed _ _;
      last_limited = printed _ _;
      moved_past = printed _ _;
      one_place = printed _ _;
      last_guest = printed _ _;
      time_before = printed _ _;
      ids = printed _ _;
      tie_by_weight = printed _ _;
      tie_by_reservation = printed _ _;
      tags_from_now = left (λ t. map Request.rtag t.waiting) _ _;
      limits_from_now = left (λ t. map Request.ltag t.waiting) _ _;
      shares_from_now = left (λ t. map Request.stag t.waiting) _ _;
      moved_shares = left (λ t. map Request.stag t.waiting) _ _;
      unmoved_reservations = left (λ t. map Request.rtag t.waiting) _ _;
      unmoved_limits = left (λ t. map Request.ltag t.waiting) _ _;
      not_idle = left (λ t. map Request.stag t.waiting) _ _;
      idle_in_flight = left (λ t. map Request.stag t.waiting) _ _;
      spare = printed _ _;
      spare-tags = left (λ t. map Request.rtag t.waiting) _ _;
      spare_nexts = left (λ t. map Guest.rnext t.guests) _ _;
      in_flight = left (λ t. t.flight) _ _;
      thirds-reserved = left (λ t. map Request.rtag t.waiting) _ _;
      thirds-limited = left (λ t. map Request.ltag t.waiting) _ _;
      thirds-shared = left (λ t. map Request.stag t.waiting) _ _;
      ten-wakes = refl;
      by_rule_1 = printed _ _;
      by_rule_2 = printed _ _;
      ten-wakes_by_rule_2 = refl;
      late-wakes = refl;
      full-wakes = refl;
    }
