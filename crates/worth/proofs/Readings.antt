-- Readings of what a limit is worth, as one table under a single statement: that the bound is met, what it does not bound, and that under rule 1 it is
-- not one of all sends. Assumes nothing.
use mathlib.Core.Path.{◌≡◌, refl}
use mathlib.Core.Bool.{true}
use mathlib.Core.List.{List, [], ◌∷◌}
use Prim.Native.Nat.{ℕ}
use lib.Dec.{leb}
use Rattle.rules.specs.Tables.{Table}
use Rattle.rules.specs.Run.{answers, fresh}
use Rattle.rules.specs.declared.Phase.{Phase}
use Rattle.rules.specs.declared.Phase.TheVariants.{Weight}
use Rattle.rules.specs.declared.Event.{Event}
use Rattle.rules.specs.declared.Event.TheVariants.{Tick}
use Rattle.rules.proofs.Trials.{ms, settings, comes_for, comes, ends, -, W, X, lines}
use Rattle.rules.proofs.Readings.{one_by, ten}
use Rattle.worth.specs.Passages.{Passage, passages_from, passages}
use Rattle.worth.specs.Worth.{between, by_weight, takes}

-- the passages of a run from t
abbrev through : Table → List Event → List Passage
through t es = passages es (answers t es)

-- what guest 0's requests accepted at or after a, and sent by weight by b, take of its limit
abbrev weight : Table → List Event → (a b : ℕ) → ℕ
weight t es a b = takes t 0 (by_weight (between 0 a b (through t es)))

-- and those sent by either phase
abbrev either : Table → List Event → (a b : ℕ) → ℕ
either t es a b = takes t 0 (between 0 a b (through t es))

-- guest 0's request of this cost, which came and went so many ms after 0
abbrev went : (cost came went : ℕ) → Phase → Passage
went c i o p = record { guest = 0; cost = c; came = ms i; went = ms o; phase = p }

-- four places and one guest with this limit and no reservation
abbrev limited_to : ℕ → Table
limited_to l = fresh 4 8 1 (settings 0 l 1 ∷ [])

-- at 4 ms to a cost of 1: ids 1 to 4 at 0, of cost 1, 2, 1 and 1
abbrev plates : List Event
plates = comes_for 1 0 1 0 ∷ comes_for 2 0 2 0 ∷ comes_for 1 0 3 0 ∷ comes_for 1 0 4 0 ∷ Tick (ms 4) ∷ Tick (ms 11) ∷ Tick (ms 12) ∷ []

-- a third of a second each: ids 1 to 3 at 0
abbrev thirds : List Event
thirds = comes 0 1 0 ∷ comes 0 2 0 ∷ comes 0 3 0 ∷ Tick 333333333 ∷ Tick 333333334 ∷ Tick 666666667 ∷ Tick 666666668 ∷ []

-- id 1 goes, completes and comes again at another cost, and while it waits once more
abbrev again : List Event
again = comes_for 1 0 1 0 ∷ ends 0 1 1 ∷ comes_for 3 0 1 2 ∷ comes_for 9 0 1 3 ∷ Tick (ms 4) ∷ []

-- guest 1 has the three places; guest 0's ids 1 to 3 come at 0, and go when the places fall free, all at 1 s
abbrev full : Table
full = fresh 3 8 1 (settings 0 250 1 ∷ settings 0 0 1000000 ∷ [])

abbrev held : List Event
held =
    comes 1 1 0 ∷ comes 1 2 0 ∷ comes 1 3 0 ∷ comes 0 1 0 ∷ comes 0 2 0 ∷ comes 0 3 0 ∷ ends 1 1 1000 ∷ ends 1 2 1000 ∷ ends 1 3 1000 ∷ []

-- ids 2 and 3 wait already, at 1 s, their limit tags long reached
abbrev waiting : Table
waiting =
    record {
      setup = record { depth = 4; capacity = 8; rule = 1 };
      time = ms 1000;
      guests = record { settings = settings 0 250 1; rnext = 0; lnext = ms 8; snext = ms 2000 } ∷ [];
      waiting =
          record { guest = 0; id = 2; rtag = 0; ltag = 0; stag = 0; cost = 1 } ∷ record { guest = 0; id = 3; rtag = 0; ltag = ms 4; stag = ms 1000; cost = 1 } ∷ [];
      flight = [];
    }

-- the readings
pub record Readings : Type 0 where
  -- the bound is met: from 0 to 12 ms three go, and all but the last take 12 ms; a nanosecond less, and the third does not go
  pub met : weight (limited_to 250) plates 0 (ms 12) ≡ ms 12
  pub not_before : through (limited_to 250) plates ≡ went 1 0 0 Weight ∷ went 2 0 4 Weight ∷ went 1 0 12 Weight ∷ []
  -- the spacing is rounded up: of limit 3 it is 333,333,334
  pub thirds_met : weight (limited_to 3) thirds 0 666666668 ≡ 666666668
  pub thirds-lines : lines (limited_to 3) thirds ≡ W 0 1 ∷ - ∷ - ∷ - ∷ W 0 2 ∷ - ∷ W 0 3 ∷ []
  -- an id that is used again is another request, and a refused arrival is none
  pub again-lines : lines (limited_to 250) again ≡ W 0 1 ∷ - ∷ - ∷ X 7 ∷ W 0 1 ∷ []
  pub again_costs : through (limited_to 250) again ≡ went 1 0 0 Weight ∷ went 3 2 4 Weight ∷ []
  -- under rule 1 it is no bound of all sends: in document 01's example four go by 10 ms, the last by reservation, and all but that take 12 ms
  pub rule_1_either : either (one_by 1) ten 0 (ms 10) ≡ ms 12
  pub rule_1_weight : leb (weight (one_by 1) ten 0 (ms 10)) (ms 10) ≡ true
  -- under rule 2 it is: there three go by 10 ms, and all but the last take 8 ms
  pub rule_2_either : either (one_by 2) ten 0 (ms 10) ≡ ms 8
  -- what it does not bound: requests accepted before a, and held back by a busy array, can all go at one moment
  pub held-lines : lines full held ≡ W 1 1 ∷ W 1 2 ∷ W 1 3 ∷ - ∷ - ∷ - ∷ W 0 1 ∷ W 0 2 ∷ W 0 3 ∷ []
  pub held_counts : between 0 (ms 1000) (ms 1000) (through full held) ≡ []
  pub held-since : weight full held 0 (ms 1000) ≡ ms 8
  -- nor those that wait when the run begins, which it did not accept
  pub waiting-lines : lines waiting (Tick (ms 1000) ∷ Tick (ms 1000) ∷ []) ≡ W 0 2 ∷ W 0 3 ∷ []
  pub waiting_counts : through waiting (Tick (ms 1000) ∷ Tick (ms 1000) ∷ []) ≡ []

-- they all hold
pub readings : Readings
unfolding lines passages_from
readings =
    record {
      met = refl;
      not_before = refl;
      thirds_met = refl;
      thirds-lines = refl;
      again-lines = refl;
      again_costs = refl;
      rule_1_either = refl;
      rule_1_weight = refl;
      rule_2_either = refl;
      held-lines = refl;
      held_counts = refl;
      held-since = refl;
      waiting-lines = refl;
      waiting_counts = refl;
    }
