-- Readings of document 02, K8: what a cost does to tags, next numbers, the drop and soundness, and when it is refused. Words in quotes are K8's.
-- Assumes nothing.
use mathlib.Core.Path.{◌≡◌}
use mathlib.Core.List.{List, [], ◌∷◌, map}
use Prim.Native.Nat.{ℕ}
use Rattle.rules.specs.Tables.{Guest, Request, Table}
use Rattle.rules.specs.Events.{Event}
use Rattle.rules.specs.Run.{fresh}
use Rattle.rules.proofs.Trials.{ms, settings, comes_for, ends, -, R, W, X, lines, waiting_after, guests_after, named}
use Rattle.rules.proofs.Stepwise.{stepwise, stepwise_then, printed, left}

-- one place at the array, and a guest whose spacings are 10 ms by reservation, 4 ms by limit and 1 ms by shares
abbrev plates : Table
plates = fresh 1 8 1 (settings 100 250 1000 ∷ [])

-- its ids 1, 2 and 3 at 0, at cost 3, 5 and 1
abbrev priced : List Event
priced = comes_for 3 0 1 0 ∷ comes_for 5 0 2 0 ∷ comes_for 1 0 3 0 ∷ []

-- id 1 completes at 12 ms: id 2, by its reservation due at 30 ms, goes by weight
abbrev spared : List Event
spared = comes_for 3 0 1 0 ∷ comes_for 5 0 2 0 ∷ comes_for 1 0 3 0 ∷ ends 0 1 12 ∷ []

-- ids 2 and 3 wait at costs c and d, a spacing of id 2 at cost 2 apart, and the next numbers follow id 3 at cost 1
abbrev kept : (c d : ℕ) → Table
kept c d =
    record {
      setup = record { depth = 1; capacity = 8; rule = 1 };
      time = 0;
      guests = record { settings = settings 100 250 1000; rnext = ms 60; lnext = ms 24; snext = ms 6 } ∷ [];
      waiting =
          record { guest = 0; id = 2; rtag = ms 30; ltag = ms 12; stag = ms 3; cost = c }
          ∷ record { guest = 0; id = 3; rtag = ms 50; ltag = ms 20; stag = ms 5; cost = d }
          ∷ [];
      flight = named 0 1 ∷ [];
    }

-- the readings
pub record Costs : Type 0 where
  -- "A next number becomes tag plus cost times spacing"
  pub reservations : waiting_after Request.rtag plates priced ≡ ms 30 ∷ ms 80 ∷ []
  pub limits : waiting_after Request.ltag plates priced ≡ ms 12 ∷ ms 32 ∷ []
  pub shares : waiting_after Request.stag plates priced ≡ 0 ∷ ms 5 ∷ []
  pub nexts : guests_after Guest.rnext plates priced ≡ ms 90 ∷ []
  -- "Waiting requests keep their cost"
  pub costs : waiting_after Request.cost plates priced ≡ 5 ∷ 1 ∷ []
  -- "after a weight send the guest's reservation tags drop by the sent request's cost times the spacing", and its next reservation number with them
  pub answers : lines plates spared ≡ R 0 1 ∷ - ∷ - ∷ W 0 2 ∷ []
  pub dropped : waiting_after Request.rtag plates spared ≡ ms 30 ∷ []
  pub next-dropped : guests_after Guest.rnext plates spared ≡ ms 40 ∷ []
  -- "a cost outside 1 to 64 is 18, after 6 and before 7"
  pub outside : lines plates (comes_for 0 0 1 0 ∷ comes_for 65 0 1 0 ∷ comes_for 64 0 1 0 ∷ []) ≡ X 18 ∷ X 18 ∷ R 0 1 ∷ []
  pub after_6_before_7 : lines plates (comes_for 1 0 1 5 ∷ comes_for 0 0 1 4 ∷ comes_for 0 0 1 5 ∷ comes_for 1 0 1 5 ∷ []) ≡ R 0 1 ∷ X 6 ∷ X 18 ∷ X 7 ∷ []
  -- "soundness reads it in the same way: each later tag lies at least the earlier one's cost times the spacing further on": cost 2 fits, cost 3 does not
  pub apart : lines (kept 2 1) (comes_for 1 0 4 0 ∷ []) ≡ - ∷ []
  pub too_near : lines (kept 3 1) (comes_for 1 0 4 0 ∷ []) ≡ X 3 ∷ []
  -- a next number is the last tag plus its own cost times the spacing
  pub not_next : lines (kept 2 2) (comes_for 1 0 4 0 ∷ []) ≡ X 3 ∷ []
  -- "one kept in a table is 3"
  pub none_kept : lines (kept 0 1) (comes_for 1 0 4 0 ∷ []) ≡ X 3 ∷ []

-- they all hold
pub costs : Costs
unfolding stepwise stepwise_then
costs =
    record {
      reservations = left (λ t. map Request.rtag t.waiting) _ _;
      limits = left (λ t. map Request.ltag t.waiting) _ _;
      shares = left (λ t. map Request.stag t.waiting) _ _;
      nexts = left (λ t. map Guest.rnext t.guests) _ _;
      costs = left (λ t. map Request.cost t.waiting) _ _;
      answers = printed _ _;
      dropped = left (λ t. map Request.rtag t.waiting) _ _;
      next-dropped = left (λ t. map Guest.rnext t.guests) _ _;
      outside = printed _ _;
      after_6_before_7 = printed _ _;
      apart = printed _ _;
      too_near = printed _ _;
      not_next = printed _ _;
      none_kept = printed _ _;
    }
