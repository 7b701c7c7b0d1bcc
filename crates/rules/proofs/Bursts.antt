-- Readings of document 02, K6, as one table under a single statement: what a credit gives, where it ends, and who does not read it.
-- Words in quotes are K6's. Assumes nothing.
use mathlib.Core.Path.{◌≡◌, refl}
use mathlib.Core.Bool.{true, false}
use mathlib.Core.List.{List, [], ◌∷◌, map}
use Prim.Native.Nat.{ℕ}
use Rattle.rules.specs.Numbers.{ceiling}
use Rattle.rules.specs.Tables.{Settings, Request, Table}
use Rattle.rules.specs.Sound.{settled}
use Rattle.rules.specs.Events.{Event, Arrival, Tick}
use Rattle.rules.specs.Run.{newcomer, fresh}
use Rattle.rules.proofs.Trials.{ms, settings, comes, -, W, X, lines, waiting_after, named}
use Rattle.rules.proofs.Stepwise.{stepwise, stepwise_then, printed, left}

-- settings with a credit
abbrev credited : (reservation limit shares credit : ℕ) → Settings
credited r l s c = record { reservation = r; limit = l; shares = s; credit = c }

-- one place at the array, with a request of guest 1 in it; guest 0, which has these settings, has nothing waiting and this next share number
abbrev full : Settings → (snext : ℕ) → Table
full s n =
    record {
      setup = record { depth = 1; capacity = 8; rule = 1 };
      time = 0;
      guests = record { settings = s; rnext = 0; lnext = 0; snext = n } ∷ newcomer (settings 0 0 1) ∷ [];
      waiting = [];
      flight = named 1 1 ∷ [];
    }

-- guest 0's spacings are 4 ms by reservation, 2 ms by limit and 1 ms by shares, and its credit is 2
abbrev desk : (snext : ℕ) → Table
desk n = full (credited 250 500 1000 2) n

-- three of its requests arrive, all at n ms
abbrev burst : ℕ → List Event
burst n = comes 0 1 n ∷ comes 0 2 n ∷ comes 0 3 n ∷ []

-- guest 0's id 1 at the last time there is; then two of guest 1, whose credit is 2, and guest 0 again
abbrev last_burst : List Event
last_burst =
    Arrival (record { guest = 0; id = 1; cost = 1; delta = 1; rho = 1 }) ceiling ∷ Arrival (record { guest = 1; id = 1; cost = 1; delta = 1; rho = 1 }) ceiling
    ∷ Arrival (record { guest = 1; id = 2; cost = 1; delta = 1; rho = 1 }) ceiling ∷ Arrival (record { guest = 0; id = 2; cost = 1; delta = 1; rho = 1 }) ceiling ∷ []

-- the readings
pub record Bursts : Type 0 where
  -- "Let b be t minus c share spacings": after a pause the share tags begin 2 spacings of shares back, and stand apart from there on
  pub lies_back : waiting_after Request.stag (desk 0) (burst 100) ≡ ms 98 ∷ ms 99 ∷ ms 100 ∷ []
  -- "or 0 if that is below 0"
  pub cut_off : waiting_after Request.stag (desk 0) (burst 1) ≡ 0 ∷ ms 1 ∷ ms 2 ∷ []
  -- "Reservations and limits do not read the credit."
  pub reservations_do_not : waiting_after Request.rtag (desk 0) (burst 100) ≡ ms 100 ∷ ms 104 ∷ ms 108 ∷ []
  pub limits_do_not : waiting_after Request.ltag (desk 0) (burst 100) ≡ ms 100 ∷ ms 102 ∷ ms 104 ∷ []
  -- "at an idle guest it is that number too, but not later than t": the next number, 2 ms, counts at 3 ms, where b is 1 ms, and is cut down to 1 ms at 1 ms
  pub next_counts : waiting_after Request.stag (desk (ms 2)) (comes 0 1 3 ∷ []) ≡ ms 2 ∷ []
  pub not_later : waiting_after Request.stag (desk (ms 2)) (comes 0 1 1 ∷ []) ≡ ms 1 ∷ []
  -- a credit of 256 is good, one above is not: it is 3 in an open table
  pub most : settled (credited 0 0 1 256) ≡ true
  pub too_much : settled (credited 0 0 1 257) ≡ false
  pub three_where_open : lines (fresh 1 8 1 (credited 0 0 1 257 ∷ [])) (Tick 0 ∷ []) ≡ X 3 ∷ []
  -- K3's 2^62 − 1 case is for credit 0 of every guest: guest 0 has none, and no reservation or limit, and its first request does not wait; its second is
  -- refused 9 all the same, as it would move the share tags of guest 1, which lie back, past the ceiling
  pub another's_credit : lines (fresh 1 8 1 (settings 0 0 1 ∷ credited 0 0 1000 2 ∷ [])) last_burst ≡ W 0 1 ∷ - ∷ - ∷ X 9 ∷ []

-- they all hold
pub bursts : Bursts
unfolding stepwise stepwise_then
bursts =
    record {
      lies_back = left (λ t. map Request.stag t.waiting) _ _;
      cut_off = left (λ t. map Request.stag t.waiting) _ _;
      reservations_do_not = left (λ t. map Request.rtag t.waiting) _ _;
      limits_do_not = left (λ t. map Request.ltag t.waiting) _ _;
      next_counts = left (λ t. map Request.stag t.waiting) _ _;
      not_later = left (λ t. map Request.stag t.waiting) _ _;
      most = refl;
      too_much = refl;
      three_where_open = printed _ _;
      another's_credit = printed _ _;
    }
