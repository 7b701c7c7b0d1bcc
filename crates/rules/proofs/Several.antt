-- Readings of document 02, K14: what delta and rho do to next numbers and tags, the drop at 0 and the next number after it, soundness, and when they are refused.
-- Words in quotes are K14's. Assumes nothing.
use mathlib.Core.Path.{◌≡◌, refl}
use mathlib.Core.List.{List, [], ◌∷◌, map}
use Prim.Native.Nat.{ℕ}
use Rattle.rules.specs.Numbers.{raised_by}
use Rattle.rules.specs.Tables.{Guest, Request, Table}
use Rattle.rules.specs.Events.{Event, Arrival}
use Rattle.rules.specs.Run.{fresh}
use Rattle.rules.proofs.Trials.{ms, settings, comes_with, comes, ends, -, R, W, X, lines, waiting_after, guests_after, named}
use Rattle.rules.proofs.Stepwise.{stepwise, stepwise_then, printed, left}

-- one place at the array, and a guest whose spacings are 10 ms by reservation, 4 ms by limit and 1 ms by shares
abbrev array : Table
array = fresh 1 8 1 (settings 100 250 1000 ∷ [])

-- its id 1 with one and one; ids 2 and 3, the first of them where nothing waits, with a delta of 3 and a rho of 2; id 4 with a rho of 0; all at 0
abbrev told : List Event
told = comes 0 1 0 ∷ comes_with 1 3 2 0 2 0 ∷ comes_with 1 3 2 0 3 0 ∷ comes_with 1 1 0 0 4 0 ∷ []

-- id 2 has cost 5, id 3 a rho of 0: when id 2 goes by weight at 7 ms, the tag of id 3 drops from 53 ms to 3 ms
abbrev passed : List Event
passed = comes 0 1 3 ∷ comes_with 5 1 1 0 2 3 ∷ comes_with 1 1 0 0 3 3 ∷ ends 0 1 7 ∷ []

-- ids 2 and 3 wait at cost 5 and 2, with these reservation tags, and the next numbers follow id 3; id 1 is in flight
abbrev near : (first second next : ℕ) → Table
near a b n =
    record {
      setup = record { depth = 1; capacity = 8; rule = 1 };
      time = 0;
      guests = record { settings = settings 100 250 1000; rnext = n; lnext = ms 28; snext = ms 7 } ∷ [];
      waiting =
          record { guest = 0; id = 2; rtag = a; ltag = 0; stag = 0; cost = 5 }
          ∷ record { guest = 0; id = 3; rtag = b; ltag = ms 20; stag = ms 5; cost = 2 }
          ∷ [];
      flight = named 0 1 ∷ [];
    }

-- two seconds before the last time there is
abbrev late : ℕ
late = 4611686016427387903

-- a guest with limit 1, its id 1 then, and its id 2 then with this delta
abbrev lately : (delta : ℕ) → List Event
lately d =
    Arrival (record { guest = 0; id = 1; cost = 1; delta = 1; rho = 1 }) late
    ∷ Arrival (record { guest = 0; id = 2; cost = 1; delta = d; rho = 0 }) late ∷ []

-- the readings
pub record Several : Type 0 where
  -- "raised by (delta − 1) spacings"; "for rho 0 it falls by one, never below 0"
  pub by_3 : raised_by 3 10 25 ≡ 45
  pub by_1 : raised_by 1 10 25 ≡ 25
  pub by_0 : raised_by 0 10 25 ≡ 15
  pub not_below_0 : raised_by 0 10 5 ≡ 0
  -- "limit and share next numbers are first raised by (delta − 1) spacings; the reservation's by (rho − 1) spacings": id 2's share tag is the time, as its guest is
  -- idle then; with a rho of 0 the reservation tag of id 4 is that of id 3
  pub limits : waiting_after Request.ltag array told ≡ ms 12 ∷ ms 24 ∷ ms 28 ∷ []
  pub shares : waiting_after Request.stag array told ≡ 0 ∷ ms 3 ∷ ms 4 ∷ []
  pub reservations : waiting_after Request.rtag array told ≡ ms 20 ∷ ms 40 ∷ ms 40 ∷ []
  pub nexts : guests_after Guest.rnext array told ≡ ms 50 ∷ []
  -- by plain spacings, whatever the cost: the next limit number, 4 ms, is raised by 4 ms for cost 3 and delta 2, and 12 ms later is the next
  pub plain_spacings : waiting_after Request.ltag array (comes 0 1 0 ∷ comes_with 3 2 1 0 2 0 ∷ []) ≡ ms 8 ∷ []
  pub then_by_cost : guests_after Guest.lnext array (comes 0 1 0 ∷ comes_with 3 2 1 0 2 0 ∷ []) ≡ ms 20 ∷ []
  -- "after a rho of 0 they may come to t or before it": then the next event sends it by reservation
  pub before_now : waiting_after Request.rtag array passed ≡ ms 3 ∷ []
  pub then-due : lines array (comes 0 1 3 ∷ comes_with 5 1 1 0 2 3 ∷ comes_with 1 1 0 0 3 3 ∷ ends 0 1 7 ∷ ends 0 2 7 ∷ []) ≡ R 0 1 ∷ - ∷ - ∷ W 0 2 ∷ R 0 3 ∷ []
  -- "reservation tags drop as before but never below 0": by 50 ms, from 45 ms to 0; "and the next number is set to the last waiting tag plus its cost times the
  -- spacing", 20 ms, not 50 ms below 65 ms
  pub goes : lines (near (ms 5) (ms 45) (ms 65)) (ends 0 1 1 ∷ []) ≡ W 0 2 ∷ []
  pub at_0 : waiting_after Request.rtag (near (ms 5) (ms 45) (ms 65)) (ends 0 1 1 ∷ []) ≡ 0 ∷ []
  pub set_from_the_last : guests_after Guest.rnext (near (ms 5) (ms 45) (ms 65)) (ends 0 1 1 ∷ []) ≡ ms 20 ∷ []
  -- "or, with none waiting, drops alike": id 2, of cost 2, goes by weight at 4 ms, and its next number drops from 30 ms by 20 ms
  pub none-waiting : guests_after Guest.rnext array (comes 0 1 0 ∷ comes_with 2 1 1 0 2 0 ∷ ends 0 1 4 ∷ []) ≡ ms 10 ∷ []
  -- "Soundness then asks only that a guest's reservation tags do not fall": equal tags are sound, a smaller one is not, nor a next number that does not follow
  pub level : lines (near (ms 5) (ms 5) (ms 25)) (comes 0 4 0 ∷ []) ≡ - ∷ []
  pub falling : lines (near (ms 5) (ms 4) (ms 24)) (comes 0 4 0 ∷ []) ≡ X 3 ∷ []
  pub not_next : lines (near (ms 5) (ms 5) (ms 24)) (comes 0 4 0 ∷ []) ≡ X 3 ∷ []
  -- "delta outside 1 to 65,535 or rho above delta is 20, after 18"
  pub outside :
      lines array (comes_with 1 0 0 0 1 0 ∷ comes_with 1 65536 0 0 1 0 ∷ comes_with 1 1 2 0 1 0 ∷ comes_with 1 65535 65535 0 1 0 ∷ comes_with 1 65535 0 0 2 0 ∷ [])
      ≡ X 20 ∷ X 20 ∷ X 20 ∷ - ∷ - ∷ []
  pub after_18_before_7 : lines array (comes 0 1 0 ∷ comes_with 0 0 0 0 1 0 ∷ comes_with 1 0 0 0 1 0 ∷ comes 0 1 0 ∷ []) ≡ R 0 1 ∷ X 18 ∷ X 20 ∷ X 7 ∷ []
  -- 9: a raised number may give the last tag there is, and none past it
  pub raised-to_the_last : lines (fresh 2 8 1 (settings 0 1 1 ∷ [])) (lately 2) ≡ W 0 1 ∷ - ∷ []
  pub raised_past_it : lines (fresh 2 8 1 (settings 0 1 1 ∷ [])) (lately 3) ≡ W 0 1 ∷ X 9 ∷ []

-- they all hold
pub several : Several
unfolding stepwise stepwise_then
several =
    record {
      by_3 = refl;
      by_1 = refl;
      by_0 = refl;
      not_below_0 = refl;
      limits = left (λ t. map Request.ltag t.waiting) _ _;
      shares = left (λ t. map Request.stag t.waiting) _ _;
      reservations = left (λ t. map Request.rtag t.waiting) _ _;
      nexts = left (λ t. map Guest.rnext t.guests) _ _;
      plain_spacings = left (λ t. map Request.ltag t.waiting) _ _;
      then_by_cost = left (λ t. map Guest.lnext t.guests) _ _;
      before_now = left (λ t. map Request.rtag t.waiting) _ _;
      then-due = printed _ _;
      goes = printed _ _;
      at_0 = left (λ t. map Request.rtag t.waiting) _ _;
      set_from_the_last = left (λ t. map Guest.rnext t.guests) _ _;
      none-waiting = left (λ t. map Guest.rnext t.guests) _ _;
      level = printed _ _;
      falling = printed _ _;
      not_next = printed _ _;
      outside = printed _ _;
      after_18_before_7 = printed _ _;
      raised-to_the_last = printed _ _;
      raised_past_it = printed _ _;
    }
