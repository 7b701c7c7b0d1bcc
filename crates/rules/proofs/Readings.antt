-- Document 01's marked edge readings, as one table under a single statement; those of share tags as document 02, K3 has them, which is credit 0.
-- Assumes nothing.
use mathlib.Core.Path.{◌≡◌, refl}
use mathlib.Core.Bool.{Bool, true, false}
use mathlib.Core.List.{List, [], ◌∷◌, map}
use Prim.Native.Nat.{ℕ}
use Rattle.rules.specs.Tables.{Guest, Request, Table, rplain, lplain, splain}
use Rattle.rules.specs.Events.{Event, Tick, stamped}
use Rattle.rules.specs.Run.{fresh}
use Rattle.rules.proofs.Trials.{ms, settings, comes, ends, three, -, R, W, X, lines, waiting_after}
use Rattle.rules.proofs.Stepwise.{stepwise, stepwise_then, printed, left}

-- a guest that has all three kinds of tags, with "Next number 10" of each
abbrev tens : Guest
tens = record { settings = settings 1 1 1; rnext = 10; lnext = 10; snext = 10 }

-- the three tags of a request
abbrev tags_of : Request → List ℕ
tags_of q = q.rtag ∷ q.ltag ∷ q.stag ∷ []

-- those that the guest's next request gets at a time, where it is idle or not
abbrev given : (idle : Bool) (now : ℕ) → List ℕ
given idle now = tags_of (stamped idle now (record { guest = 0; id = 1; cost = 1; delta = 1; rho = 1 }) tens)

-- "depth 4, one guest (reservation 100, limit 250, shares 1), capacity 8"
abbrev pub one_by : (rule : ℕ) → Table
one_by rule = fresh 4 8 rule (settings 100 250 1 ∷ [])

-- under document 01's own rule
abbrev pub one : Table
one = one_by 1

-- "arrivals of ids 1, 2, 3, 4 at 0; ticks at 4, 8, 10, 9; completion of id 1 at 10, twice"
abbrev pub ten : List Event
ten =
    comes 0 1 0 ∷ comes 0 2 0 ∷ comes 0 3 0 ∷ comes 0 4 0
    ∷ Tick (ms 4) ∷ Tick (ms 8) ∷ Tick (ms 10) ∷ Tick (ms 9)
    ∷ ends 0 1 10 ∷ ends 0 1 10 ∷ []

-- "Depth 1, two guests without reservation or limit, A with shares 1, B with shares 2."
abbrev two : Table
two = fresh 1 8 1 (settings 0 0 1 ∷ settings 0 0 2 ∷ [])

-- the share tags that wait after a run
abbrev tags : Table → List Event → List ℕ
tags t es = waiting_after Request.stag t es

-- the readings that document 01 marks with a star, in its order. Document 02, K3: "the share tag of a request arriving at an idle guest is t itself", so the
-- next number 10 of shares is not read there; and "In 01's depth 1 reading A's ids 2 and 3 first get 0 and 1,000 ms; what follows there stays."
pub record Readings : Type 0 where
  pub reservation_3 : (l w : ℕ) → rplain (settings 3 l w) ≡ 333333333
  pub limit_3 : (r w : ℕ) → lplain (settings r 3 w) ≡ 333333334
  pub shares_300 : (r l : ℕ) → splain (settings r l 300) ≡ 3333333
  pub shares_1000000 : (r l : ℕ) → splain (settings r l 1000000) ≡ 1000
  pub next-at : (idle : Bool) → given idle 10 ≡ 10 ∷ 10 ∷ 10 ∷ []
  pub next-before : given false 9 ≡ 10 ∷ 10 ∷ 10 ∷ []
  pub next-before-idle : given true 9 ≡ 10 ∷ 10 ∷ 9 ∷ []
  pub next-after : (idle : Bool) → given idle 11 ≡ 11 ∷ 11 ∷ 11 ∷ []
  pub ten-answers : lines one ten ≡ R 0 1 ∷ - ∷ - ∷ - ∷ W 0 2 ∷ W 0 3 ∷ R 0 4 ∷ X 6 ∷ - ∷ X 10 ∷ []
  -- Document 02, K7: "Event 7 of 01 prints `-` under rule 2." So id 4 still waits at events 8 to 10
  pub ten-answers_by_rule_2 : lines (one_by 2) ten ≡ R 0 1 ∷ - ∷ - ∷ - ∷ W 0 2 ∷ W 0 3 ∷ - ∷ X 6 ∷ - ∷ X 10 ∷ []
  pub first-tags : tags two (three []) ≡ 0 ∷ ms 1000 ∷ []
  pub moved_down : tags two (three (comes 1 1 100 ∷ [])) ≡ ms 100 ∷ ms 1100 ∷ ms 100 ∷ []
  pub tie_to_the_earlier : lines two (three (comes 1 1 100 ∷ ends 0 1 100 ∷ ends 0 2 100 ∷ [])) ≡ W 0 1 ∷ - ∷ - ∷ - ∷ W 0 2 ∷ W 1 1 ∷ []
  pub moved_up : tags two (three (comes 1 1 1500 ∷ [])) ≡ ms 1500 ∷ ms 2500 ∷ ms 1500 ∷ []

-- they all hold
pub readings : Readings
unfolding stepwise stepwise_then
readings =
    record {
      reservation_3 = λ l w. refl;
      limit_3 = λ r w. refl;
      shares_300 = λ r l. refl;
      shares_1000000 = λ r l. refl;
      next-at = λ idle. elim idle as (λ b. given b 10 ≡ 10 ∷ 10 ∷ 10 ∷ []) [ true ↦ refl | false ↦ refl ];
      next-before = refl;
      next-before-idle = refl;
      next-after = λ idle. elim idle as (λ b. given b 11 ≡ 11 ∷ 11 ∷ 11 ∷ []) [ true ↦ refl | false ↦ refl ];
      ten-answers = printed _ _;
      ten-answers_by_rule_2 = printed _ _;
      first-tags = left (λ t. map Request.stag t.waiting) _ _;
      moved_down = left (λ t. map Request.stag t.waiting) _ _;
      tie_to_the_earlier = printed _ _;
      moved_up = left (λ t. map Request.stag t.waiting) _ _;
    }
