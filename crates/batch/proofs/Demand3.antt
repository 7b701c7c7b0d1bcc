-- DEMAND 3 through batches: a waiting request whose reservation is due goes by reservation, after exactly those that stand before it, over any run of batches.
-- Assumes nothing.
use Rattle.std.specs.Prelude.{Some, None, Option}
use Prim.Native.Nat.{ℕ}
use mathlib.Core.Path.{◌≡◌, refl, ap, ◌∙◌}
use mathlib.Core.Bool.{Bool, true, false, ◌&&◌}
use mathlib.Core.List.{List, [], ◌∷◌}
use lib.Dec.{ltb, eqb}
use Rattle.lists.specs.Words.{if◌then◌else◌, all}
use Rattle.lists.specs.WordsLaws.{both, join, all_append, places_all}
use Rattle.lists.specs.Tab.{tab, get_or-tab, length-tab}
use Rattle.rules.specs.declared.Event.TheVariants.{Arrival, Completion, Tick}
use Rattle.turns.specs.TurnAt.{TurnKept}
use Rattle.rules.specs.Refusals.{judged, is_accept}
use Rattle.gate.specs.Promise.{Lending}
use Rattle.gate.specs.Calls.{Host, holds, call, shows, firm, narrow, free_replies}
use Rattle.gate.proofs.Lending.{Lawful}
use Rattle.gate.proofs.Demand3.{calls_demand_3_places}
use Rattle.gate.proofs.Runs.{calls_run}
use Rattle.batch.specs.Rows.{count_of, event_from, event_number, EVENT_KIND, EVENT_GUEST, EVENT_ID, EVENT_TIME, EVENT_COST, EVENT_DELTA, EVENT_RHO, event_at, events_in}
use Rattle.batch.specs.Promise.{batch_tests}
use Rattle.batch.specs.Batches.{goods, narrow_read, Batch, done_by, all_done, held_batches, free_answers}
use Rattle.batch.proofs.OneByOne.{batches_as_calls}
use Rattle.rules.specs.declared.Event.{Event}

-- IDS

-- what a row brings, by its tests
abbrev brings : (guest id time cost delta rho : ℕ) → (short first free second third : Bool) → Option Event
brings guest id time cost delta rho a b f c d =
    if a
    then
    if b then Some (Arrival (record { guest = guest; id = id; cost = cost; delta = delta; rho = rho }) time)
    else if f
    then
    if c then Some (Completion (record { guest = guest; id = id }) time)
    else if d then Some (Tick time)
    else None
    else None
    else None

-- every id that a row brings has 32 bits
from_narrow : (kind guest id time cost delta rho : ℕ) → narrow_read (event_from kind guest id time cost delta rho) ≡ true
unfolding event_from
from_narrow kind guest id time cost delta rho = go (ltb id 4294967296) refl
  where
    kinds : ltb id 4294967296 ≡ true → (b f c d : Bool) → narrow_read (brings guest id time cost delta rho true b f c d) ≡ true
    kinds e true f c d = e
    kinds e false false c d = refl
    kinds e false true true d = refl
    kinds e false true false true = refl
    kinds e false true false false = refl

    go : (a : Bool) → ltb id 4294967296 ≡ a → narrow_read (brings guest id time cost delta rho a (eqb kind 0) (eqb cost 0 && eqb delta 0 && eqb rho 0) (eqb kind 1) (eqb kind 2 && eqb guest 0 && eqb id 0)) ≡ true
    go true e = kinds e (eqb kind 0) (eqb cost 0 && eqb delta 0 && eqb rho 0) (eqb kind 1) (eqb kind 2 && eqb guest 0 && eqb id 0)
    go false e = refl

pub events-narrow : (es : List ℕ) → all narrow_read (events_in es) ≡ true
unfolding events_in
events-narrow es =
    places_all narrow_read (tab (count_of es) (event_at es)) None
    (λ k l.
    ap narrow_read (get_or-tab (count_of es) (event_at es) k None (rw length-tab at l))
    ∙ from_narrow (event_number es k EVENT_KIND) (event_number es k EVENT_GUEST) (event_number es k EVENT_ID) (event_number es k EVENT_TIME)
    (event_number es k EVENT_COST) (event_number es k EVENT_DELTA) (event_number es k EVENT_RHO))

done-narrow : (b : Batch) → all narrow_read (done_by b) ≡ true
done-narrow b = go (is_accept (judged (batch_tests b.events b.answers)))
  where
    go : (a : Bool) → all narrow_read (if a then events_in b.events else []) ≡ true
    go true = events-narrow b.events
    go false = refl

all-narrow : (bs : List Batch) → all narrow_read (all_done bs) ≡ true
unfolding all_done
all-narrow [] = refl
all-narrow (b ∷ bs) = all_append narrow_read (done_by b) (all_done bs) (done-narrow b) (all-narrow bs)

goods-narrow : (rs : List (Option Event)) → all narrow_read rs ≡ true → all narrow (goods rs) ≡ true
unfolding goods
goods-narrow [] n = refl
goods-narrow (Some e ∷ rs) n = let c = both (narrow e) (all narrow_read rs) n in join c.0 (goods-narrow rs c.1)
goods-narrow (None ∷ rs) n = goods-narrow rs n

-- the events of a run of batches bring ids of 32 bits
pub batches_narrow : (bs : List Batch) → all narrow (goods (all_done bs)) ≡ true
batches_narrow bs = goods-narrow (all_done bs) (all-narrow bs)

-- RUNS

module _ (v : Lending) where
  -- the answers where a place is free are those of the calls
  pub free_calls : (rs : List (Option Event)) (h : Host v) → free_answers v h rs ≡ free_replies v h (goods rs)
  unfolding free_answers free_replies goods
  free_calls [] h = refl
  free_calls (Some e ∷ rs) h = rw (free_calls rs (holds v (call v e h)))
  free_calls (None ∷ rs) h = free_calls rs h

  module _ (lawful : Lawful v) where
    -- tables that are long enough and sound stay so
    pub batches_firm : (bs : List Batch) (h : Host v) → firm v h ≡ true → firm v (held_batches v h bs) ≡ true
    batches_firm bs h f = ap (firm v) (batches_as_calls v bs h) ∙ (calls_run v lawful (goods (all_done bs)) h f (batches_narrow bs)).still

    -- demand 3 by places: of any firm table and a due place, whatever comes in batches meanwhile
    pub batches_demand_3 : (h : Host v) (bs : List Batch) → firm v h ≡ true → (i : ℕ) → TurnKept (shows v h) i (free_answers v h (all_done bs))
    batches_demand_3 h bs f i =
        rw (free_calls (all_done bs) h) (calls_demand_3_places v lawful h (goods (all_done bs)) f (batches_narrow bs) i)
