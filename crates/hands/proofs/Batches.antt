-- Batches through C: what `sgq_batch` hands back is the batch over numbers, so 16 and 17 are exact, any two outcomes are equal, a refused batch leaves the seven
-- numbers, and a host in C holds after a run of batches what a host over numbers holds; demand 3 and what a limit is worth then stand through it. Assumes nothing.
use Rattle.std.specs.Prelude.{Ok, Err, Result}
use Prim.Native.Nat.{ℕ}
use mathlib.Core.Path.{◌≡◌, refl, sym, ap, ◌∙◌}
use mathlib.Core.Bool.{true}
use mathlib.Core.List.{List, [], ◌∷◌, map}
use lib.ListN.{length}
use Rattle.rules.specs.Refused.{RefusedExactly}
use Rattle.turns.specs.TurnAt.{TurnKept}
use Rattle.rules.specs.declared.Gate.{Gate}
use Rattle.rules.specs.declared.Outcome.{Outcome}
use Rattle.worth.specs.Worth.{Worth}
use Rattle.gate.specs.Promise.{numbers}
use Rattle.gate.specs.Calls.{Host, firm}
use Rattle.gate.proofs.Lending.{numbers-lawful}
use Rattle.batch.specs.Promise.{found_of, BatchIn, seen_batch, batched, outcomes}
use Rattle.batch.specs.Batches.{batch_cases, goods, good, Batch, batch, leaves, held_batches, all_done, free_answers}
use Rattle.batch.proofs.Once.{seen-batch_once}
use Rattle.batch.proofs.Kept.{batch_refusal_keeps}
use Rattle.batch.proofs.Exactly.{batch_exactly}
use Rattle.batch.proofs.Demand3.{batches_firm, batches_demand_3}
use Rattle.batch.proofs.Worth.{batches_worth}
use Rattle.hands.specs.Host.{gate_in, found_written, batch_hosted}
use Rattle.hands.specs.Calls.{Lent, inside, shown_by, BackBatch, through_batch, kept_batch, held_by_batches, RefusesBatch, TakesBatch}
use Rattle.hands.proofs.Runs.{gate-back, seven_over}
use Rattle.rules.specs.declared.Refusal.{Refusal}

-- what was handed back, with the seven numbers written
pub batch-returned : (es v v' : List ℕ) (g : Gate) → g ≡ gate_in v → (gs ws fs bs : List ℕ) (n : ℕ) (b : BatchIn numbers) → seen_batch b ≡ seen_batch (batched es g gs ws fs bs)
    → n ≡ found_of b.0.found → v' ≡ found_written b.0.found b.0.gate v → (n, v', b.1, b.2, b.3, b.4) ≡ batch_hosted v (batched es (gate_in v) gs ws fs bs)
batch-returned es v v' g eg gs ws fs bs n b p en ev =
    (λ i. (en i, ev i, b.1, b.2, b.3, b.4))
    ∙ ap (batch_hosted v) (seen-batch_once numbers b (batched es g gs ws fs bs) p ∙ ap (λ (x : Gate). batched es x gs ws fs bs) eg)

-- ONE BATCH

-- any two outcomes that its promise admits are equal
pub through-batch_once : (c d : BackBatch) (b : Batch) (h : Lent) → c ≡ through_batch b h → d ≡ through_batch b h → c ≡ d
through-batch_once c d b h p q = p ∙ sym q

-- 16 and 17 are given exactly where their conditions hold
pub through-batch_exactly : (b : Batch) (h : Lent) → RefusedExactly (batch_cases b.events b.answers) (RefusesBatch (through_batch b h)) (TakesBatch (through_batch b h))
through-batch_exactly b h = batch_exactly numbers b.events (gate_in h.seven) h.guests h.waiting h.flight b.answers

module _ (b : Batch) (h : Lent) (seven : length h.seven ≡ 7) where
  abbrev back : BatchIn numbers
  back = batch numbers b (inside h)

  -- the seven numbers after a batch are its gate
  gate-after : (j : Result Unit Refusal) → back.0.found ≡ j → gate_in (found_written j back.0.gate h.seven) ≡ back.0.gate
  gate-after (Ok _) p = gate-back back.0.gate h.seven seven
  gate-after (Err r) p =
      sym (ap (λ (c : BatchIn numbers). c.0.gate) (batch_refusal_keeps numbers b.events (gate_in h.seven) h.guests h.waiting h.flight b.answers r p))

  -- so a host in C holds after a batch what a host over numbers holds
  pub batch-back : inside (kept_batch (through_batch b h)) ≡ leaves numbers (batch numbers b (inside h))
  batch-back =
      let p = gate-after back.0.found refl in
      λ i. record { gate = p i; guests = back.1; waiting = back.2; flight = back.3 }

  still_seven : length (kept_batch (through_batch b h)).seven ≡ 7
  still_seven = go back.0.found
    where
      go : (j : Result Unit Refusal) → length (found_written j back.0.gate h.seven) ≡ 7
      go (Ok _) = seven_over back.0.gate h.seven seven
      go (Err r) = seven

-- A RUN OF BATCHES

pub batches_back : (bs : List Batch) (h : Lent) → length h.seven ≡ 7 → inside (held_by_batches h bs) ≡ held_batches numbers (inside h) bs
unfolding held_by_batches held_batches
batches_back [] h seven = refl
batches_back (b ∷ bs) h seven = batches_back bs (kept_batch (through_batch b h)) (still_seven b h seven) ∙ ap (λ (u : Host numbers). held_batches numbers u bs) (batch-back b h seven)

-- tables that are long enough and sound stay so
pub through_batches_firm : (bs : List Batch) (h : Lent) → length h.seven ≡ 7 → firm numbers (inside h) ≡ true → firm numbers (inside (held_by_batches h bs)) ≡ true
through_batches_firm bs h seven f = ap (firm numbers) (batches_back bs h seven) ∙ batches_firm numbers numbers-lawful bs (inside h) f

-- demand 3, of the answers where a place is free
pub through_batches_demand_3 : (h : Lent) (bs : List Batch) → firm numbers (inside h) ≡ true → (i : ℕ)
    → TurnKept (shown_by h) i (free_answers numbers (inside h) (all_done bs))
through_batches_demand_3 h bs f i = batches_demand_3 numbers numbers-lawful (inside h) bs f i

-- what a limit is worth, of the answers to their events
pub through_batches_worth : (h : Lent) (bs : List Batch) → firm numbers (inside h) ≡ true
    → Worth (shown_by h) (goods (all_done bs)) (map Outcome.answer (good (all_done bs) (outcomes numbers (inside h) (all_done bs))))
through_batches_worth h bs f = batches_worth numbers numbers-lawful (inside h) bs f
