-- WHAT A LIMIT IS WORTH, of batches: over any run of batches from tables that are long enough and sound, whatever the split of the events among them. Document
-- 02, K11. Assumes nothing.
use mathlib.Core.Path.{◌≡◌}
use mathlib.Core.Bool.{true}
use mathlib.Core.List.{List, map}
use Rattle.rules.specs.declared.Outcome.{Outcome}
use Rattle.worth.specs.Worth.{Worth}
use Rattle.gate.specs.Promise.{Lending}
use Rattle.gate.specs.Calls.{Host, shows, firm}
use Rattle.gate.proofs.Lending.{Lawful}
use Rattle.gate.proofs.Worth.{calls_worth}
use Rattle.batch.specs.Promise.{outcomes}
use Rattle.batch.specs.Batches.{goods, good, Batch, all_done}
use Rattle.batch.proofs.OneByOne.{answers_calls}
use Rattle.batch.proofs.Demand3.{batches_narrow}

module _ (v : Lending) (lawful : Lawful v) where
  -- of the answers to the events that the batches do, the bad ones passed over
  pub batches_worth : (h : Host v) (bs : List Batch) → firm v h ≡ true
      → Worth (shows v h) (goods (all_done bs)) (map Outcome.answer (good (all_done bs) (outcomes v h (all_done bs))))
  batches_worth h bs f = rw (answers_calls v (all_done bs) h) (calls_worth v lawful h (goods (all_done bs)) f (batches_narrow bs))
