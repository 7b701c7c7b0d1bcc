-- `once`: any two outcomes that the promise of a batch admits are equal: what was found, the gate, every number of every table and of the answers.
-- Assumes nothing.
use Rattle.std.specs.Prelude.{Ok, Err, Result}
use Prim.Native.Nat.{ℕ}
use mathlib.Core.Path.{◌≡◌, refl, sym, ap, ◌∙◌}
use mathlib.Core.List.{List}
use Rattle.rules.specs.declared.Gate.{Gate}
use Rattle.rules.proofs.Judged.{number_of_once, number_of_some}
use Rattle.gate.specs.Promise.{Lending}
use Rattle.batch.specs.Promise.{found_of, BatchIn, SeenBatchIn, seen_batch_in, batched_in}
use Rattle.rules.specs.declared.Refusal.{Refusal}

-- what was found is its number
pub found_once : (i j : Result Unit Refusal) → found_of i ≡ found_of j → i ≡ j
found_once (Ok _) (Ok _) h = refl
found_once (Ok _) (Err s) h = absurd (number_of_some s (sym h))
found_once (Err r) (Ok _) h = absurd (number_of_some r h)
found_once (Err r) (Err s) h = ap Err (number_of_once r s h)

module _ (v : Lending) where
  -- two outcomes of which a caller sees the same are equal
  pub seen-batch_once : (h k : BatchIn v) → seen_batch_in v h ≡ seen_batch_in v k → h ≡ k
  seen-batch_once h k e =
      let f = found_once h.0.found k.0.found (ap (λ (s : SeenBatchIn v). s.1) e) in
      λ i. (record { gate = (e i).0; found = f i }, (e i).2, (e i).3, (e i).4, (e i).5)

  -- of a batch
  pub batch_once : (h k : BatchIn v) (es : List ℕ) (g : Gate) (gs : List v.Cell) (ws fs bs : List ℕ)
      → seen_batch_in v h ≡ seen_batch_in v (batched_in v es g gs ws fs bs) → seen_batch_in v k ≡ seen_batch_in v (batched_in v es g gs ws fs bs) → h ≡ k
  batch_once h k es g gs ws fs bs p q = seen-batch_once h k (p ∙ sym q)
