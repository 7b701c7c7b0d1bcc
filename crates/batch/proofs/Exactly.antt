-- 16 and 17 exactly: each is given where its condition holds and none before it does, and no other number is. Assumes nothing.
use Prim.Native.Nat.{ℕ, ◌*◌, ◌<◌}
use mathlib.Core.Path.{◌≡◌, refl, sym, ap, ◌∙◌}
use mathlib.Core.Bool.{true}
use mathlib.Core.List.{List}
use mathlib.Core.Logic.{◌↔◌}
use lib.Dec.{ltb}
use lib.ListN.{length}
use borrow.Author.Tests.{ltb-true, lt-ltb}
use Rattle.rules.specs.Refused.{RefusedExactly, FirstOf, NoneHolds}
use Rattle.rules.specs.Refusals.{Verdict, accept, refuse, judged}
use Rattle.rules.specs.declared.Gate.{Gate}
use Rattle.rules.proofs.Judged.{Tested, end, ◌and◌, Gives, judged-first, judged-none, number_of_some}
use Rattle.gate.specs.Promise.{Lending}
use Rattle.gate.specs.Calls.{Host}
use Rattle.batch.specs.Rows.{count_of, answer_wide, most_events}
use Rattle.batch.specs.Promise.{host_of, found_of, batch_tests, batched_by, batched_in}
use Rattle.batch.specs.Batches.{batch_cases, Refuses, Takes}

-- a test of two numbers holds exactly where the first is below the second
below : (a b : ℕ) → (ltb a b ≡ true) ↔ (a < b)
below a b = (ltb-true a b, lt-ltb a b)

tested : (es bs : List ℕ) → Tested (batch_tests es bs) (batch_cases es bs)
unfolding batch_tests batch_cases
tested es bs = below (length bs) (count_of es * answer_wide) and (below most_events (count_of es) and end)

module _ (v : Lending) (es : List ℕ) (g : Gate) (gs : List v.Cell) (ws fs bs : List ℕ) where
  abbrev h : Host v
  h = host_of v g gs ws fs

  pub batch_exactly : RefusedExactly (batch_cases es bs) (Refuses (batched_in v es g gs ws fs bs).0) (Takes (batched_in v es g gs ws fs bs).0)
  unfolding batched_in
  batch_exactly = record { number = number; no_number = none }
    where
      gives : (w : Verdict) (n : ℕ) → Refuses (batched_by v w es h bs).0 n ↔ Gives w n
      gives accept n = (λ p. p.1 (sym p.0), λ p. absurd p)
      gives (refuse r) n = (λ p. p.0, λ p. (p, λ z. number_of_some r (p ∙ z)))

      number : (n : ℕ) → Refuses (batched_by v (judged (batch_tests es bs)) es h bs).0 n ↔ FirstOf n (batch_cases es bs)
      number n =
          let a = gives (judged (batch_tests es bs)) n in
          let b = judged-first (tested es bs) n in
          (λ p. b.0 (a.0 p), λ p. a.1 (b.1 p))

      takes : (w : Verdict) → Takes (batched_by v w es h bs).0 ↔ (w ≡ accept)
      takes accept = (λ p. refl, λ p. refl)
      takes (refuse r) = (λ p. absurd (number_of_some r p), λ p. ap (λ (w : Verdict). found_of (batched_by v w es h bs).0.found) p)

      none : Takes (batched_by v (judged (batch_tests es bs)) es h bs).0 ↔ NoneHolds (batch_cases es bs)
      none =
          let a = takes (judged (batch_tests es bs)) in
          let b = judged-none (tested es bs) in
          (λ p. b.0 (a.0 p), λ p. a.1 (b.1 p))
