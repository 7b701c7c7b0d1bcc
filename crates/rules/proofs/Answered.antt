-- What an answer shows is its verdict: a refusal exactly where that is the verdict, so what is printed follows the paper's list of each event.
-- Assumes nothing.
use mathlib.Core.Path.{◌≡◌, refl, sym, ap, ◌∙◌}
use mathlib.Core.Bool.{true, false, not, false≢true}
use mathlib.Core.Logic.{◌↔◌}
use Prim.Native.Nat.{ℕ}
use native.Mathlib.Omega.{arith}
use lib.ListN.{get_or}
use borrow.Author.Tests.{not-false}
use Rattle.rules.specs.Tables.{Table}
use Rattle.rules.specs.Answers.{Printed, shown, taken}
use Rattle.rules.specs.Sound.{sound}
use Rattle.rules.specs.Choice.{choice}
use Rattle.rules.specs.Events.{Event, enter}
use Rattle.rules.specs.Refusals.{Verdict, accept, refuse, verdict, is_accept, accepted}
use Rattle.rules.specs.Refused.{RefusedExactly, call_cases}
use Rattle.rules.specs.Run.{decided, step}
use Rattle.rules.specs.declared.Phase.TheVariants.{Reservation, Weight}
use Rattle.rules.specs.declared.Answer.{Answer}
use Rattle.rules.specs.declared.Answer.TheVariants.{Nothing, Sent, Refused}
use Rattle.rules.specs.declared.Phase.{Phase}
use Rattle.rules.proofs.Trials.{X}
use Rattle.rules.proofs.Refused.{Tells, exactly, call_tested}
use Rattle.rules.proofs.Cases.{choice_by}

-- AN ANSWER AND A VERDICT

-- an answer follows from a verdict: it is no refusal where that accepts, and else just the refusal
abbrev pub Follows : Verdict → Answer → Type 0
Follows accept a = taken a ≡ true
Follows (refuse r) a = a ≡ Refused r

-- an answer that is no refusal shows no number
no_number : (a : Answer) → taken a ≡ true → (n : ℕ) → shown a ≡ X n → ⊥
no_number Nothing t n h = omega (arith, ap Printed.letter h)
no_number (Sent Reservation g i) t n h = omega (arith, ap Printed.letter h)
no_number (Sent Weight g i) t n h = omega (arith, ap Printed.letter h)
no_number (Refused r) t n h = false≢true t

-- an answer that sends is not "nothing"
pub nothing_sent : {p : Phase} {g i : ℕ} → Nothing ≡ Sent p g i → ⊥
nothing_sent e = let z : ◌≡◌ {A = ℕ} 0 1 = cc in omega arith

-- then what is shown of it tells the verdict
pub shown-tells : (v : Verdict) (a : Answer) → Follows v a → Tells v (λ n. shown a ≡ X n) (taken a ≡ true)
shown-tells accept a f = record { number = λ n. (no_number a f n, λ g. absurd g); accepting = (λ t. refl, λ t. f) }
shown-tells (refuse r) a f =
    record {
      number = λ n. (λ s. ap (λ (p : Printed). get_or p.values 0 0) (sym (ap shown f) ∙ s), λ g. ap shown f ∙ ap X g);
      accepting = (λ t. absurd (false≢true (sym (ap taken f) ∙ t)), λ e. absurd (false≢true (ap is_accept e)));
    }

-- A STEP

-- a choice refuses nothing
pub unrefused : (t : Table) → taken (choice t).answer ≡ true
unrefused t = choice_by (λ r. taken r.answer ≡ true) t refl (λ p v f e. refl) (λ p v f n e. refl)

-- what a step answers follows from its verdict
pub step_follows : (t : Table) (e : Event) → Follows (verdict t e) (step t e).answer
unfolding step decided
step_follows t e = go (verdict t e)
  where
    go : (v : Verdict) → Follows v (decided v t e).answer
    go accept = unrefused (enter t e)
    go (refuse r) = refl

-- it is no refusal exactly where the event is accepted
pub step-taken : (t : Table) (e : Event) → taken (step t e).answer ≡ accepted t e
step-taken t e = go (verdict t e) (step_follows t e)
  where
    go : (v : Verdict) → Follows v (step t e).answer → taken (step t e).answer ≡ is_accept v
    go accept f = f
    go (refuse r) f = ap taken f

accepted_is : (v : Verdict) → (is_accept v ≡ true) ↔ (v ≡ accept)
accepted_is accept = (λ h. refl, λ h. refl)
accepted_is (refuse r) = (λ h. absurd (false≢true h), λ h. ap is_accept h)

-- number n is printed for an event
abbrev pub Prints : Table → Event → ℕ → Type 0
Prints t e n = shown (step t e).answer ≡ X n

-- each number is printed exactly where its condition holds and no earlier one of that event's list does
pub refused_exactly : (t : Table) (e : Event) → RefusedExactly (call_cases false (not (sound t)) t e) (Prints t e) (accepted t e ≡ true)
refused_exactly t e =
    exactly (call_tested false (not (sound t)) t e (not-false (sound t)))
    (record { number = (shown-tells (verdict t e) (step t e).answer (step_follows t e)).number; accepting = accepted_is (verdict t e) })
