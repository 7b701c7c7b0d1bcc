-- Each refusal number is given exactly where its condition holds and none before it does: of each call, the test that computes each condition, in
-- the order of its list. Assumes nothing.
use mathlib.Core.Path.{◌≡◌, refl, sym, ap, ◌∙◌}
use mathlib.Core.Bool.{Bool, true, false, false≢true}
use mathlib.Core.List.{List, [], ◌∷◌}
use mathlib.Core.Logic.Iff
use mathlib.Core.Logic.{◌↔◌}
use Prim.Native.Nat.{ℕ, zero, suc, ◌<◌}
use native.Mathlib.Omega.{arith}
use lib.ListN.{length}
use Rattle.rules.specs.Numbers.{ceiling}
use Rattle.rules.specs.Tables.{Settings, Flight, Table, idle, names}
use Rattle.rules.specs.Sound.{sound}
use Rattle.rules.specs.Events.{Arriving, Event, Arrival, Completion, Tick, called_by}
use Rattle.rules.specs.Refusals.{Test, Verdict, accept, refuse, judged, is_accept, time_tests, guest_tests, event_tests, tests, open_tests}
use Rattle.rules.specs.Refused.{Case, RefusedExactly, time_cases, guest_cases, event_cases, call_cases, open_cases}
use Rattle.rules.specs.Answers.{number_of}
use Rattle.rules.proofs.Judged.{number_of_some, Gives, numbers, Tested, end, unless, ◌and◌, judged-first, judged-none}
use Rattle.rules.proofs.Facts.{sound_is}
use Rattle.rules.proofs.Conditions.{at_most, less, equal, negated, lacking, passing_means, counted_means, ruled_means, settled_means, fair_means, spread_means}

-- `gives` and `accepts` tell a verdict
pub record Tells (v : Verdict) (gives : ℕ → Type 0) (accepts : Type 0) : Type 0 where
  pub number : (n : ℕ) → gives n ↔ Gives v n
  pub accepting : accepts ↔ (v ≡ accept)

-- what tells the verdict of tests is refused exactly by their cases
pub exactly : {cs : List Test} {ks : List Case} {gives : ℕ → Type 0} {accepts : Type 0}
    → Tested cs ks → Tells (judged cs) gives accepts → RefusedExactly ks gives accepts
exactly h tells = record { number = λ n. Iff.trans (tells.number n) (judged-first h n); no_number = Iff.trans tells.accepting (judged-none h) }

-- a number that is the refusal's, and 0 where there is none
abbrev pub Numbers : Verdict → ℕ → Type 0
Numbers accept x = x ≡ 0
Numbers (refuse r) x = x ≡ number_of r

-- tells the verdict
pub number_tells : (v : Verdict) (x : ℕ) → Numbers v x → Tells v (λ n. (0 < n) × (x ≡ n)) (x ≡ 0)
number_tells accept x e = record { number = λ n. (λ p. absurd (omega (arith, p.0, p.1)), λ g. absurd g); accepting = (λ p. refl, λ p. e) }
number_tells (refuse r) x e =
    record {
      number = λ n. (λ p. sym e ∙ p.1, λ g. (some n g, e ∙ g));
      accepting = (λ p. absurd (number_of_some r (sym e ∙ p)), λ p. absurd (false≢true (ap is_accept p)));
    }
  where
    some : (n : ℕ) → number_of r ≡ n → 0 < n
    some zero g = absurd (number_of_some r g)
    some (suc n) g = omega arith

-- THE TESTS OF EACH CALL

time_tested : (now : ℕ) (t : Table) {cs : List Test} {ks : List Case} → Tested cs ks → Tested (time_tests now t cs) (time_cases now t ks)
time_tested now t rest =
    (less ceiling now).holds
    and (less now t.time).holds
    and rest

guest_tested : (g now : ℕ) (t : Table) {cs : List Test} {ks : List Case} → Tested cs ks → Tested (guest_tests g now t cs) (guest_cases g now t ks)
guest_tested g now t rest = (at_most (length t.guests) g).holds and time_tested now t rest

-- an event's own, at a sound table
pub event_tested : (t : Table) (e : Event) → sound t ≡ true → Tested (event_tests t e) (event_cases t e)
unfolding event_tests event_cases
event_tested t (Arrival a now) s =
    guest_tested a.guest now t
    ((negated (fair_means a.cost)).holds
    and (negated (spread_means a.delta a.rho)).holds
    and (negated (lacking (called_by a) (names t))).holds
    and (equal (length t.waiting) t.setup.capacity).holds
    and (passing_means (idle t a.guest) now a t (sound_is t s).tags_fit).holds
    and end)
event_tested t (Completion f now) s = guest_tested f.guest now t ((lacking f t.flight).holds and end)
event_tested t (Tick now) s = time_tested now t end

-- a call's
pub call_tested : (short unsound : Bool) (t : Table) (e : Event) → (unsound ≡ false → sound t ≡ true)
    → Tested (tests short unsound t e) (call_cases short unsound t e)
call_tested short unsound t e honest = Iff.rfl and unless Iff.rfl (λ u. event_tested t e (honest u))

-- an opening's
pub open_tested : (short : Bool) (d n c r : ℕ) (ss : List Settings) → Tested (open_tests short d n c r ss) (open_cases short d n c r ss)
unfolding open_tests open_cases
open_tested short d n c r ss =
    (negated (counted_means d n c)).holds
    and (negated (ruled_means r)).holds
    and Iff.rfl
    and (negated (settled_means ss)).holds
    and end

-- the numbers of each call's list, in the order in which they are judged
module _ (short unsound : Bool) (t : Table) (now : ℕ) where
  pub arrival_numbers : (a : Arriving) → numbers (tests short unsound t (Arrival a now)) ≡ 2 ∷ 3 ∷ 4 ∷ 5 ∷ 6 ∷ 18 ∷ 20 ∷ 7 ∷ 8 ∷ 9 ∷ []
  unfolding event_tests
  arrival_numbers a = refl

  pub completion_numbers : (f : Flight) → numbers (tests short unsound t (Completion f now)) ≡ 2 ∷ 3 ∷ 4 ∷ 5 ∷ 6 ∷ 10 ∷ []
  unfolding event_tests
  completion_numbers f = refl

  pub tick_numbers : numbers (tests short unsound t (Tick now)) ≡ 2 ∷ 3 ∷ 5 ∷ 6 ∷ []
  unfolding event_tests
  tick_numbers = refl

pub opening-numbers : (short : Bool) (d n c r : ℕ) (ss : List Settings) → numbers (open_tests short d n c r ss) ≡ 1 ∷ 1 ∷ 2 ∷ 1 ∷ []
unfolding open_tests
opening-numbers short d n c r ss = refl
