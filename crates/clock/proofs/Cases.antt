-- A reading is one of three: the first, a later one that moves the clock on, and one that is refused. Assumes nothing.
use Rattle.std.proofs.Common.{◌≡◌, ℕ, ◌+◌, ◌<◌, ◌≤◌, Bool, true, false, eqb, ltb, refl, ltb-false, ltb-true, le-ltb, lt-ltb, eq-eqb, ne_eqb, eqb-true}
use borrow.Author.Tests.{eqb-false}
use Rattle.rules.specs.Numbers.{ceiling}
use Rattle.clock.specs.declared.Clock.{Clock}
use Rattle.clock.specs.Reading.{elapsed, clock_of, tells, moved_to, doing}
use Rattle.clock.specs.Runs.{Started}

-- the first comes to time 0, whatever else the record holds
pub first : (c : Clock) (r : ℕ) → c.started ≡ 0 → doing c r ≡ moved_to (clock_of 0 r 1)
first c r z = rw (eq-eqb c.started 0 z)

module _ (c : Clock) (r : ℕ) (on : Started c) where
  -- a later one within the ceiling moves the clock on
  pub later : c.time + elapsed c.last r ≤ ceiling → doing c r ≡ moved_to (clock_of (c.time + elapsed c.last r) r c.started)
  later fits = rw (ne_eqb c.started 0 on) (rw (le-ltb ceiling (c.time + elapsed c.last r) fits))

  -- one that would pass it is 5 and leaves the record
  pub refused : ceiling < c.time + elapsed c.last r → doing c r ≡ (tells 5 0, c)
  refused past = rw (ne_eqb c.started 0 on) (rw (lt-ltb ceiling (c.time + elapsed c.last r) past))

-- the three, each with what holds where it is met
pub data Ends (c : Clock) (r : ℕ) : Type 0 where
  begun : c.started ≡ 0 → doing c r ≡ moved_to (clock_of 0 r 1) → Ends c r
  moves : Started c → c.time + elapsed c.last r ≤ ceiling → doing c r ≡ moved_to (clock_of (c.time + elapsed c.last r) r c.started) → Ends c r
  stops : Started c → ceiling < c.time + elapsed c.last r → doing c r ≡ (tells 5 0, c) → Ends c r

module _ (c : Clock) (r : ℕ) where
  pub ends : Ends c r
  ends = starting (eqb c.started 0) refl
    where
      sum : ℕ
      sum = c.time + elapsed c.last r

      passing : Started c → (b : Bool) → ltb ceiling sum ≡ b → Ends c r
      passing on true e = stops on (ltb-true ceiling sum e) (refused c r on (ltb-true ceiling sum e))
      passing on false e = moves on (ltb-false ceiling sum e) (later c r on (ltb-false ceiling sum e))

      starting : (b : Bool) → eqb c.started 0 ≡ b → Ends c r
      starting true e = begun (eqb-true c.started 0 e) (first c r (eqb-true c.started 0 e))
      starting false e = passing (eqb-false c.started 0 e) (ltb ceiling sum) refl
