-- Time never falls: after each reading of any run it is at least what it was, from 0 where no reading was taken. Assumes nothing.
use Rattle.std.proofs.Common.{◌≡◌, ℕ, ◌≤◌, List, [], ◌∷◌, sym, subst, arith, eq-eqb, ne_eqb}
use Rattle.clock.specs.declared.Clock.{Clock}
use Rattle.clock.specs.declared.Told.{Told}
use Rattle.clock.specs.Reading.{doing}
use Rattle.clock.specs.Runs.{Started, run, times, begins, Rising}
use Rattle.clock.proofs.Cases.{Ends, begun, moves, stops, ends}

-- the time from which a clock goes on, where a reading was taken and where none was
goes_on : (c : Clock) → Started c → begins c ≡ c.time
goes_on c on = rw (ne_eqb c.started 0 on)

starts : (c : Clock) → c.started ≡ 0 → begins c ≡ 0
starts c z = rw (eq-eqb c.started 0 z)

module _ (c : Clock) (r : ℕ) where
  abbrev next : Clock
  next = (doing c r).1

  -- the clock after a reading is started, with a time at least that
  on_and_up : Started next × (begins c ≤ next.time)
  on_and_up = of (ends c r)
    where
      as_is : (h : Told × Clock) → doing c r ≡ h → Started h.1 → begins c ≤ h.1.time → Started next × (begins c ≤ next.time)
      as_is h e on up = subst (λ (k : Told × Clock). Started k.1 × (begins c ≤ k.1.time)) (sym e) (on, up)

      of : Ends c r → Started next × (begins c ≤ next.time)
      of (begun z e) = as_is _ e (λ p. omega (arith, p)) (omega (arith, starts c z))
      of (moves on fits e) = as_is _ e on (omega (arith, goes_on c on))
      of (stops on past e) = as_is _ e on (omega (arith, goes_on c on))

pub never_falls : (c : Clock) (rs : List ℕ) → Rising (begins c) (times c rs)
unfolding run Rising
never_falls c [] = tt
never_falls c (r ∷ rs) =
    let p = on_and_up c r in
    (p.1, subst (λ (x : ℕ). Rising x (times (next c r) rs)) (goes_on (next c r) p.0) (never_falls (next c r) rs))
