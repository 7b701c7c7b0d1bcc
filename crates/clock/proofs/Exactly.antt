-- 5 exactly: it is given where a reading would pass the ceiling, and no other number is. A refusal changes nothing; a reading that is accepted is
-- told the clock's time, which is at most the ceiling. Assumes nothing.
use Rattle.std.proofs.Common.{◌≡◌, ℕ, ◌+◌, ◌<◌, ◌≤◌, ◌⊎◌, List, [], ◌∷◌, map, sym, refl, ap, ◌∙◌, subst, inl, inr, arith}
use Rattle.rules.specs.Numbers.{ceiling}
use Rattle.rules.specs.Refused.{RefusedExactly, FirstOf}
use Rattle.clock.specs.declared.Clock.{Clock}
use Rattle.clock.specs.declared.Told.{Told}
use Rattle.clock.specs.Reading.{elapsed, tells, moved_to, doing}
use Rattle.clock.specs.Runs.{Started, clock_cases, Refuses, Takes, run}
use Rattle.clock.proofs.Cases.{refused, Ends, begun, moves, stops, ends}

-- the number that an outcome tells
abbrev number_of : Told × Clock → ℕ
number_of h = h.0.refusal

module _ (c : Clock) (r : ℕ) where
  abbrev said : Told
  said = (doing c r).0

  -- the condition of 5
  abbrev Past : Type 0
  Past = Started c × (ceiling < c.time + elapsed c.last r)

  -- the number that is told, and whether the condition holds
  abbrev Verdict : Type 0
  Verdict = ((said.refusal ≡ 5) × Past) ⊎ ((said.refusal ≡ 0) × (Past → ⊥))

  verdict : Ends c r → Verdict
  verdict (begun z e) = inr (ap number_of e, λ p. p.0 z)
  verdict (moves on fits e) = inr (ap number_of e, λ p. omega (arith, p.1, fits))
  verdict (stops on past e) = inl (ap number_of e, (on, past))

  pub read_exactly : RefusedExactly (clock_cases c r) (Refuses said) (Takes said)
  read_exactly = of (verdict (ends c r))
    where
      first_of : (n : ℕ) → FirstOf n (clock_cases c r) → (5 ≡ n) × Past
      first_of n (inl p) = p
      first_of n (inr p) = absurd p.1

      of : Verdict → RefusedExactly (clock_cases c r) (Refuses said) (Takes said)
      of (inl p) = record {
        number = λ n. (λ q. inl (sym p.0 ∙ q.0, p.1), λ q. (p.0 ∙ (first_of n q).0, λ z. omega (arith, (first_of n q).0, z)));
        no_number = (λ q. absurd (omega (arith, p.0, q)), λ q. absurd (q.0 p.1));
      }
      of (inr p) = record {
        number = λ n. (λ q. absurd (q.1 (sym q.0 ∙ p.0)), λ q. absurd (p.1 (first_of n q).1));
        no_number = (λ q. (p.1, tt), λ q. p.0);
      }

  -- a refusal changes nothing
  pub refusal_keeps : (n : ℕ) → Refuses said n → doing c r ≡ (tells n 0, c)
  refusal_keeps n p = of (ends c r)
    where
      of : Ends c r → doing c r ≡ (tells n 0, c)
      of (begun z e) = absurd (p.1 (sym p.0 ∙ ap number_of e))
      of (moves on fits e) = absurd (p.1 (sym p.0 ∙ ap number_of e))
      of (stops on past e) = e ∙ ap (λ (m : ℕ). (tells m 0, c)) (sym (ap number_of e) ∙ p.0)

  -- a reading that is accepted is told the time of the clock after it, which is at most the ceiling: a gate takes it
  pub accepted-tells : Takes said → (doing c r ≡ moved_to (doing c r).1) × ((doing c r).1.time ≤ ceiling)
  accepted-tells p = of (ends c r)
    where
      moved_on : (c' : Clock) → doing c r ≡ moved_to c' → c'.time ≤ ceiling → (doing c r ≡ moved_to (doing c r).1) × ((doing c r).1.time ≤ ceiling)
      moved_on c' e fits =
          let e' = ap (λ (h : Told × Clock). h.1) e in
          (e ∙ ap moved_to (sym e'), subst (λ (d : Clock). d.time ≤ ceiling) (sym e') fits)

      of : Ends c r → (doing c r ≡ moved_to (doing c r).1) × ((doing c r).1.time ≤ ceiling)
      of (begun z e) = moved_on _ e (omega arith)
      of (moves on fits e) = moved_on _ e fits
      of (stops on past e) = absurd (omega (arith, p, ap number_of e))

-- a clock that is started with a time above the ceiling is told 5 at every reading, and stays
pub past_ceiling : (c : Clock) → Started c → ceiling < c.time → (rs : List ℕ) → run c rs ≡ map (λ (r : ℕ). (tells 5 0, c)) rs
unfolding run
past_ceiling c on past [] = refl
past_ceiling c on past (r ∷ rs) =
    let e = refused c r on (omega (arith, past)) in
    ap (λ (h : Told × Clock). h ∷ run h.1 rs) e ∙ ap (λ (l : List (Told × Clock)). (tells 5 0, c) ∷ l) (past_ceiling c on past rs)
