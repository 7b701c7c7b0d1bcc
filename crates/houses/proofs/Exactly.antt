-- Each refusal of a call at an array is given exactly where its condition holds and none before it does: those judged here, and behind them the gate's own.
-- Assumes nothing.
use Prim.Native.Nat.{ℕ, zero, suc, ◌*◌, ◌≤◌, ◌<◌}
use mathlib.Core.Path.{◌≡◌, refl, sym, ap, ◌∙◌}
use mathlib.Core.Bool.{Bool, true, false, not, ◌&&◌, ◌||◌, true≢false, false≢true}
use mathlib.Core.List.{List, [], ◌∷◌, ◌++◌}
use mathlib.Core.Logic.Iff
use mathlib.Core.Logic.{◌↔◌, ◌⊎◌, inl, inr, ⊎_elim}
use native.Mathlib.Omega.{arith}
use lib.Dec.{ltb, leb, eqb}
use lib.ListN.{length, get_or}
use borrow.Author.Tests.{leb-true, le-leb, ltb-true, ltb-false, eqb-false, ne_eqb, not-true}
use Rattle.lists.specs.Words.{below}
use Rattle.lists.specs.Walks.{below_fails}
use Rattle.lists.specs.WordsLaws.{both, join, either_fails, neither}
use Rattle.rules.specs.Numbers.{most_delta, within}
use Rattle.rules.specs.Answers.{Printed, number_of, shown, taken}
use Rattle.rules.specs.Refusals.{Test, Verdict, accept, refuse, judged}
use Rattle.rules.specs.Refused.{Case, RefusedExactly, Countable, Ruled}
use Rattle.rules.specs.declared.Gate.{Gate}
use Rattle.rules.specs.declared.Refusal.{Refusal}
use Rattle.rules.specs.declared.Answer.{Answer}
use Rattle.rules.specs.declared.Answer.TheVariants.{Refused}
use Rattle.rules.proofs.Judged.{Tested, end, unless, ◌and◌}
use Rattle.rules.proofs.Conditions.{means, negated, at_most, less, counted_means, ruled_means}
use Rattle.rules.proofs.Trials.{X}
use Rattle.gate.specs.Promise.{numbers, HandedIn, called, opened}
use Rattle.gate.proofs.Lending.{numbers-lawful}
use Rattle.gate.proofs.Refusing.{Numbers, Accepts, called_exactly, open_exactly}
use Rattle.arrays.specs.declared.Site.{Site}
use Rattle.arrays.specs.declared.Ask.{Ask}
use Rattle.arrays.specs.declared.Ask.TheVariants.{Arrives, Completes, Ticks}
use Rattle.arrays.specs.Counters.{most_arrays, counter_wide, DELTA, RHO, counter_at, good_row, good_counters}
use Rattle.arrays.specs.Phases.{good_phase, in_step}
use Rattle.arrays.specs.Promise.{short_at, place_tests, ask_tests, handed_on, counted_at, asked_by, asked, opening_tests, started_at, begun_by, begun}
use Rattle.houses.specs.Cases.{Several, Short, Astray, Stray, Wrong, place_cases, ask_cases, opening_cases}

-- TESTS IN FRONT OF A CALL

-- the tests in front refuse with the number n, or the call behind them gives it
abbrev GivesBehind : Verdict → (gives : ℕ → Type 0) → ℕ → Type 0
GivesBehind accept gives n = gives n
GivesBehind (refuse r) gives n = number_of r ≡ n

-- both accept
abbrev AcceptsBehind : Verdict → (accepts : Type 0) → Type 0
AcceptsBehind accept accepts = accepts
AcceptsBehind (refuse r) accepts = ⊥

-- tests that say what cases say, in front of a call that is refused exactly by its own cases
behind : {cs : List Test} {ks : List Case} → Tested cs ks → (ls : List Case) (gives : ℕ → Type 0) (accepts : Type 0)
    → RefusedExactly ls gives accepts → RefusedExactly (ks ++ ls) (GivesBehind (judged cs) gives) (AcceptsBehind (judged cs) accepts)
behind end ls gives accepts x = x
behind (unless {b = true} h k) ls gives accepts x =
    record {
      number = λ n. (λ g. inl (g, h.0 refl), λ p. ⊎_elim (λ q. q.0) (λ q. absurd (q.0 (h.0 refl))) p);
      no_number = (λ e. absurd e, λ p. absurd (p.0 (h.0 refl)));
    }
behind (unless {b = false} h k) ls gives accepts x =
    let i = behind (k refl) ls gives accepts x in
    record {
      number = λ n. (λ g. inr (λ p. false≢true (h.1 p), (i.number n).0 g), λ p. ⊎_elim (λ q. absurd (false≢true (h.1 q.1))) (λ q. (i.number n).1 q.1) p);
      no_number = (λ e. (λ p. false≢true (h.1 p), i.no_number.0 e), λ p. i.no_number.1 p.1);
    }

-- a call that answers by those tests, and where they accept as the gate's own call behind them does
behind_exactly : {cs : List Test} {ks : List Case} → Tested cs ks → (ls : List Case) (h : HandedIn numbers) → RefusedExactly ls (Numbers numbers h) (Accepts numbers h)
    → (answers : Verdict → Answer) → answers accept ≡ h.0.answer → ((r : Refusal) → answers (refuse r) ≡ Refused r)
    → RefusedExactly (ks ++ ls) (λ n. shown (answers (judged cs)) ≡ X n) (taken (answers (judged cs)) ≡ true)
behind_exactly {cs} t ls h x answers same refused =
    let y = behind t ls (Numbers numbers h) (Accepts numbers h) x in
    record { number = λ n. Iff.trans (number n (judged cs)) (y.number n); no_number = Iff.trans (none (judged cs)) y.no_number }
  where
    number : (n : ℕ) (w : Verdict) → (shown (answers w) ≡ X n) ↔ GivesBehind w (Numbers numbers h) n
    number n accept = (λ p. sym (ap shown same) ∙ p, λ p. ap shown same ∙ p)
    number n (refuse r) = (λ p. ap (λ (q : Printed). get_or q.values 0 0) (sym (ap shown (refused r)) ∙ p), λ e. ap shown (refused r) ∙ ap X e)

    none : (w : Verdict) → (taken (answers w) ≡ true) ↔ AcceptsBehind w (Accepts numbers h)
    none accept = (λ p. sym (ap taken same) ∙ p, λ p. ap taken same ∙ p)
    none (refuse r) = (λ p. false≢true (sym (ap taken (refused r)) ∙ p), λ p. absurd p)

-- WHAT THE TESTS SAY

-- 1 to 8 arrays
several : (m : ℕ) → (within 1 most_arrays m ≡ true) ↔ Several m
several m =
    (λ h. let p = both (leb 1 m) (leb m most_arrays) h in (leb-true 1 m p.0, leb-true m most_arrays p.1), λ p. join (le-leb 1 m p.0) (le-leb m most_arrays p.1))

-- one of two holds
one_holds : {a b : Bool} {P Q : Type 0} → (a ≡ true) ↔ P → (b ≡ true) ↔ Q → (a || b ≡ true) ↔ (P ⊎ Q)
one_holds {a = true} x y = (λ e. inl (x.0 refl), λ p. refl)
one_holds {a = false} x y = (λ e. inr (y.0 e), λ p. ⊎_elim (λ q. absurd (false≢true (x.1 q))) (λ q. y.1 q) p)

-- one of two fails
one_fails : {a b : Bool} {P Q : Type 0} → (a ≡ false) ↔ P → (b ≡ false) ↔ Q → (a && b ≡ false) ↔ (P ⊎ Q)
one_fails {a = true} x y = (λ e. inr (y.0 e), λ p. ⊎_elim (λ q. absurd (true≢false (x.1 q))) (λ q. y.1 q) p)
one_fails {a = false} x y = (λ e. inl (x.0 refl), λ p. refl)

-- one of the numbers below n fails
some_below : (n : ℕ) (f : ℕ → Bool) → below n f ≡ false → (i : ℕ) × (i < n) × (f i ≡ false)
some_below zero f e = absurd (true≢false e)
some_below (suc n) f e =
    ⊎_elim (λ q. (n, omega arith, q)) (λ q. let (i, l, p) = some_below n f q in (i, omega arith, p)) (either_fails (f n) (below n f) e)

some_fails : (n : ℕ) (f : ℕ → Bool) (P : ℕ → Type 0) → ((i : ℕ) → (f i ≡ false) ↔ P i) → (below n f ≡ false) ↔ ((i : ℕ) × (i < n) × P i)
some_fails n f P x = (λ e. let (i, l, p) = some_below n f e in (i, l, (x i).0 p), λ (i, l, p). below_fails f n i l ((x i).1 p))

-- a row of counters that is not good
row_astray : (cs : List ℕ) (row : ℕ) → (good_row cs row ≡ false) ↔ Astray cs row
row_astray cs row = one_fails (at_most (counter_at cs row DELTA) most_delta).fails (at_most (counter_at cs row RHO) (counter_at cs row DELTA)).fails

-- a place whose phase is not good
place_stray : (n : ℕ) (ps : List ℕ) (i : ℕ) → (good_phase (ltb i n) (get_or ps i 0) ≡ false) ↔ Stray n ps i
place_stray n ps i = go (ltb i n) refl
  where
    p : ℕ
    p = get_or ps i 0

    go : (b : Bool) → ltb i n ≡ b → (good_phase b p ≡ false) ↔ (((i < n) × (p ≡ 1 → ⊥) × (p ≡ 2 → ⊥)) ⊎ ((n ≤ i) × (p ≡ 0 → ⊥)))
    go true e =
        let l = ltb-true i n e in (
          λ h. let q = neither (eqb p 1) (eqb p 2) h in inl (l, eqb-false p 1 q.0, eqb-false p 2 q.1),
          λ x. ⊎_elim (λ q. rw (ne_eqb p 1 q.1, ne_eqb p 2 q.2)) (λ q. absurd (omega (arith, l, q.0))) x,
        )
    go false e =
        let l = ltb-false i n e in
        (λ h. inr (l, eqb-false p 0 h), λ x. ⊎_elim (λ q. absurd (omega (arith, l, q.0))) (λ q. ne_eqb p 0 q.1) x)

-- counters or phases that are not good
found_wrong : (rows n d : ℕ) (cs ps : List ℕ) → (not (good_counters cs rows && in_step n d ps) ≡ true) ↔ Wrong rows n d cs ps
unfolding good_counters in_step
found_wrong rows n d cs ps =
    let x = one_fails (some_fails rows (good_row cs) (Astray cs) (row_astray cs)) (one_fails (at_most n d).fails (some_fails d (λ i. good_phase (ltb i n) (get_or ps i 0)) (Stray n ps) (place_stray n ps))) in
    (λ h. x.0 (not-true (good_counters cs rows && in_step n d ps) h), λ w. ap not (x.1 w))

-- counters or phases that are too short
found-short : (m n d : ℕ) (cs ps : List ℕ) → (short_at m n d cs ps ≡ true) ↔ Short m n d cs ps
found-short m n d cs ps = one_holds (less (length cs) (m * n * counter_wide)).holds (less (length ps) d).holds

-- THE TESTS OF EACH CALL

-- the cases of an event that are judged here
abbrev own_cases : Site → Gate → (cs ps : List ℕ) → Ask → List Case
own_cases s g cs ps k =
    record { number = 22; condition = Several s.arrays → ⊥ }
    ∷ record { number = 3; condition = Countable g.setup.depth g.guests g.setup.capacity → ⊥ }
    ∷ record { number = 2; condition = Short s.arrays g.guests g.setup.depth cs ps }
    ∷ record { number = 3; condition = Wrong (s.arrays * g.guests) g.flight g.setup.depth cs ps }
    ∷ place_cases s g k

-- and those of an opening
abbrev own_opening_cases : Site → (d n c rule : ℕ) → (cs ps : List ℕ) → List Case
own_opening_cases s d n c rule cs ps =
    record { number = 22; condition = Several s.arrays → ⊥ }
    ∷ record { number = 22; condition = s.arrays ≤ s.array }
    ∷ record { number = 1; condition = Countable d n c → ⊥ }
    ∷ record { number = 1; condition = Ruled rule → ⊥ }
    ∷ record { number = 2; condition = Short s.arrays n d cs ps }
    ∷ []

module _ (s : Site) (g : Gate) (cs ps : List ℕ) where
  -- the first four, and those of the place behind them
  ask_tested : (k : Ask) → Tested (ask_tests s g cs ps k) (own_cases s g cs ps k)
  unfolding ask_tests
  ask_tested k =
      (negated (means (several s.arrays))).holds
      and (negated (counted_means g.setup.depth g.guests g.setup.capacity)).holds
      and found-short s.arrays g.guests g.setup.depth cs ps
      and found_wrong (s.arrays * g.guests) g.flight g.setup.depth cs ps
      and place_tested k
    where
      place_tested : (k : Ask) → Tested (place_tests s g k) (place_cases s g k)
      place_tested (Arrives a now) = (at_most g.guests a.guest).holds and (at_most s.arrays s.array).holds and end
      place_tested (Completes f now) = (at_most g.guests f.guest).holds and (at_most s.arrays s.array).holds and end
      place_tested (Ticks now) = (at_most s.arrays s.array).holds and end

opening_tested : (s : Site) (d n c rule : ℕ) (cs ps : List ℕ) → Tested (opening_tests s d n c rule cs ps) (own_opening_cases s d n c rule cs ps)
unfolding opening_tests
opening_tested s d n c rule cs ps =
    (negated (means (several s.arrays))).holds
    and (at_most s.arrays s.array).holds
    and (negated (counted_means d n c)).holds
    and (negated (ruled_means rule)).holds
    and found-short s.arrays n d cs ps
    and end

-- EXACTLY

-- An arrival, a completion and a tick.
pub asked_exactly : (s : Site) (g : Gate) (gs ws fs cs ps : List ℕ) (k : Ask)
    → RefusedExactly (ask_cases s g gs ws fs cs ps k) (λ n. shown (asked s g gs ws fs cs ps k).0.answer ≡ X n) (taken (asked s g gs ws fs cs ps k).0.answer ≡ true)
unfolding asked ask_cases
asked_exactly s g gs ws fs cs ps k =
    behind_exactly (ask_tested s g cs ps k) _ h (called_exactly numbers numbers-lawful g gs ws fs (handed_on s g cs k))
    (λ w. (asked_by w s g gs ws fs cs ps k).0.answer) (same (taken h.0.answer)) (λ r. refl)
  where
    h : HandedIn numbers
    h = called (handed_on s g cs k) g gs ws fs

    same : (b : Bool) → (counted_at b s g fs cs ps k h).0.answer ≡ h.0.answer
    same true = refl
    same false = refl

-- An opening.
pub begun_exactly : (s : Site) (d n c rule : ℕ) (ss gs ws fs cs ps : List ℕ)
    → RefusedExactly (opening_cases s d n c rule ss gs ws fs cs ps) (λ m. shown (begun s d n c rule ss gs ws fs cs ps).0.answer ≡ X m) (taken (begun s d n c rule ss gs ws fs cs ps).0.answer ≡ true)
unfolding begun opening_cases
begun_exactly s d n c rule ss gs ws fs cs ps =
    behind_exactly (opening_tested s d n c rule cs ps) _ h (open_exactly numbers d n c rule ss gs ws fs)
    (λ w. (begun_by w s d n c rule ss gs ws fs cs ps).0.answer) (same (taken h.0.answer)) (λ r. refl)
  where
    h : HandedIn numbers
    h = opened d n c rule ss gs ws fs

    same : (b : Bool) → (started_at b s d n cs ps h).0.answer ≡ h.0.answer
    same true = refl
    same false = refl
