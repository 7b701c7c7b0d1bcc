-- From counters and phases that are good, every call leaves good ones: an accepted one too. So a house never makes counters or phases that it then refuses with 2 or
-- with 3 itself. Assumes nothing.
use Prim.Native.Nat.{ℕ, zero, suc, ◌+◌, ◌*◌, ◌≤◌, ◌<◌}
use mathlib.Core.Path.{◌≡◌, refl, sym, ap, ◌∙◌, subst}
use mathlib.Core.Bool.{Bool, true, false, ◌&&◌, ◌||◌}
use mathlib.Core.List.{List, [], ◌∷◌}
use mathlib.Core.Logic.{⊎_elim}
use native.Mathlib.Omega.{arith}
use lib.Dec.{ltb, leb, eqb}
use lib.ListN.{length, get_or, length-append, get_or-eq_default}
use borrow.Author.Tests.{leb-true, le-leb, lt-ltb, le-ltb, eqb-true, eqb-false}
use Rattle.lists.specs.Words.{if◌then◌else◌, all, below}
use Rattle.lists.specs.Tab.{remove_at, length-tab, get_or-tab, lt_or_le}
use Rattle.lists.specs.WordsLaws.{both, join, below_at, at-below, all-at, places_all, all_snoc}
use Rattle.lists.specs.RowsLaws.{length-rows}
use Rattle.rules.specs.Numbers.{most_delta}
use Rattle.rules.specs.declared.Flight.{Flight}
use Rattle.rules.specs.declared.Phase.{Phase}
use Rattle.rules.specs.declared.Phase.TheVariants.{Reservation, Weight}
use Rattle.rules.specs.declared.Answer.{Answer}
use Rattle.rules.specs.declared.Answer.TheVariants.{Nothing, Sent, Refused}
use Rattle.rules.specs.Answers.{taken}
use Rattle.rules.specs.Refused.{Countable}
use Rattle.rules.specs.declared.Gate.{Gate}
use Rattle.rules.proofs.Conditions.{counted_means}
use Rattle.rules.proofs.InFlight.{joined_by, left_by}
use Rattle.table.specs.View.{flight_form, flights_of, name_is, gate_at}
use Rattle.gate.specs.Promise.{numbers, HandedIn}
use Rattle.gate.specs.Calls.{Host}
use Rattle.gate.proofs.Lending.{numbers-lawful}
use Rattle.gate.proofs.InFlight.{Flown, flown_by}
use Rattle.arrays.specs.declared.Site.{Site}
use Rattle.arrays.specs.declared.Ask.{Ask}
use Rattle.arrays.specs.declared.Ask.TheVariants.{Arrives, Completes, Ticks}
use Rattle.arrays.specs.Counters.{counter_wide, DELTA, RHO, row_of, counter_at, good_row, good_counters, row_set, one_more, counted_all}
use Rattle.arrays.specs.Phases.{phase_number, by_reservation, good_phase, in_step, phases_of, place_of, joined, phases_over}
use Rattle.arrays.specs.Promise.{HandedAt, handed_on, place_at, counted_by, still_flying, asked}
use Rattle.houses.proofs.Keeps.{asked_keeps}
use Rattle.houses.proofs.Accepted.{Known, known-guest, own, Took, accepted-took}
use Rattle.arrays.proofs.Found.{Fit, fit_of}
use Rattle.houses.proofs.Untouched.{asked_beyond}
use Rattle.arrays.proofs.Rows.{row_among}
use Rattle.houses.proofs.CounterLaws.{pair_at, row-set, row-set_other, length-counted}
use Rattle.arrays.proofs.Places.{over-at}
use Rattle.arrays.proofs.PhaseLaws.{place-without}

-- COUNTERS

-- the row of this delta and this rho is good
abbrev good_pair : ℕ × ℕ → Bool
good_pair p = leb p.0 most_delta && leb p.1 p.0

-- a good row put among good ones
set-good : (most row d r : ℕ) (cs : List ℕ) → most * counter_wide ≤ length cs → row < most → d ≤ most_delta → r ≤ d → good_counters cs most ≡ true → good_counters (row_set row d r cs) most ≡ true
unfolding good_counters
set-good most row d r cs room l i j good = at-below most (good_row (row_set row d r cs)) each
  where
    each : (x : ℕ) → x < most → good_pair (pair_at (row_set row d r cs) x) ≡ true
    each x k = go (eqb x row) refl
      where
        go : (b : Bool) → eqb x row ≡ b → good_pair (pair_at (row_set row d r cs) x) ≡ true
        go true e =
            ap (λ (y : ℕ). good_pair (pair_at (row_set row d r cs) y)) (eqb-true x row e) ∙ ap good_pair (row-set cs row d r (omega arith)) ∙ join (le-leb d most_delta i) (le-leb r d j)
        go false e = ap good_pair (row-set_other cs row d r x (eqb-false x row e)) ∙ below_at most (good_row cs) good x k

-- a row of good ones
row-good : (most row : ℕ) (cs : List ℕ) → row < most → good_counters cs most ≡ true → (counter_at cs row DELTA ≤ most_delta) × (counter_at cs row RHO ≤ counter_at cs row DELTA)
unfolding good_counters
row-good most row cs l good =
    let x = both (leb (counter_at cs row DELTA) most_delta) (leb (counter_at cs row RHO) (counter_at cs row DELTA)) (below_at most (good_row cs) good row l) in
    (leb-true (counter_at cs row DELTA) most_delta x.0, leb-true (counter_at cs row RHO) (counter_at cs row DELTA) x.1)

-- a completion leaves good ones
counted-good : (most n g : ℕ) (r : Bool) (cs : List ℕ) → most * n * counter_wide ≤ length cs → g < n → good_counters cs (most * n) ≡ true
    → (m : ℕ) → m ≤ most → good_counters (counted_all m n g r cs) (most * n) ≡ true
unfolding counted_all
counted-good most n g r cs room known good zero l = good
counted-good most n g r cs room known good (suc a) l =
    go r (counted-good most n g r cs room known good a (omega arith))
  where
    before : List ℕ
    before = counted_all a n g r cs

    row : ℕ
    row = row_of n a g

    go : (z : Bool) → good_counters before (most * n) ≡ true
        → good_counters (row_set row (one_more (counter_at before row DELTA)) (if z then one_more (counter_at before row RHO) else counter_at before row RHO) before) (most * n) ≡ true
    go z h =
        let inside = row_among most n a g l known in
        let x = row-good (most * n) row before inside h in
        set-good (most * n) row (one_more (counter_at before row DELTA)) (if z then one_more (counter_at before row RHO) else counter_at before row RHO) before
        (rw (length-counted n g r cs a) room) inside (omega arith)
        (elim z as (λ z. (if z then one_more (counter_at before row RHO) else counter_at before row RHO) ≤ one_more (counter_at before row DELTA)) [ true ↦ omega (arith, x.1) | false ↦ omega (arith, x.0, x.1) ])
        h

-- PHASES

-- by reservation or by weight
abbrev flies : ℕ → Bool
flies p = eqb p 1 || eqb p 2

-- the number of a phase says one of them
number_flies : (p : Phase) → flies (phase_number p) ≡ true
number_flies Reservation = refl
number_flies Weight = refl

-- an entry less
all_removed : {A : Type 0} (f : A → Bool) (i : ℕ) (l : List A) → all f l ≡ true → all f (remove_at i l) ≡ true
all_removed f i [] h = refl
all_removed f zero (x ∷ l) h = (both (f x) (all f l) h).1
all_removed f (suc i) (x ∷ l) h = let c = both (f x) (all f l) h in join c.0 (all_removed f i l c.1)

-- and how many are left
removed_many : {A B : Type 0} (i : ℕ) (l : List A) (k : List B) → length l ≡ length k → length (remove_at i l) ≡ length (remove_at i k)
removed_many i [] [] h = refl
removed_many i [] (y ∷ k) h = absurd (omega arith)
removed_many i (x ∷ l) [] h = absurd (omega arith)
removed_many zero (x ∷ l) (y ∷ k) h = omega arith
removed_many (suc i) (x ∷ l) (y ∷ k) h = ap suc (removed_many i l k (omega arith))

-- the phase of what is sent, behind the others
joined-flies : (a : Answer) (l : List ℕ) → all flies l ≡ true → all flies (joined a l) ≡ true
joined-flies Nothing l h = h
joined-flies (Sent p g i) l h = all_snoc flies l (phase_number p) ∙ join h (number_flies p)
joined-flies (Refused r) l h = h

-- phases that are in step: those of what flies
step-flies : (n d : ℕ) (ps : List ℕ) → in_step n d ps ≡ true → (n ≤ d) × (all flies (phases_of ps n) ≡ true)
unfolding in_step
step-flies n d ps h =
    let x = both (leb n d) (below d (λ i. good_phase (ltb i n) (get_or ps i 0))) h in
    let fits = leb-true n d x.0 in (
      fits,
      places_all flies (phases_of ps n) 0
          (λ j l.
          let k : j < n = rw (length-tab n (λ i. get_or ps i 0)) at l in
          let y : good_phase (ltb j n) (get_or ps j 0) ≡ true = below_at d (λ i. good_phase (ltb i n) (get_or ps i 0)) x.1 j (omega arith) in
          ap flies (get_or-tab n (λ i. get_or ps i 0) j 0 k) ∙ (rw (lt-ltb j n k) at y)),
    )

-- phases written over what is lent are in step
pub written_step : (d : ℕ) (l ps : List ℕ) → d ≤ length ps → length l ≤ d → all flies l ≡ true → in_step (length l) d (phases_over d l ps) ≡ true
unfolding in_step
written_step d l ps room fits h =
    join (le-leb (length l) d fits)
    (at-below d (λ i. good_phase (ltb i (length l)) (get_or (phases_over d l ps) i 0)) (λ i k. ap (good_phase (ltb i (length l))) (over-at d l ps i (omega arith) k) ∙ ⊎_elim (here i) (past i) (lt_or_le i (length l))))
  where
    here : (i : ℕ) → i < length l → good_phase (ltb i (length l)) (get_or l i 0) ≡ true
    here i k = rw (lt-ltb i (length l) k) (all-at flies l 0 h i k)

    past : (i : ℕ) → length l ≤ i → good_phase (ltb i (length l)) (get_or l i 0) ≡ true
    past i k = rw (le-ltb i (length l) k, get_or-eq_default l 0 k) refl

-- A CALL

-- what is lent beside the tables of one of m arrays is long enough and good
pub record GoodAt (m : ℕ) (g : Gate) (cs ps : List ℕ) : Type 0 where
  pub counts : Countable g.setup.depth g.guests g.setup.capacity
  pub counter_room : m * g.guests * counter_wide ≤ length cs
  pub phase_room : g.setup.depth ≤ length ps
  pub counters : good_counters cs (m * g.guests) ≡ true
  pub phases : in_step g.flight g.setup.depth ps ≡ true

-- as many phases are joined as requests
joined_many : (a : Answer) (l : List ℕ) (k : List Flight) → length l ≡ length k → length (joined a l) ≡ length (joined_by a k)
joined_many Nothing l k h = h
joined_many (Sent p g i) l k h = length-append l (phase_number p ∷ []) ∙ ap (◌+ 1) h ∙ sym (length-append k (name_is g i ∷ []))
joined_many (Refused r) l k h = h

module _ (s : Site) (h : Host numbers) (cs ps : List ℕ) (k : Ask) where
  abbrev g : Gate
  g = h.gate

  -- as many phases are left as requests
  still_many : length (still_flying g h.flight ps k) ≡ length (left_by (handed_on s g cs k) (flights_of h.flight g.flight))
  still_many = by k
    where
      same : length (phases_of ps g.flight) ≡ length (flights_of h.flight g.flight)
      same = length-tab g.flight (λ i. get_or ps i 0) ∙ sym (length-rows flight_form h.flight g.flight)

      by : (q : Ask) → length (still_flying g h.flight ps q) ≡ length (left_by (handed_on s g cs q) (flights_of h.flight g.flight))
      by (Arrives q now) = same
      by (Completes f now) =
          let l = flights_of h.flight g.flight in
          removed_many (place_of f l) (phases_of ps g.flight) l same ∙ ap length (place-without f l)
      by (Ticks now) = same

  -- each of them of one that flies
  still_flies : all flies (phases_of ps g.flight) ≡ true → all flies (still_flying g h.flight ps k) ≡ true
  still_flies z = by k
    where
      by : (q : Ask) → all flies (still_flying g h.flight ps q) ≡ true
      by (Arrives q now) = z
      by (Completes f now) = all_removed flies (place_of f (flights_of h.flight g.flight)) (phases_of ps g.flight) z
      by (Ticks now) = z

  -- what is counted leaves good counters
  counted_by_good : Fit s g cs ps → Known g.guests k → good_counters (counted_by s g h.flight cs ps k) (s.arrays * g.guests) ≡ true
  counted_by_good p known = by k known
    where
      by : (q : Ask) → Known g.guests q → good_counters (counted_by s g h.flight cs ps q) (s.arrays * g.guests) ≡ true
      by (Arrives q now) l =
          set-good (s.arrays * g.guests) (row_of g.guests s.array q.guest) 0 0 cs p.rows (row_among s.arrays g.guests s.array q.guest p.here l) (omega arith) (omega arith) p.good
      by (Completes f now) l = counted-good s.arrays g.guests f.guest (by_reservation (get_or ps (place_at g h.flight f) 0)) cs p.rows l p.good s.arrays (omega arith)
      by (Ticks now) l = p.good

  -- an accepted call leaves good ones
  taken-good : Took s g h.guests h.waiting h.flight cs ps k
      → let r = asked s g h.guests h.waiting h.flight cs ps k in GoodAt s.arrays r.0.gate r.4 r.5
  taken-good t = subst (λ (x : HandedAt). GoodAt s.arrays x.0.gate x.4 x.5) (sym t.hands) good
    where
      r : HandedIn numbers
      r = own s g h.guests h.waiting h.flight cs ps k

      p : Fit s g cs ps
      p = fit_of s g cs ps k t.judges

      f : Flown numbers numbers-lawful h (handed_on s g cs k)
      f = flown_by numbers numbers-lawful h (handed_on s g cs k) t.took

      l : List ℕ
      l = joined r.0.answer (still_flying g h.flight ps k)

      many : length l ≡ r.0.gate.flight
      many =
          joined_many r.0.answer (still_flying g h.flight ps k) (left_by (handed_on s g cs k) (flights_of h.flight g.flight)) still_many
          ∙ ap length (sym f.flights) ∙ length-rows flight_form r.3 r.0.gate.flight

      lengths : (length (counted_by s g h.flight cs ps k) ≡ length cs) × (length (phases_over g.setup.depth l ps) ≡ length ps)
      lengths =
          let b = asked_beyond s g h.guests h.waiting h.flight cs ps k in
          (sym (ap (λ (x : HandedAt). length x.4) t.hands) ∙ b.counter_length, sym (ap (λ (x : HandedAt). length x.5) t.hands) ∙ b.phase_length)

      steps : in_step r.0.gate.flight g.setup.depth (phases_over g.setup.depth l ps) ≡ true
      steps =
          ap (λ (n : ℕ). in_step n g.setup.depth (phases_over g.setup.depth l ps)) (sym many)
          ∙ written_step g.setup.depth l ps p.room (omega (arith, f.fits, many))
          (joined-flies r.0.answer (still_flying g h.flight ps k) (still_flies (step-flies g.flight g.setup.depth ps p.step).1))

      same : GoodAt s.arrays (gate_at g.setup g.guests r.0.gate.time r.0.gate.waiting r.0.gate.flight) (counted_by s g h.flight cs ps k) (phases_over g.setup.depth l ps)
      same =
          record {
            counts = (counted_means g.setup.depth g.guests g.setup.capacity).holds.0 p.counts;
            counter_room = rw lengths.0 p.rows;
            phase_room = rw lengths.1 p.room;
            counters = counted_by_good p (known-guest s g cs ps k t.judges);
            phases = steps;
          }

      good : GoodAt s.arrays r.0.gate (counted_by s g h.flight cs ps k) (phases_over g.setup.depth l ps)
      good =
          subst (λ (x : Gate). GoodAt s.arrays x (counted_by s g h.flight cs ps k) (phases_over g.setup.depth l ps))
          (λ i. gate_at (sym f.setup i) (sym f.guests i) r.0.gate.time r.0.gate.waiting r.0.gate.flight) same

-- Any call leaves good counters and phases: an accepted one makes them, a refused one leaves those that there are.
pub asked-good : (s : Site) (g : Gate) (gs ws fs cs ps : List ℕ) (k : Ask) → GoodAt s.arrays g cs ps
    → let r = asked s g gs ws fs cs ps k in GoodAt s.arrays r.0.gate r.4 r.5
asked-good s g gs ws fs cs ps k good = go (asked s g gs ws fs cs ps k).0.answer refl
  where
    by : taken (asked s g gs ws fs cs ps k).0.answer ≡ true → let r = asked s g gs ws fs cs ps k in GoodAt s.arrays r.0.gate r.4 r.5
    by z = taken-good s (record { gate = g; guests = gs; waiting = ws; flight = fs }) cs ps k (accepted-took s g gs ws fs cs ps k z)

    go : (a : Answer) → (asked s g gs ws fs cs ps k).0.answer ≡ a → let r = asked s g gs ws fs cs ps k in GoodAt s.arrays r.0.gate r.4 r.5
    go Nothing e = by (ap taken e)
    go (Sent p n i) e = by (ap taken e)
    go (Refused r) e = subst (λ (x : HandedAt). GoodAt s.arrays x.0.gate x.4 x.5) (sym (asked_keeps s g gs ws fs cs ps k r e)) good
