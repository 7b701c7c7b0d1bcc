-- `untouched`, second half: what is lent that differs only beyond the places that arrays, guests, capacity and depth need gives the same outcome and the same at every
-- place needed: in the three tables, in the counters of all arrays and in the phases. So what stands beyond is not read. Assumes nothing.
use Prim.Native.Nat.{ℕ, zero, suc, ◌+◌, ◌*◌, ◌≤◌, ◌<◌, max}
use mathlib.Core.Path.{◌≡◌, refl, sym, ap, ◌∙◌, subst}
use mathlib.Core.Bool.{Bool, true, false, not, ◌&&◌, ◌||◌}
use mathlib.Core.List.{List, [], ◌∷◌}
use native.Mathlib.Nat.{mul-le-mul_right}
use native.Mathlib.Omega.{arith}
use lib.Dec.{ltb, leb}
use lib.ListN.{length, get_or, set, take}
use lib.Seq.{take-set-lt, get_or-take, ext_get_or, length-take-le}
use borrow.Author.Tests.{le-ltb, ltb-false}
use Rattle.lists.specs.Words.{if◌then◌else◌}
use Rattle.lists.specs.Walks.{below_ext}
use Rattle.lists.specs.Tab.{tab_ext, remove_at}
use Rattle.lists.specs.RowsLaws.{length-rows}
use Rattle.lists.specs.AlikeLaws.{alike_at, alike_short, alike_fewer, alike_rows}
use Rattle.rules.specs.Numbers.{most_delta}
use Rattle.rules.specs.Sound.{counted, ruled}
use Rattle.rules.specs.Answers.{taken}
use Rattle.rules.specs.Refusals.{Verdict, accept, refuse, judged}
use Rattle.rules.specs.declared.Event.{Event}
use Rattle.rules.specs.declared.Event.TheVariants.{Arrival}
use Rattle.rules.specs.declared.Flight.{Flight}
use Rattle.rules.specs.declared.Gate.{Gate}
use Rattle.rules.specs.declared.Outcome.{Outcome}
use Rattle.rules.specs.declared.Refusal.TheVariants.{BadSetting, ShortTable, Unsound}
use Rattle.table.specs.Columns.{settings_wide, flight_wide}
use Rattle.table.specs.View.{flight_form, flights_of, nameless, countable}
use Rattle.gate.specs.Promise.{numbers, called, opened}
use Rattle.gate.specs.Needs.{Same}
use Rattle.gate.proofs.Lending.{numbers-lawful}
use Rattle.gate.proofs.Unread.{called_unread, opened_unread}
use Rattle.gate.proofs.InFlight.{Named, flown_by}
use Rattle.arrays.specs.declared.Site.{Site}
use Rattle.arrays.specs.declared.Ask.{Ask}
use Rattle.arrays.specs.declared.Ask.TheVariants.{Arrives, Completes, Ticks}
use Rattle.arrays.specs.Counters.{counter_wide, DELTA, RHO, row_of, good_row, good_counters, row_set, one_more, counted_row, counted_all, cleared_all}
use Rattle.arrays.specs.Phases.{by_reservation, good_phase, in_step, phases_of, place_of, joined, phases_over}
use Rattle.arrays.specs.Promise.{arrays_test, array_test, place_tests, ask_tests, handed_on, place_at, counted_by, still_flying, counted_at, asked_by, asked, opening_tests, started_at, begun_by, begun}
use Rattle.houses.specs.Needs.{AlikeAt, SameAt}
use Rattle.houses.proofs.Accepted.{Known, known-guest, own}
use Rattle.arrays.proofs.Found.{Fit, fit_of, OpenFit, open_fit_of}
use Rattle.arrays.proofs.Rows.{row_among}
use Rattle.houses.proofs.CounterLaws.{pair_at}
use Rattle.arrays.proofs.Places.{over-at, length_over, flies_most}
use Rattle.arrays.proofs.PhaseLaws.{place-holds}

-- COUNTERS that are alike in so many rows

module _ (most : ℕ) (cs bs : List ℕ) (e : take (most * counter_wide) cs ≡ take (most * counter_wide) bs) where
  -- each of those rows is the same
  pair_alike : (row : ℕ) → row < most → pair_at cs row ≡ pair_at bs row
  pair_alike row l =
      let x = alike_at (most * counter_wide) cs bs e (row * counter_wide + DELTA) (omega arith) in
      let y = alike_at (most * counter_wide) cs bs e (row * counter_wide + RHO) (omega arith) in
      λ t. (x t, y t)

  -- so they are good alike
  good_alike : good_counters cs most ≡ good_counters bs most
  unfolding good_counters
  good_alike = below_ext most (good_row cs) (good_row bs) (λ row l. ap (λ (p : ℕ × ℕ). leb p.0 most_delta && leb p.1 p.0) (pair_alike row l))

  -- and stay alike where a row is set
  row-set_alike : (row d r : ℕ) → row < most → take (most * counter_wide) (row_set row d r cs) ≡ take (most * counter_wide) (row_set row d r bs)
  unfolding row_set
  row-set_alike row d r l = go cs ∙ ap (λ (z : List ℕ). set (set z (row * counter_wide + DELTA) d) (row * counter_wide + RHO) r) e ∙ sym (go bs)
    where
      go : (xs : List ℕ) → take (most * counter_wide) (set (set xs (row * counter_wide + DELTA) d) (row * counter_wide + RHO) r)
          ≡ set (set (take (most * counter_wide) xs) (row * counter_wide + DELTA) d) (row * counter_wide + RHO) r
      go xs =
          take-set-lt (most * counter_wide) (set xs (row * counter_wide + DELTA) d) (row * counter_wide + RHO) r (omega arith)
          ∙ ap (λ (z : List ℕ). set z (row * counter_wide + RHO) r) (take-set-lt (most * counter_wide) xs (row * counter_wide + DELTA) d (omega arith))

module _ (most n : ℕ) (cs bs : List ℕ) (e : take (most * n * counter_wide) cs ≡ take (most * n * counter_wide) bs) where
  -- where a completion is counted
  counted_alike : (g : ℕ) (r : Bool) → g < n → (m : ℕ) → m ≤ most → take (most * n * counter_wide) (counted_all m n g r cs) ≡ take (most * n * counter_wide) (counted_all m n g r bs)
  unfolding counted_all
  counted_alike g r known zero l = e
  counted_alike g r known (suc a) l = go (counted_alike g r known a (omega arith))
    where
      row : ℕ
      row = row_of n a g

      go : take (most * n * counter_wide) (counted_all a n g r cs) ≡ take (most * n * counter_wide) (counted_all a n g r bs)
          → take (most * n * counter_wide) (counted_row r row (counted_all a n g r cs)) ≡ take (most * n * counter_wide) (counted_row r row (counted_all a n g r bs))
      go i =
          let inside = row_among most n a g l known in
          let p = pair_alike (most * n) (counted_all a n g r cs) (counted_all a n g r bs) i row inside in
          (λ t. take (most * n * counter_wide) (row_set row (one_more (p t).0) (if r then one_more (p t).1 else (p t).1) (counted_all a n g r cs)))
          ∙ row-set_alike (most * n) (counted_all a n g r cs) (counted_all a n g r bs) i row _ _ inside

  -- and where rows begin anew
  cleared_alike : (a : ℕ) → a < most → (m : ℕ) → m ≤ n → take (most * n * counter_wide) (cleared_all n a m cs) ≡ take (most * n * counter_wide) (cleared_all n a m bs)
  unfolding cleared_all
  cleared_alike a there zero l = e
  cleared_alike a there (suc m) l =
      row-set_alike (most * n) (cleared_all n a m cs) (cleared_all n a m bs) (cleared_alike a there m (omega arith)) (row_of n a m) 0 0 (row_among most n a m there l)

-- PHASES that are alike up to the depth

module _ (d : ℕ) (ps qs : List ℕ) (e : take d ps ≡ take d qs) where
  -- those of what flies are the same
  flying_alike : (n : ℕ) → n ≤ d → phases_of ps n ≡ phases_of qs n
  flying_alike n l = tab_ext n (λ i. get_or ps i 0) (λ i. get_or qs i 0) (λ i k. alike_at d ps qs e i (omega arith))

  -- so they are in step alike
  step_alike : (n : ℕ) → in_step n d ps ≡ in_step n d qs
  unfolding in_step
  step_alike n =
      ap (leb n d &&◌)
      (below_ext d (λ i. good_phase (ltb i n) (get_or ps i 0)) (λ i. good_phase (ltb i n) (get_or qs i 0)) (λ i l. ap (good_phase (ltb i n)) (alike_at d ps qs e i l)))

  -- and stay alike where phases are written over them
  written_alike : d ≤ length ps → (l : List ℕ) → take d (phases_over d l ps) ≡ take d (phases_over d l qs)
  written_alike room l =
      let other : d ≤ length qs = ltb-false (length qs) d (sym (alike_short d ps qs e) ∙ le-ltb (length ps) d room) in
      let m : length (take d (phases_over d l ps)) ≡ d = length-take-le d (phases_over d l ps) (rw (length_over d l ps) room) in
      let n : length (take d (phases_over d l qs)) ≡ d = length-take-le d (phases_over d l qs) (rw (length_over d l qs) other) in
      ext_get_or 0 (take d (phases_over d l ps)) (take d (phases_over d l qs)) (m ∙ sym n)
      (λ i k.
      let j : i < d = rw m at k in
      get_or-take d (phases_over d l ps) i 0 j ∙ over-at d l ps i (omega arith) j ∙ sym (over-at d l qs i (omega arith) j) ∙ sym (get_or-take d (phases_over d l qs) i 0 j))

-- AN ARRIVAL, A COMPLETION AND A TICK

module _ (s : Site) (g : Gate) (gs ws fs cs ps hs vs es bs qs : List ℕ) (alike : AlikeAt s.arrays g.guests g.setup.capacity g.setup.depth gs ws fs cs ps hs vs es bs qs) (k : Ask) where
  -- they are judged alike
  tests_alike : ask_tests s g cs ps k ≡ ask_tests s g bs qs k
  unfolding ask_tests
  tests_alike =
      let most = s.arrays * g.guests in
      let a = alike_short (most * counter_wide) cs bs alike.counters in
      let b = alike_short g.setup.depth ps qs alike.phases in
      let c = good_alike most cs bs alike.counters in
      let d = step_alike g.setup.depth ps qs alike.phases g.flight in
      λ t.
      arrays_test s.arrays
      ∷ record { refusal = Unsound; holds = not (countable g) }
      ∷ record { refusal = ShortTable; holds = a t || b t }
      ∷ record { refusal = Unsound; holds = not (c t && d t) }
      ∷ place_tests s g k

  module _ (p : Fit s g cs ps) (known : Known g.guests k) where
    -- not more fly than there are places
    fits : g.flight ≤ g.setup.depth
    fits = flies_most g.flight g.setup.depth ps p.step p.room

    -- the gate is handed the same
    handed_alike : handed_on s g cs k ≡ handed_on s g bs k
    handed_alike = by k known
      where
        by : (x : Ask) → Known g.guests x → handed_on s g cs x ≡ handed_on s g bs x
        by (Arrives q now) l =
            let z = pair_alike (s.arrays * g.guests) cs bs alike.counters (row_of g.guests s.array q.guest) (row_among s.arrays g.guests s.array q.guest p.here l) in
            λ t. Arrival (record { guest = q.guest; id = q.id; cost = q.cost; delta = max 1 (z t).0; rho = (z t).1 }) now
        by (Completes f now) l = refl
        by (Ticks now) l = refl

    -- and does the same
    own_alike : Same numbers g.guests g.setup.capacity g.setup.depth (own s g gs ws fs cs ps k) (own s g hs vs es bs qs k)
    own_alike =
        subst (λ (e : Event). Same numbers g.guests g.setup.capacity g.setup.depth (own s g gs ws fs cs ps k) (called e g hs vs es)) handed_alike
        (called_unread numbers numbers-lawful (handed_on s g cs k) g gs ws fs hs vs es alike.tables)

    -- the same is in flight
    flights_alike : flights_of fs g.flight ≡ flights_of es g.flight
    flights_alike = alike_rows flight_form g.flight fs es (alike_fewer (g.setup.depth * flight_wide) fs es alike.tables.flight (g.flight * flight_wide) (mul-le-mul_right flight_wide fits))

    still_alike : still_flying g fs ps k ≡ still_flying g es qs k
    still_alike = by k
      where
        same : phases_of ps g.flight ≡ phases_of qs g.flight
        same = flying_alike g.setup.depth ps qs alike.phases g.flight fits

        by : (x : Ask) → still_flying g fs ps x ≡ still_flying g es qs x
        by (Arrives q now) = same
        by (Completes f now) = λ t. remove_at (place_of f (flights_alike t)) (same t)
        by (Ticks now) = same

    -- and is counted alike
    counted_by_alike : Named (handed_on s g cs k) (flights_of fs g.flight)
        → take (s.arrays * g.guests * counter_wide) (counted_by s g fs cs ps k) ≡ take (s.arrays * g.guests * counter_wide) (counted_by s g es bs qs k)
    counted_by_alike = by k known
      where
        by : (x : Ask) → Known g.guests x → Named (handed_on s g cs x) (flights_of fs g.flight)
            → take (s.arrays * g.guests * counter_wide) (counted_by s g fs cs ps x) ≡ take (s.arrays * g.guests * counter_wide) (counted_by s g es bs qs x)
        by (Arrives q now) l n =
            row-set_alike (s.arrays * g.guests) cs bs alike.counters (row_of g.guests s.array q.guest) 0 0 (row_among s.arrays g.guests s.array q.guest p.here l)
        by (Completes f now) l n =
            let i = place_at g fs f in
            let here : i < g.flight = rw (length-rows flight_form fs g.flight) at (place-holds f nameless (flights_of fs g.flight) n).0 in
            let z : get_or ps i 0 ≡ get_or qs (place_at g es f) 0 =
            alike_at g.setup.depth ps qs alike.phases i (omega (arith, fits)) ∙ ap (λ (l : List Flight). get_or qs (place_of f l) 0) flights_alike in
            ap (λ (x : ℕ). take (s.arrays * g.guests * counter_wide) (counted_all s.arrays g.guests f.guest (by_reservation x) cs)) z
            ∙ counted_alike s.arrays g.guests cs bs alike.counters f.guest (by_reservation (get_or qs (place_at g es f) 0)) l s.arrays (omega arith)
        by (Ticks now) l n = alike.counters

    -- what is handed back is the same
    handed-same : (b : Bool) → taken (own s g gs ws fs cs ps k).0.answer ≡ b
        → SameAt s.arrays g.guests g.setup.capacity g.setup.depth (counted_at b s g fs cs ps k (own s g gs ws fs cs ps k)) (counted_at b s g es bs qs k (own s g hs vs es bs qs k))
    handed-same true t =
        let o = own s g gs ws fs cs ps k in
        let u = own s g hs vs es bs qs k in
        let d = g.setup.depth in
        let z : joined o.0.answer (still_flying g fs ps k) ≡ joined u.0.answer (still_flying g es qs k) = λ i. joined (own_alike.outcome i).answer (still_alike i) in
        record {
          outcome = own_alike.outcome;
          needed = record {
            tables = own_alike.needed;
            counters = counted_by_alike (flown_by numbers numbers-lawful (record { gate = g; guests = gs; waiting = ws; flight = fs }) (handed_on s g cs k) t).named;
            phases = ap (λ (l : List ℕ). take d (phases_over d l ps)) z ∙ written_alike d ps qs alike.phases p.room (joined u.0.answer (still_flying g es qs k));
          };
        }
    handed-same false t = record { outcome = own_alike.outcome; needed = record { tables = own_alike.needed; counters = alike.counters; phases = alike.phases } }

  -- They read nothing beyond what is needed.
  pub asked_unread : SameAt s.arrays g.guests g.setup.capacity g.setup.depth (asked s g gs ws fs cs ps k) (asked s g hs vs es bs qs k)
  unfolding asked
  asked_unread = rw (sym (ap judged tests_alike)) (go (judged (ask_tests s g cs ps k)) refl)
    where
      go : (w : Verdict) → judged (ask_tests s g cs ps k) ≡ w
          → SameAt s.arrays g.guests g.setup.capacity g.setup.depth (asked_by w s g gs ws fs cs ps k) (asked_by w s g hs vs es bs qs k)
      go accept p =
          let q = fit_of s g cs ps k p in
          let n = known-guest s g cs ps k p in
          let b = taken (own s g gs ws fs cs ps k).0.answer in
          subst (λ (c : Bool). SameAt s.arrays g.guests g.setup.capacity g.setup.depth (counted_at b s g fs cs ps k (own s g gs ws fs cs ps k)) (counted_at c s g es bs qs k (own s g hs vs es bs qs k)))
          (ap (λ (o : Outcome). taken o.answer) (own_alike q n).outcome) (handed-same q n b refl)
      go (refuse r) p = record { outcome = refl; needed = alike }

-- AN OPENING

-- It reads nothing beyond what is needed, of the settings too.
pub begun_unread : (s : Site) (d n c rule : ℕ) (ss ts gs ws fs cs ps hs vs es bs qs : List ℕ) → take (n * settings_wide) ss ≡ take (n * settings_wide) ts
    → AlikeAt s.arrays n c d gs ws fs cs ps hs vs es bs qs → SameAt s.arrays n c d (begun s d n c rule ss gs ws fs cs ps) (begun s d n c rule ts hs vs es bs qs)
unfolding begun opening_tests
begun_unread s d n c rule ss ts gs ws fs cs ps hs vs es bs qs o alike = rw (sym (ap judged tests)) (go (judged (opening_tests s d n c rule cs ps)) refl)
  where
    tests : opening_tests s d n c rule cs ps ≡ opening_tests s d n c rule bs qs
    tests =
        let a = alike_short (s.arrays * n * counter_wide) cs bs alike.counters in
        let b = alike_short d ps qs alike.phases in
        λ t.
        arrays_test s.arrays
        ∷ array_test s
        ∷ record { refusal = BadSetting; holds = not (counted d n c) }
        ∷ record { refusal = BadSetting; holds = not (ruled rule) }
        ∷ record { refusal = ShortTable; holds = a t || b t }
        ∷ []

    same : Same numbers n c d (opened d n c rule ss gs ws fs) (opened d n c rule ts hs vs es)
    same = opened_unread numbers numbers-lawful d n c rule ss ts gs ws fs hs vs es o alike.tables

    by : (b : Bool) → OpenFit s d n c cs ps
        → SameAt s.arrays n c d (started_at b s d n cs ps (opened d n c rule ss gs ws fs)) (started_at b s d n bs qs (opened d n c rule ts hs vs es))
    by true p =
        record {
          outcome = same.outcome;
          needed = record {
            tables = same.needed;
            counters = cleared_alike s.arrays n cs bs alike.counters s.array p.here n (omega arith);
            phases = written_alike d ps qs alike.phases p.room [];
          };
        }
    by false p = record { outcome = same.outcome; needed = record { tables = same.needed; counters = alike.counters; phases = alike.phases } }

    go : (w : Verdict) → judged (opening_tests s d n c rule cs ps) ≡ w
        → SameAt s.arrays n c d (begun_by w s d n c rule ss gs ws fs cs ps) (begun_by w s d n c rule ts hs vs es bs qs)
    go accept p =
        let b = taken (opened d n c rule ss gs ws fs).0.answer in
        subst (λ (x : Bool). SameAt s.arrays n c d (started_at b s d n cs ps (opened d n c rule ss gs ws fs)) (started_at x s d n bs qs (opened d n c rule ts hs vs es)))
        (ap (λ (x : Outcome). taken x.answer) same.outcome) (by b (open_fit_of s d n c rule cs ps p))
    go (refuse r) p = record { outcome = refl; needed = alike }
