-- Document 02, K14, the counters of a house: from its start, over any run of calls at any of its arrays, each count is exactly the number of completions that the history
-- of calls and answers has, "both stop at 65,535". Assumes nothing.
use Prim.Native.Nat.{ℕ, zero, suc, ◌≤◌, ◌<◌, min, max}
use mathlib.Core.Path.{◌≡◌, refl, sym, ap, ◌∙◌, subst}
use mathlib.Core.Bool.{Bool, true, false, ◌&&◌}
use mathlib.Core.List.{List, [], ◌∷◌, map}
use native.Mathlib.Omega.{arith}
use lib.ListN.{length, get_or, set, length-map, length-set}
use Rattle.lists.specs.Words.{if◌then◌else◌}
use Rattle.lists.specs.Tab.{remove_at, get_or-tab}
use Rattle.lists.specs.Lines.{lines_of}
use Rattle.lists.specs.Rows.{rows_of}
use Rattle.lists.specs.RowsLaws.{length-rows}
use Rattle.rules.specs.Numbers.{most_delta}
use Rattle.rules.specs.Answers.{taken}
use Rattle.rules.specs.Tables.{lacks}
use Rattle.rules.specs.declared.Answer.{Answer}
use Rattle.rules.specs.declared.Answer.TheVariants.{Nothing, Sent, Refused}
use Rattle.rules.specs.declared.Event.{Event}
use Rattle.rules.specs.declared.Event.TheVariants.{Arrival}
use Rattle.rules.specs.declared.Flight.{Flight}
use Rattle.rules.specs.declared.Gate.{Gate}
use Rattle.rules.specs.declared.Refusal.{Refusal}
use Rattle.rules.proofs.InFlight.{left_by}
use Rattle.table.specs.View.{flight_form, flights_of, nameless}
use Rattle.gate.specs.Promise.{numbers}
use Rattle.gate.specs.Calls.{Host}
use Rattle.gate.proofs.Lending.{numbers-lawful}
use Rattle.gate.proofs.InFlight.{Named, Flown, flown_by}
use Rattle.arrays.specs.declared.Site.{Site}
use Rattle.arrays.specs.declared.Asking.{Asking}
use Rattle.arrays.specs.declared.Ask.{Ask}
use Rattle.arrays.specs.declared.Ask.TheVariants.{Arrives, Completes, Ticks}
use Rattle.arrays.specs.Counters.{row_of, counted_all}
use Rattle.arrays.specs.Phases.{by_reservation, phases_of, place_of, joined}
use Rattle.arrays.specs.Promise.{HandedAt, handed_on, counted_by, still_flying, phases_by, with}
use Rattle.houses.specs.House.{Array, House, Deed, nowhere, array_at, site_of, event_of, call_at, left_at, holds_at, held_at, answers_at}
use Rattle.houses.specs.History.{Line, anew, done, reserved_in, sent_in, delta_in, rho_in, told_over, Begun, CountedExactly}
use Rattle.houses.proofs.Accepted.{Known, known-guest, own, Took, accepted-took}
use Rattle.arrays.proofs.Found.{Fit, fit_of}
use Rattle.houses.proofs.Runs.{each-array, refused-same}
use Rattle.houses.proofs.CounterLaws.{pair_at}
use Rattle.arrays.proofs.PhaseLaws.{place-without, place-holds, removed_map, phases_back}
use Rattle.houses.proofs.Lines.{pair_in, Counts, line_of, arrival_counts, completion_counts, tick_counts, sent_of, elsewhere_stays, refused_counts, refused_stays, sent_joined}

-- ONE ARRAY

-- the phases of what is in flight at array a are those by which it was last sent, as the history says
abbrev pub Remembers : (a : ℕ) → (fs ps : List ℕ) → (flight : ℕ) → List Line → Type 0
Remembers a fs ps n ls = phases_of ps n ≡ sent_of a ls (flights_of fs n)

-- an entry of a changed list
changed-at : {A B : Type 0} (f : A → B) (l : List A) (i : ℕ) (d : A) (x : B) → i < length l → get_or (map f l) i x ≡ f (get_or l i d)
changed-at f [] i d x h = absurd (omega arith)
changed-at f (y ∷ l) zero d x h = refl
changed-at f (y ∷ l) (suc i) d x h = changed-at f l i d x (omega arith)

module _ (a : ℕ) (s : Site) (g : Gate) (fs cs ps : List ℕ) (ls : List Line) (known : Remembers a fs ps g.flight ls) where
  abbrev flying : List Flight
  flying = flights_of fs g.flight

  -- the phase of one of them is what the history says
  remembered : (f : Flight) → lacks f flying ≡ false → get_or ps (place_of f flying) 0 ≡ sent_in a f ls
  remembered f h =
      let x = place-holds f nameless flying h in
      let p : place_of f flying < g.flight = rw (length-rows flight_form fs g.flight) at x.0 in
      sym (get_or-tab g.flight (λ i. get_or ps i 0) (place_of f flying) 0 p)
      ∙ ap (λ (l : List ℕ). get_or l (place_of f flying) 0) known
      ∙ changed-at (λ y. sent_in a y ls) flying (place_of f flying) nameless 0 x.0
      ∙ ap (λ (y : Flight). sent_in a y ls) x.1

  -- a completion takes out its own
  still_remembers : (k : Ask) → still_flying g fs ps k ≡ sent_of a ls (left_by (handed_on s g cs k) flying)
  still_remembers (Arrives q now) = known
  still_remembers (Completes f now) =
      ap (remove_at (place_of f flying)) known ∙ removed_map (λ y. sent_in a y ls) (place_of f flying) flying ∙ ap (sent_of a ls) (place-without f flying)
  still_remembers (Ticks now) = known

-- AN ACCEPTED CALL at array a

module _ (s : Site) (h : Host numbers) (cs ps : List ℕ) (k : Ask) (ls : List Line)
    (t : Took s h.gate h.guests h.waiting h.flight cs ps k) (known : Remembers s.array h.flight ps h.gate.flight ls) where
  abbrev g : Gate
  g = h.gate

  abbrev e : Event
  e = handed_on s g cs k

  abbrev got : Answer
  got = (own s g h.guests h.waiting h.flight cs ps k).0.answer

  fit : Fit s g cs ps
  fit = fit_of s g cs ps k t.judges

  flown : Flown numbers numbers-lawful h e
  flown = flown_by numbers numbers-lawful h e t.took

  -- the phases of what is in flight are again what the history says
  call_remembers : let o = own s g h.guests h.waiting h.flight cs ps k in
      Remembers s.array o.3 (phases_by g h.flight ps k o.0.answer) o.0.gate.flight (line_of s.array k o.0.answer ∷ ls)
  call_remembers =
      let o = own s g h.guests h.waiting h.flight cs ps k in
      let left = left_by e (flights_of h.flight g.flight) in
      let l = joined got (still_flying g h.flight ps k) in
      let after = flights_of o.3 o.0.gate.flight in
      let y : l ≡ sent_of s.array (line_of s.array k got ∷ ls) after =
      ap (joined got) (still_remembers s.array s g h.flight cs ps ls known k)
      ∙ sent_joined s.array k got ls left t.took flown.new
      ∙ ap (sent_of s.array (line_of s.array k got ∷ ls)) (sym flown.flights) in
      let n : length l ≡ o.0.gate.flight = ap length y ∙ length-map after (λ f. sent_in s.array f (line_of s.array k got ∷ ls)) ∙ length-rows flight_form o.3 o.0.gate.flight in
      ap (λ (i : ℕ). phases_of (phases_by g h.flight ps k got) i) (sym n)
      ∙ phases_back g.setup.depth l ps fit.room (omega (arith, flown.fits, n))
      ∙ y

  -- and so are the counters
  call_counts : Counts s.arrays g.guests cs ls → Counts s.arrays g.guests (counted_by s g h.flight cs ps k) (line_of s.array k got ∷ ls)
  call_counts c = by k (known-guest s g cs ps k t.judges) flown.named
    where
      by : (q : Ask) → Known g.guests q → Named (handed_on s g cs q) (flights_of h.flight g.flight)
          → Counts s.arrays g.guests (counted_by s g h.flight cs ps q) (line_of s.array q got ∷ ls)
      by (Arrives q now) i n = arrival_counts s.arrays g.guests s.array cs ls fit.rows c got t.took q now fit.here i
      by (Completes f now) i n =
          subst (λ (p : ℕ). Counts s.arrays g.guests (counted_all s.arrays g.guests f.guest (by_reservation p) cs) (line_of s.array (Completes f now) got ∷ ls))
          (sym (remembered s.array s g h.flight cs ps ls known f n))
          (completion_counts s.arrays g.guests s.array cs ls fit.rows c got t.took f now i)
      by (Ticks now) i n = tick_counts s.arrays g.guests s.array cs ls fit.rows c got t.took now

-- A HOUSE of n guests is what its history says
pub record Told (n : ℕ) (h : House) (ls : List Line) : Type 0 where
  pub guests : (a : ℕ) → a < length h.arrays → (array_at h a).host.gate.guests ≡ n
  pub counts : Counts (length h.arrays) n h.counters ls
  pub remembers : (a : ℕ) → a < length h.arrays → Remembers a (array_at h a).host.flight (array_at h a).phases (array_at h a).host.gate.flight ls

-- ONE CALL

module _ (n : ℕ) (h : House) (ls : List Line) (d : Deed) (told : Told n h ls) where
  abbrev a : ℕ
  a = d.array

  abbrev x : Array
  x = array_at h a

  -- what a call that hands this back leaves
  abbrev Leaves : HandedAt → Type 0
  Leaves r = Told n (record { counters = r.4; arrays = set h.arrays a (left_at r) }) (record { deed = d; answer = r.0.answer } ∷ ls)

  -- an accepted call
  step-taken : taken (call_at h d).0.answer ≡ true → Leaves (call_at h d)
  step-taken z = subst Leaves (sym t.hands) (record { guests = guests; counts = counts; remembers = remembers })
    where
      t : Took (site_of h a) x.host.gate x.host.guests x.host.waiting x.host.flight h.counters x.phases d.ask
      t = accepted-took (site_of h a) x.host.gate x.host.guests x.host.waiting x.host.flight h.counters x.phases d.ask z

      there : a < length h.arrays
      there = (fit_of (site_of h a) x.host.gate h.counters x.phases d.ask t.judges).here

      r : HandedAt
      r = with (own (site_of h a) x.host.gate x.host.guests x.host.waiting x.host.flight h.counters x.phases d.ask)
          (counted_by (site_of h a) x.host.gate x.host.flight h.counters x.phases d.ask)
          (phases_by x.host.gate x.host.flight x.phases d.ask (own (site_of h a) x.host.gate x.host.guests x.host.waiting x.host.flight h.counters x.phases d.ask).0.answer)

      l : Line
      l = line_of a d.ask r.0.answer

      guests : (b : ℕ) → b < length (set h.arrays a (left_at r)) → (get_or (set h.arrays a (left_at r)) b nowhere).host.gate.guests ≡ n
      guests =
          each-array (λ b y. y.host.gate.guests ≡ n) h.arrays a (left_at r)
          ((flown_by numbers numbers-lawful x.host (handed_on (site_of h a) x.host.gate h.counters d.ask) t.took).guests ∙ told.guests a there)
          (λ b j e. told.guests b j)

      counts : Counts (length (set h.arrays a (left_at r))) n r.4 (l ∷ ls)
      counts =
          rw (length-set h.arrays a (left_at r))
          (subst (λ (m : ℕ). Counts (length h.arrays) m r.4 (l ∷ ls)) (told.guests a there)
          (call_counts (site_of h a) x.host h.counters x.phases d.ask ls t (told.remembers a there)
          (subst (λ (m : ℕ). Counts (length h.arrays) m h.counters ls) (sym (told.guests a there)) told.counts)))

      remembers : (b : ℕ) → b < length (set h.arrays a (left_at r))
          → let y = get_or (set h.arrays a (left_at r)) b nowhere in Remembers b y.host.flight y.phases y.host.gate.flight (l ∷ ls)
      remembers =
          each-array (λ b y. Remembers b y.host.flight y.phases y.host.gate.flight (l ∷ ls)) h.arrays a (left_at r)
          (call_remembers (site_of h a) x.host h.counters x.phases d.ask ls t (told.remembers a there))
          (λ b j e. told.remembers b j ∙ sym (elsewhere_stays b l ls (flights_of (array_at h b).host.flight (array_at h b).host.gate.flight) e))

  -- a refused one changes nothing, and counts nothing
  step-refused : (r : Refusal) → (call_at h d).0.answer ≡ Refused r → Leaves (call_at h d)
  step-refused r e =
      subst (λ (u : House). Told n u (record { deed = d; answer = (call_at h d).0.answer } ∷ ls)) (sym (refused-same h d r e))
      (subst (λ (got : Answer). Told n h (record { deed = d; answer = got } ∷ ls)) (sym e)
      (record {
        guests = told.guests;
        counts = refused_counts (length h.arrays) n h.counters ls told.counts d r;
        remembers = λ b j. told.remembers b j ∙ sym (refused_stays b d r ls (flights_of (array_at h b).host.flight (array_at h b).host.gate.flight));
      }))

  -- a call leaves a house that is what its history says, with one line more
  pub told-step : Told n (holds_at h d) (record { deed = d; answer = (call_at h d).0.answer } ∷ ls)
  told-step = go (call_at h d).0.answer refl
    where
      go : (got : Answer) → (call_at h d).0.answer ≡ got → Leaves (call_at h d)
      go Nothing e = step-taken (ap taken e)
      go (Sent p g i) e = step-taken (ap taken e)
      go (Refused r) e = step-refused r e

-- A RUN OF CALLS

-- so does any number of calls
pub told-run : (n : ℕ) (ds : List Deed) (h : House) (ls : List Line) → Told n h ls → Told n (held_at h ds) (told_over ls ds (answers_at h ds))
unfolding held_at answers_at told_over
told-run n [] h ls t = t
told-run n (d ∷ ds) h ls t = told-run n ds (holds_at h d) (record { deed = d; answer = (call_at h d).0.answer } ∷ ls) (told-step n h ls d t)

-- at the start nothing has happened
begun-told : (n : ℕ) (h : House) → Begun n h → Told n h []
unfolding delta_in rho_in rows_of lines_of
begun-told n h b =
    record {
      guests = b.guests;
      counts = λ a g i j. let z = b.counters a g i j in λ t. (z.0 t, z.1 t);
      remembers = λ a i.
          ap (phases_of (array_at h a).phases) (b.flight a i) ∙ ap (λ (m : ℕ). sent_of a [] (flights_of (array_at h a).host.flight m)) (sym (b.flight a i));
    }

-- From the start of a house, over any run of calls, each count is exactly that number of completions in the history of calls and answers.
pub counted_exactly : (n : ℕ) (h : House) → Begun n h → (ds : List Deed) → CountedExactly n (held_at h ds) (told_over [] ds (answers_at h ds))
counted_exactly n h b ds =
    let t = told-run n ds h [] (begun-told n h b) in
    record {
      delta = λ a g i j. ap (λ (p : ℕ × ℕ). p.0) (t.counts a g i j);
      rho = λ a g i j. ap (λ (p : ℕ × ℕ). p.1) (t.counts a g i j);
    }

-- rho counts some of what delta counts
pub rho_within : (a g : ℕ) (ls : List Line) → rho_in a g ls ≤ delta_in a g ls
unfolding delta_in rho_in
rho_within a g [] = omega arith
rho_within a g (l ∷ ls) = go (anew a g l) (done g l) (reserved_in l ls) (rho_within a g ls)
  where
    go : (x y z : Bool) → rho_in a g ls ≤ delta_in a g ls
        → (if x then 0 else if y && z then suc (rho_in a g ls) else rho_in a g ls) ≤ (if x then 0 else if y then suc (delta_in a g ls) else delta_in a g ls)
    go true y z h = omega arith
    go false true true h = omega arith
    go false true false h = omega arith
    go false false z h = h

-- What the gate of an array is handed with a guest's next request there, K14: delta, "a delta of 0 goes out as 1", and rho, which then is 0.
pub handed_exactly : (n : ℕ) (h : House) → Begun n h → (ds : List Deed) (a : ℕ) → a < length (held_at h ds).arrays → (q : Asking) → q.guest < n → (now : ℕ)
    → let ls = told_over [] ds (answers_at h ds) in
    (event_of (held_at h ds) (record { array = a; ask = Arrives q now })
    ≡ Arrival (record { guest = q.guest; id = q.id; cost = q.cost; delta = max 1 (min most_delta (delta_in a q.guest ls)); rho = min most_delta (rho_in a q.guest ls) }) now)
    × (delta_in a q.guest ls ≡ 0 → rho_in a q.guest ls ≡ 0)
handed_exactly n h b ds a l q k now =
    let ls = told_over [] ds (answers_at h ds) in
    let t = told-run n ds h [] (begun-told n h b) in
    let c : pair_at (held_at h ds).counters (row_of (array_at (held_at h ds) a).host.gate.guests a q.guest) ≡ pair_in a q.guest ls =
    ap (λ (m : ℕ). pair_at (held_at h ds).counters (row_of m a q.guest)) (t.guests a l) ∙ t.counts a q.guest l k in (
      λ i. Arrival (record { guest = q.guest; id = q.id; cost = q.cost; delta = max 1 (c i).0; rho = (c i).1 }) now,
      λ e. omega (arith, rho_within a q.guest ls),
    )
