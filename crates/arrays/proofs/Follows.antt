-- What is handed back once a call is judged, from what the gate promises and what the functions do to counters and phases. Assumes nothing.
use Rattle.std.specs.Prelude.{Err, Result}
use Prim.Native.Nat.{ℕ, ◌*◌, ◌+◌, ◌-◌, ◌≤◌, ◌<◌}
use mathlib.Core.Path.{◌≡◌, refl, sym, ap, ◌∙◌}
use mathlib.Core.Bool.{Bool, true, false, not}
use mathlib.Core.List.{List, []}
use native.Mathlib.Omega.{arith}
use lib.Dec.{eqb}
use lib.ListN.{length, get_or}
use borrow.Author.Tests.{not-true, not-false}
use Rattle.lists.specs.Tab.{remove_at}
use Rattle.rules.specs.Answers.{taken}
use Rattle.rules.specs.Refusals.{Verdict, accept, judged}
use Rattle.rules.specs.Waking.{unsaid}
use Rattle.rules.specs.declared.Gate.{Gate}
use Rattle.rules.specs.declared.Flight.{Flight}
use Rattle.rules.specs.declared.Phase.{Phase}
use Rattle.rules.specs.declared.Arriving.{Arriving}
use Rattle.rules.specs.declared.Event.TheVariants.{Arrival, Completion, Tick}
use Rattle.rules.specs.declared.Refusal.{Refusal}
use Rattle.rules.specs.declared.Answer.TheVariants.{Sent, Refused}
use Rattle.rules.specs.declared.Outcome.{Outcome}
use Rattle.table.specs.Columns.{flight_wide}
use Rattle.table.specs.View.{outcome_of, flights_of}
use Rattle.gate.specs.Promise.{numbers, HandedIn, seen, called, opened}
use Rattle.gate.specs.Judges.{not_opened}
use Rattle.gate.proofs.Once.{seen_once}
use Rattle.arrays.specs.declared.Site.{Site}
use Rattle.arrays.specs.declared.Asking.{Asking}
use Rattle.arrays.specs.declared.Ask.{Ask}
use Rattle.arrays.specs.declared.Ask.TheVariants.{Arrives, Completes, Ticks}
use Rattle.arrays.specs.Counters.{counter_wide, row_of, row_set, counted_all, cleared_all}
use Rattle.arrays.specs.Phases.{phases_of, place_of, joined, phases_over}
use Rattle.arrays.specs.Promise.{HandedAt, with, handed_on, counted_by, phases_by, counted_at, ask_tests, asked_by, asked, started_at, opening_tests, begun_by, begun}
use Rattle.arrays.specs.Steps.{verdict_of, arriving_of, closed, noted, Placed}
use Rattle.arrays.proofs.Rows.{row_inside, rows_inside}
use Rattle.arrays.proofs.Places.{placed_by, flies_most, noted_is, noted-closed, length-closed}
use Rattle.arrays.proofs.Found.{Fit, fit_of, arrival_known, completion_known, open_fit_of}
use Rattle.arrays.proofs.Gate.{taken_long, arrival_room, tick_room, completion_flies}

-- AN EVENT

-- what is asked, by another name
module _ (s : Site) (g : Gate) (gs ws fs cs ps : List ℕ) (k j : Ask) (e : k ≡ j) where
  pub judged-same : judged (ask_tests s g cs ps k) ≡ accept → judged (ask_tests s g cs ps j) ≡ accept
  judged-same v = rw e at v

  pub asked-same : (t : HandedAt) → t ≡ asked s g gs ws fs cs ps j → t ≡ asked s g gs ws fs cs ps k
  asked-same t h = rw e h

module _ (s : Site) (g : Gate) (gs ws fs cs ps : List ℕ) (k : Ask) where
  -- a refusal
  pub ask_refused : (found : Result Unit Refusal) → verdict_of found ≡ judged (ask_tests s g cs ps k) → (r : Refusal) → found ≡ Err r
      → (o : Outcome) → o ≡ outcome_of g (Refused r) unsaid → (o, gs, ws, fs, cs, ps) ≡ asked s g gs ws fs cs ps k
  unfolding asked
  ask_refused found e r b o q =
      ap (λ (x : Outcome). (x, gs, ws, fs, cs, ps)) q
      ∙ ap (λ (v : Verdict). asked_by v s g gs ws fs cs ps k) (sym (ap verdict_of b) ∙ e)

  module _ (v : judged (ask_tests s g cs ps k) ≡ accept) (h : HandedIn numbers) (e : h ≡ called (handed_on s g cs k) g gs ws fs) where
    told : asked s g gs ws fs cs ps k ≡ counted_at (taken h.0.answer) s g fs cs ps k h
    unfolding asked
    told =
        ap (λ (w : Verdict). asked_by w s g gs ws fs cs ps k) v
        ∙ ap (λ (x : HandedIn numbers). counted_at (taken x.0.answer) s g fs cs ps k x) (sym e)

    -- what the gate refuses is handed on, and nothing is counted
    pub gate-refused : taken h.0.answer ≡ false → with h cs ps ≡ asked s g gs ws fs cs ps k
    gate-refused t = sym (told ∙ ap (λ b. counted_at b s g fs cs ps k h) t)

    -- what it accepts is counted and noted
    pub gate-taken : taken h.0.answer ≡ true → (ds qs : List ℕ) → ds ≡ counted_by s g fs cs ps k → qs ≡ phases_by g fs ps k h.0.answer → with h ds qs ≡ asked s g gs ws fs cs ps k
    gate-taken t ds qs p q = (λ i. with h (p i) (q i)) ∙ sym (told ∙ ap (λ b. counted_at b s g fs cs ps k h) t)

-- what was found of an answer
refused_is : (b t : Bool) → b ≡ t → not b ≡ true → t ≡ false
refused_is b t e n = sym e ∙ not-true b n

taken_is : (b t : Bool) → b ≡ t → not b ≡ false → t ≡ true
taken_is b t e n = sym e ∙ not-false b n

-- AN ARRIVAL

module _ (s : Site) (g : Gate) (gs ws fs cs ps : List ℕ) (a : Asking) (now : ℕ) (v : judged (ask_tests s g cs ps (Arrives a now)) ≡ accept) where
  -- the row of its guest at this array is lent
  pub arrival_row : row_of g.guests s.array a.guest * counter_wide + counter_wide ≤ length cs
  arrival_row =
      let k = fit_of s g cs ps (Arrives a now) v in
      row_inside s.arrays g.guests s.array a.guest (length cs) k.here (arrival_known s g cs ps a now v) k.rows

  module _ (w : Arriving) (p : w ≡ arriving_of cs (row_of g.guests s.array a.guest) a) (h : HandedIn numbers) (e : seen h ≡ seen (called (Arrival w now) g gs ws fs)) where
    arrival_called : h ≡ called (Arrival w now) g gs ws fs
    arrival_called = seen_once h (called (Arrival w now) g gs ws fs) e

    arrival_handed : h ≡ called (handed_on s g cs (Arrives a now)) g gs ws fs
    arrival_handed = arrival_called ∙ ap (λ (x : Arriving). called (Arrival x now) g gs ws fs) p

    sent_free : (q : Phase) (n i : ℕ) → h.0.answer ≡ Sent q n i → g.flight < g.setup.depth
    sent_free q n i t = arrival_room w now g gs ws fs q n i (ap (λ (x : HandedIn numbers). x.0.answer) (sym arrival_called) ∙ t)

    pub arrival_refused : (b : Bool) → b ≡ taken h.0.answer → not b ≡ true → with h cs ps ≡ asked s g gs ws fs cs ps (Arrives a now)
    arrival_refused b q n = gate-refused s g gs ws fs cs ps (Arrives a now) v h arrival_handed (refused_is b (taken h.0.answer) q n)

    -- what it sends has a place
    pub arrival_placed : Placed h.0.answer g.flight ps
    arrival_placed = placed_by h.0.answer g.flight ps (λ q n i t. omega (arith, sent_free q n i t, (fit_of s g cs ps (Arrives a now) v).room))

    pub arrival_taken : (b : Bool) → b ≡ taken h.0.answer → not b ≡ false
        → (ds qs : List ℕ) → ds ≡ row_set (row_of g.guests s.array a.guest) 0 0 cs → qs ≡ noted h.0.answer g.flight ps → with h ds qs ≡ asked s g gs ws fs cs ps (Arrives a now)
    arrival_taken b q n ds qs x y =
        let k = fit_of s g cs ps (Arrives a now) v in
        gate-taken s g gs ws fs cs ps (Arrives a now) v h arrival_handed (taken_is b (taken h.0.answer) q n) ds qs x
        (y ∙ noted_is g.flight g.setup.depth ps k.step k.room h.0.answer sent_free)

-- A TICK

module _ (s : Site) (g : Gate) (gs ws fs cs ps : List ℕ) (now : ℕ) (v : judged (ask_tests s g cs ps (Ticks now)) ≡ accept) (h : HandedIn numbers) (e : seen h ≡ seen (called (Tick now) g gs ws fs)) where
  tick_called : h ≡ called (Tick now) g gs ws fs
  tick_called = seen_once h (called (Tick now) g gs ws fs) e

  tick_free : (q : Phase) (n i : ℕ) → h.0.answer ≡ Sent q n i → g.flight < g.setup.depth
  tick_free q n i t = tick_room now g gs ws fs q n i (ap (λ (x : HandedIn numbers). x.0.answer) (sym tick_called) ∙ t)

  pub tick_refused : (b : Bool) → b ≡ taken h.0.answer → not b ≡ true → with h cs ps ≡ asked s g gs ws fs cs ps (Ticks now)
  tick_refused b q n = gate-refused s g gs ws fs cs ps (Ticks now) v h tick_called (refused_is b (taken h.0.answer) q n)

  -- what it sends has a place
  pub tick_placed : Placed h.0.answer g.flight ps
  tick_placed = placed_by h.0.answer g.flight ps (λ q n i t. omega (arith, tick_free q n i t, (fit_of s g cs ps (Ticks now) v).room))

  pub tick_taken : (b : Bool) → b ≡ taken h.0.answer → not b ≡ false → (qs : List ℕ) → qs ≡ noted h.0.answer g.flight ps → with h cs qs ≡ asked s g gs ws fs cs ps (Ticks now)
  tick_taken b q n qs y =
      let k = fit_of s g cs ps (Ticks now) v in
      gate-taken s g gs ws fs cs ps (Ticks now) v h tick_called (taken_is b (taken h.0.answer) q n) cs qs refl
      (y ∙ noted_is g.flight g.setup.depth ps k.step k.room h.0.answer tick_free)

-- A COMPLETION, of a request that was found at a place

module _ (s : Site) (g : Gate) (gs ws fs cs ps : List ℕ) (f : Flight) (now : ℕ) (v : judged (ask_tests s g cs ps (Completes f now)) ≡ accept) where
  -- the rows of its guest are lent
  pub completion_rows : (s.arrays * g.guests * counter_wide ≤ length cs) × (f.guest < g.guests)
  completion_rows = ((fit_of s g cs ps (Completes f now) v).rows, completion_known s g cs ps f now v)

  module _ (h : HandedIn numbers) (e : seen h ≡ seen (called (Completion f now) g gs ws fs)) where
    completion_called : h ≡ called (Completion f now) g gs ws fs
    completion_called = seen_once h (called (Completion f now) g gs ws fs) e

    pub completion_refused : (b : Bool) → b ≡ taken h.0.answer → not b ≡ true → with h cs ps ≡ asked s g gs ws fs cs ps (Completes f now)
    completion_refused b q n = gate-refused s g gs ws fs cs ps (Completes f now) v h completion_called (refused_is b (taken h.0.answer) q n)

    module _ (place : ℕ) (at : g.flight * flight_wide ≤ length fs → place ≡ place_of f (flights_of fs g.flight)) (b : Bool) (q : b ≡ taken h.0.answer) (n : not b ≡ false) where
      abbrev known : Fit s g cs ps
      known = fit_of s g cs ps (Completes f now) v

      accepted : taken (called (Completion f now) g gs ws fs).0.answer ≡ true
      accepted = ap (λ (x : HandedIn numbers). taken x.0.answer) (sym completion_called) ∙ taken_is b (taken h.0.answer) q n

      most : g.flight ≤ g.setup.depth
      most = flies_most g.flight g.setup.depth ps known.step known.room

      found : place ≡ place_of f (flights_of fs g.flight)
      found = at (omega (arith, most, taken_long (Completion f now) g gs ws fs known.counts accepted))

      flies : place < g.flight
      flies = omega (arith, found, completion_flies f now g gs ws fs accepted)

      -- it is in flight, and has a phase
      pub completion_flying : (place < g.flight) × (g.flight ≤ length ps)
      completion_flying = (flies, omega (arith, most, known.room))

      -- what is sent has a place
      pub completion_placed : (rs : List ℕ) → rs ≡ closed g.flight place ps → Placed h.0.answer (g.flight - 1) rs
      completion_placed rs r =
          placed_by h.0.answer (g.flight - 1) rs
          (λ p m i t. omega (arith, flies, most, known.room, ap length r, length-closed g.flight g.setup.depth ps known.step known.room place flies))

      pub completion_taken : (phase : ℕ) → phase ≡ get_or ps place 0 → (ds rs qs : List ℕ) → ds ≡ counted_all s.arrays g.guests f.guest (eqb phase 1) cs → rs ≡ closed g.flight place ps → qs ≡ noted h.0.answer (g.flight - 1) rs
          → with h ds qs ≡ asked s g gs ws fs cs ps (Completes f now)
      completion_taken phase i ds rs qs x r y =
          gate-taken s g gs ws fs cs ps (Completes f now) v h completion_called (taken_is b (taken h.0.answer) q n) ds qs
          (x ∙ ap (λ (m : ℕ). counted_all s.arrays g.guests f.guest (eqb m 1) cs) (i ∙ ap (λ (m : ℕ). get_or ps m 0) found))
          (y ∙ ap (noted h.0.answer (g.flight - 1)) r ∙ noted-closed g.flight g.setup.depth ps known.step known.room place flies h.0.answer
          ∙ ap (λ (m : ℕ). phases_over g.setup.depth (joined h.0.answer (remove_at m (phases_of ps g.flight))) ps) found)

-- AN OPENING

module _ (s : Site) (d n c rule : ℕ) (ss gs ws fs cs ps : List ℕ) where
  -- a refusal
  pub open_refused : (found : Result Unit Refusal) → verdict_of found ≡ judged (opening_tests s d n c rule cs ps) → (r : Refusal) → found ≡ Err r
      → (o : Outcome) → o ≡ not_opened r → (o, gs, ws, fs, cs, ps) ≡ begun s d n c rule ss gs ws fs cs ps
  unfolding begun
  open_refused found e r b o q =
      ap (λ (x : Outcome). (x, gs, ws, fs, cs, ps)) q
      ∙ ap (λ (v : Verdict). begun_by v s d n c rule ss gs ws fs cs ps) (sym (ap verdict_of b) ∙ e)

  module _ (v : judged (opening_tests s d n c rule cs ps) ≡ accept) where
    -- the rows of all guests at this array are lent, and so is a phase for each place
    pub opening-rows : (s.array * n + n) * counter_wide ≤ length cs
    opening-rows = let k = open_fit_of s d n c rule cs ps v in rows_inside s.arrays n s.array (length cs) k.here k.rows

    pub opening-room : d ≤ length ps
    opening-room = (open_fit_of s d n c rule cs ps v).room

    module _ (h : HandedIn numbers) (e : seen h ≡ seen (opened d n c rule ss gs ws fs)) where
      begins : begun s d n c rule ss gs ws fs cs ps ≡ started_at (taken h.0.answer) s d n cs ps h
      unfolding begun
      begins =
          ap (λ (w : Verdict). begun_by w s d n c rule ss gs ws fs cs ps) v
          ∙ ap (λ (x : HandedIn numbers). started_at (taken x.0.answer) s d n cs ps x) (sym (seen_once h (opened d n c rule ss gs ws fs) e))

      -- what the gate refuses is handed on
      pub opening-refused : (b : Bool) → b ≡ taken h.0.answer → not b ≡ true → with h cs ps ≡ begun s d n c rule ss gs ws fs cs ps
      opening-refused b q m = sym (begins ∙ ap (λ t. started_at t s d n cs ps h) (refused_is b (taken h.0.answer) q m))

      -- where it is open, counters and phases begin at 0
      pub opening-taken : (b : Bool) → b ≡ taken h.0.answer → not b ≡ false → (ds qs : List ℕ) → ds ≡ cleared_all n s.array n cs → qs ≡ phases_over d [] ps → with h ds qs ≡ begun s d n c rule ss gs ws fs cs ps
      opening-taken b q m ds qs x y = (λ i. with h (x i) (y i)) ∙ sym (begins ∙ ap (λ t. started_at t s d n cs ps h) (taken_is b (taken h.0.answer) q m))
