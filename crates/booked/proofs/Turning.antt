-- One event on lent numbers that show a page: an event that entered can be noted, and the numbers then show the page that it turns to; a refused one
-- leaves all as it stood. Assumes nothing.
use Rattle.std.specs.Prelude.{Err, Ok, Result as OkOrErr}
use Prim.Native.Nat.{ℕ, ◌+◌, ◌-◌, ◌*◌, ◌^◌, ◌≤◌, ◌<◌}
use mathlib.Core.Path.{◌≡◌, refl, sym, ap, ◌∙◌, subst}
use mathlib.Core.Bool.{true, false, not}
use mathlib.Core.List.{List, [], ◌∷◌, ◌++◌, map}
use native.Mathlib.Omega.{arith}
use borrow.Author.Tests.{leb-false}
use lib.ListN.{length, get_or, length-append, get_or-append}
use lib.Seq.{get_or-append_seam, get_or-set_other}
use Rattle.lists.specs.Tab.{tab, length-tab, get_or-tab}
use Rattle.lists.specs.RowsLaws.{length-rows}
use Rattle.rules.specs.Tables.{Table}
use Rattle.rules.specs.Sound.{sound}
use Rattle.rules.specs.Choice.{Result, choice}
use Rattle.rules.specs.Events.{enter, moment}
use Rattle.rules.specs.Refusals.{refuse, verdict, is_accept, event_tests, tests}
use Rattle.rules.specs.Run.{decided, step}
use Rattle.rules.specs.declared.Gate.{Gate}
use Rattle.rules.specs.declared.Setup.{Setup}
use Rattle.rules.specs.declared.Arriving.{Arriving}
use Rattle.rules.specs.declared.Flight.{Flight}
use Rattle.rules.specs.declared.Refusal.{Refusal}
use Rattle.rules.specs.declared.Event.{Event}
use Rattle.rules.specs.declared.Event.TheVariants.{Arrival, Completion, Tick}
use Rattle.rules.proofs.Facts.{is_sound}
use Rattle.rules.proofs.Judged.{passed}
use Rattle.rules.proofs.EnterSound.{enter-sound, enter_time, accepted-later}
use Rattle.rules.proofs.StepSound.{accepted-step}
use Rattle.rules.proofs.SameSettings.{enter-settings, same_count}
use Rattle.table.specs.View.{guest_form, table_of, gate_of, Known}
use Rattle.table.specs.declared.gates.Decision.{Decision}
use Rattle.table.specs.Does.{Lent, Leaves}
use Rattle.table.proofs.Lens.{written-shown, known-room}
use Rattle.table.proofs.Facts.{facts}
use Rattle.index.specs.Index.{Beside}
use Rattle.enter.specs.Enters.{EntersAt, Enters, EntersBeside}
use Rattle.step.proofs.After.{choice-known}
use Rattle.book.specs.Book.{noted}
use Rattle.book.specs.Figures.{counted}
use Rattle.book.specs.Page.{Page, booked, turned}
use Rattle.book.specs.Stubs.{Stub, stub}
use Rattle.book.proofs.Places.{stub_in, enter_stubs, enter_completion, enter_tick}
use Rattle.tally.specs.Columns.{ARRIVALS, COMPLETIONS, LOWER, figures_wide, figure_at}
use Rattle.tally.specs.Kept.{book_of, figures_of, page_of, Kept}
use Rattle.booked.specs.Turns.{noted_in, counted_in, struck_in, sent_in, Settles, standing, Brings, Entering}
use Rattle.tally.proofs.Stubs.{stub_at, no_stub, stubs_tab, moved_match}
use Rattle.booked.proofs.Noting.{noting, noted-shown, counted-shown}
use Rattle.booked.proofs.Sending.{settles, kept-after, page-after}

module _ (n : ℕ) (g : Gate) (gs ws fs bk fg : List ℕ) (k : Known g gs ws fs) (x : Kept n g ws bk fg) (e : Event) where
  abbrev t : Table
  t = table_of g gs ws fs

  abbrev page : Page
  page = page_of g gs ws fs bk fg

  -- A REFUSED EVENT

  -- nothing more was counted
  kept_still : Kept (n + 1) g ws bk fg
  kept_still = record { book_room = x.book_room; figures_room = x.figures_room; matches = x.matches; past = x.past; few = λ i j l b. omega (arith, x.few i j l b) }

  passed_over : (r : Refusal) → verdict t e ≡ refuse r → page ≡ turned page e
  unfolding turned booked step decided
  passed_over r q = rw q

  pub refused-turn : (r : Refusal) (a : OkOrErr Gate Refusal) (hs vs es : List ℕ) → Enters e g gs ws fs a hs vs es → a ≡ Err r
      → (page_of g hs vs es bk fg ≡ turned page e) × Known g hs vs es × Kept (n + 1) g vs bk fg
  refused-turn r a hs vs es c q =
      let b : Enters e g gs ws fs (Err r) hs vs es = subst (λ (y : OkOrErr Gate Refusal). Enters e g gs ws fs y hs vs es) q c in (
        (λ i. page_of g (b.1 i) (b.2 i) (b.3 i) bk fg) ∙ passed_over r b.0,
        subst (λ (z : Lent). Known z.0 z.1 z.2 z.3) (sym (λ i. (g, b.1 i, b.2 i, b.3 i))) k,
        subst (λ (z : List ℕ). Kept (n + 1) g z bk fg) (sym b.2) kept_still,
      )

  -- AN EVENT THAT ENTERED

  module _ (h : Gate) (hs vs es : List ℕ) (c : EntersAt e g gs ws fs h hs vs es) where
    abbrev u : Table
    u = enter t e

    taken : is_accept (verdict t e) ≡ true
    taken = ap is_accept c.accepts

    shown : table_of h hs vs es ≡ u
    shown =
        ap (λ (y : Lent). table_of y.0 y.1 y.2 y.3) c.shows
        ∙ written-shown gs ws fs u (known-room g gs ws fs k u (enter-settings t e)) (is_sound u (enter-sound t e taken))

    gate_is : h ≡ gate_of u
    gate_is = ap (λ (y : Lent). y.0) c.shows

    guests_then : h.guests ≡ g.guests
    guests_then = ap Gate.guests gate_is ∙ same_count u t (enter-settings t e) ∙ length-rows guest_form gs g.guests

    capacity_then : h.setup.capacity ≡ g.setup.capacity
    capacity_then = ap (λ (z : Gate). z.setup.capacity) gate_is ∙ ap Setup.capacity (enter-settings t e).setup

    time_then : h.time ≡ moment e
    time_then = ap Gate.time gate_is ∙ enter_time t e

    later : g.time ≤ h.time
    later = omega (arith, time_then, accepted-later t e taken)

    stubs_then : tab h.waiting (stub_at vs) ≡ map stub u.waiting
    stubs_then = sym (stubs_tab vs h.waiting) ∙ ap (λ (z : Table). map stub z.waiting) shown

    stub-then : (l : List Stub) → tab h.waiting (stub_at vs) ≡ l → (j : ℕ) → j < h.waiting → stub_at vs j ≡ get_or l j no_stub
    stub-then l q j b = sym (get_or-tab h.waiting (stub_at vs) j no_stub b) ∙ ap (λ (z : List Stub). get_or z j no_stub) q

    -- so many that waited before have their notes, and their stubs are as they were
    entering_by : (m : ℕ) → m ≡ standing e h → m ≤ g.waiting → ((j : ℕ) → j < m → stub_at vs j ≡ stub_at ws j) → Brings e h vs → n + 1 < 2 ^ 64 → Entering n e h vs bk fg
    entering_by m q l same b s =
        record {
          book_room = rw capacity_then x.book_room;
          figures_room = rw guests_then x.figures_room;
          matches = λ j a. let r : j < m = omega arith in moved_match ws vs bk bk j j (same j r) (λ i d. refl) (x.matches j (omega arith));
          past = λ j a. omega (arith, later, x.past j (omega arith));
          few = λ i j a d. x.few i j (omega (arith, guests_then)) d;
          brings = b;
          small = s;
        }

    -- where nothing came
    module _ (q : u.waiting ≡ t.waiting) where
      same-all : tab h.waiting (stub_at vs) ≡ tab g.waiting (stub_at ws)
      same-all = stubs_then ∙ ap (map stub) q ∙ stubs_tab ws g.waiting

      same-waits : h.waiting ≡ g.waiting
      same-waits = sym (length-tab h.waiting (stub_at vs)) ∙ ap length same-all ∙ length-tab g.waiting (stub_at ws)

      same-stub : (j : ℕ) → j < g.waiting → stub_at vs j ≡ stub_at ws j
      same-stub j b = stub-then (tab g.waiting (stub_at ws)) same-all j (omega (arith, same-waits)) ∙ get_or-tab g.waiting (stub_at ws) j no_stub b

    -- where a request came
    module _ (s : Stub) (q : map stub u.waiting ≡ map stub t.waiting ++ (s ∷ [])) where
      more : tab h.waiting (stub_at vs) ≡ tab g.waiting (stub_at ws) ++ (s ∷ [])
      more = stubs_then ∙ q ∙ ap (◌++ (s ∷ [])) (stubs_tab ws g.waiting)

      more-waits : h.waiting ≡ g.waiting + 1
      more-waits = sym (length-tab h.waiting (stub_at vs)) ∙ ap length more ∙ length-append (tab g.waiting (stub_at ws)) (s ∷ []) ∙ ap (λ (m : ℕ). m + 1) (length-tab g.waiting (stub_at ws))

      more-stub : (j : ℕ) → j < g.waiting → stub_at vs j ≡ stub_at ws j
      more-stub j b =
          stub-then (tab g.waiting (stub_at ws) ++ (s ∷ [])) more j (omega (arith, more-waits))
          ∙ get_or-append (tab g.waiting (stub_at ws)) (s ∷ []) no_stub j (omega (arith, length-tab g.waiting (stub_at ws)))
          ∙ get_or-tab g.waiting (stub_at ws) j no_stub b

      last_stub : stub_at vs (h.waiting - 1) ≡ s
      last_stub =
          let at-end : h.waiting - 1 ≡ length (tab g.waiting (stub_at ws)) = omega (arith, more-waits, length-tab g.waiting (stub_at ws)) in
          stub-then (tab g.waiting (stub_at ws) ++ (s ∷ [])) more (h.waiting - 1) (omega (arith, more-waits))
          ∙ ap (λ (j : ℕ). get_or (tab g.waiting (stub_at ws) ++ (s ∷ [])) j no_stub) at-end
          ∙ get_or-append_seam (tab g.waiting (stub_at ws)) s [] no_stub

-- to count an event changes no lower number of a sum
low-counted : (e : Event) (fg : List ℕ) → ((j : ℕ) → figure_at fg j LOWER < 2 ^ 64) → (j : ℕ) → figure_at (counted_in e fg) j LOWER < 2 ^ 64
low-counted (Arrival a now) fg low j = rw (get_or-set_other fg (a.guest * figures_wide + ARRIVALS) (j * figures_wide + LOWER) (figure_at fg a.guest ARRIVALS + 1) 0 (λ e. omega arith)) (low j)
low-counted (Completion f now) fg low j =
    rw (get_or-set_other fg (f.guest * figures_wide + COMPLETIONS) (j * figures_wide + LOWER) (figure_at fg f.guest COMPLETIONS + 1) 0 (λ e. omega arith)) (low j)
low-counted (Tick now) fg low j = low j

-- what entered can be noted
module _ (n : ℕ) (g : Gate) (gs ws fs bk fg : List ℕ) (k : Known g gs ws fs) (x : Kept n g ws bk fg) (small : n + 1 < 2 ^ 64) where
  -- the guest of an event that is accepted is known
  known_arrival : (a : Arriving) (now : ℕ) → is_accept (verdict (table_of g gs ws fs) (Arrival a now)) ≡ true → a.guest < g.guests
  unfolding event_tests
  known_arrival a now q =
      omega (arith, length-rows guest_form gs g.guests, leb-false (length (table_of g gs ws fs).guests) a.guest (passed (tests false (not (sound (table_of g gs ws fs))) (table_of g gs ws fs) (Arrival a now)) q 4))

  known_completion : (f : Flight) (now : ℕ) → is_accept (verdict (table_of g gs ws fs) (Completion f now)) ≡ true → f.guest < g.guests
  unfolding event_tests
  known_completion f now q =
      omega (arith, length-rows guest_form gs g.guests, leb-false (length (table_of g gs ws fs).guests) f.guest (passed (tests false (not (sound (table_of g gs ws fs))) (table_of g gs ws fs) (Completion f now)) q 4))

  pub entering : (e : Event) (h : Gate) (hs vs es : List ℕ) → EntersAt e g gs ws fs h hs vs es → Entering n e h vs bk fg
  entering (Arrival a now) h hs vs es c =
      let q = enter_stubs (table_of g gs ws fs) a now in
      let s = stub_in a (table_of g gs ws fs) (enter (table_of g gs ws fs) (Arrival a now)) in
      let w = more-waits n g gs ws fs bk fg k x (Arrival a now) h hs vs es c s q in
      let l = last_stub n g gs ws fs bk fg k x (Arrival a now) h hs vs es c s q in
      entering_by n g gs ws fs bk fg k x (Arrival a now) h hs vs es c g.waiting (omega (arith, w)) (omega arith) (more-stub n g gs ws fs bk fg k x (Arrival a now) h hs vs es c s q) (
        omega (arith, guests_then n g gs ws fs bk fg k x (Arrival a now) h hs vs es c, known_arrival a now (ap is_accept c.accepts)),
        omega (arith, w),
        sym (time_then n g gs ws fs bk fg k x (Arrival a now) h hs vs es c),
        ap Stub.guest l,
        ap Stub.id l,
      ) small
  entering (Completion f now) h hs vs es c =
      let q = enter_completion (table_of g gs ws fs) f now in
      entering_by n g gs ws fs bk fg k x (Completion f now) h hs vs es c g.waiting (sym (same-waits n g gs ws fs bk fg k x (Completion f now) h hs vs es c q)) (omega arith)
      (same-stub n g gs ws fs bk fg k x (Completion f now) h hs vs es c q)
      (omega (arith, guests_then n g gs ws fs bk fg k x (Completion f now) h hs vs es c, known_completion f now (ap is_accept c.accepts))) small
  entering (Tick now) h hs vs es c =
      let q = enter_tick (table_of g gs ws fs) now in
      entering_by n g gs ws fs bk fg k x (Tick now) h hs vs es c g.waiting (sym (same-waits n g gs ws fs bk fg k x (Tick now) h hs vs es c q)) (omega arith)
      (same-stub n g gs ws fs bk fg k x (Tick now) h hs vs es c q) tt small

  -- all that waited before has its note
  standing_is : (e : Event) (h : Gate) (hs vs es : List ℕ) → EntersAt e g gs ws fs h hs vs es → standing e h ≡ g.waiting
  standing_is (Arrival a now) h hs vs es c =
      omega (arith, more-waits n g gs ws fs bk fg k x (Arrival a now) h hs vs es c (stub_in a (table_of g gs ws fs) (enter (table_of g gs ws fs) (Arrival a now))) (enter_stubs (table_of g gs ws fs) a now))
  standing_is (Completion f now) h hs vs es c = same-waits n g gs ws fs bk fg k x (Completion f now) h hs vs es c (enter_completion (table_of g gs ws fs) f now)
  standing_is (Tick now) h hs vs es c = same-waits n g gs ws fs bk fg k x (Tick now) h hs vs es c (enter_tick (table_of g gs ws fs) now)

  -- THE TURN

  module _ (low : (j : ℕ) → figure_at fg j LOWER < 2 ^ 64) (e : Event) (h : Gate) (hs vs es : List ℕ) (c : EntersAt e g gs ws fs h hs vs es) (o : Decision) (is js ls ck dg : List ℕ) (y : Leaves choice h hs vs es o is js ls)
      (eb : ck ≡ struck_in o.answer h (noted_in e h vs bk)) (ef : dg ≡ sent_in o.answer h (noted_in e h vs bk) (counted_in e fg)) where
    abbrev nb : List ℕ
    nb = noted_in e h vs bk

    abbrev nf : List ℕ
    nf = counted_in e fg

    known-then : Known h hs vs es
    known-then = c.known

    ready : Entering n e h vs bk fg
    ready = entering e h hs vs es c

    low-then : (j : ℕ) → figure_at nf j LOWER < 2 ^ 64
    low-then = low-counted e fg low

    late : h.time < 2 ^ 64
    late = omega (arith, (facts h hs vs es known-then).timed)

    book_is : book_of nb h.waiting ≡ noted e (book_of bk g.waiting)
    book_is = noted-shown n h hs vs es bk fg known-then e ready ∙ ap (λ (m : ℕ). noted e (book_of bk m)) (standing_is e h hs vs es c)

    figures_are : figures_of nf h.guests ≡ counted e (figures_of fg g.guests)
    figures_are = counted-shown n h hs vs es bk fg known-then e ready ∙ ap (λ (m : ℕ). counted e (figures_of fg m)) (guests_then n g gs ws fs bk fg k x e h hs vs es c)

    turned_is : page_of o.gate is js ls (struck_in o.answer h nb) (sent_in o.answer h nb nf) ≡ turned (page_of g gs ws fs bk fg) e
    unfolding turned
    turned_is =
        page-after n h hs vs es nb nf known-then (noting n h hs vs es bk fg known-then e ready) o is js ls y low-then late e (page_of g gs ws fs bk fg) book_is figures_are
        ∙ ap (λ (z : Table). booked (choice z).answer e z (choice z).table (page_of g gs ws fs bk fg)) (shown n g gs ws fs bk fg k x e h hs vs es c)
        ∙ ap (λ (r : Result). booked r.answer e (enter (table_of g gs ws fs) e) r.table (page_of g gs ws fs bk fg)) (sym (accepted-step (table_of g gs ws fs) e (ap is_accept c.accepts)))

    pub entered_turn : (page_of o.gate is js ls ck dg ≡ turned (page_of g gs ws fs bk fg) e) × Known o.gate is js ls × Kept (n + 1) o.gate js ck dg
    entered_turn = (
      (λ i. page_of o.gate is js ls (eb i) (ef i)) ∙ turned_is,
      choice-known h hs vs es known-then o is js ls y,
      subst (λ (z : List ℕ). Kept (n + 1) o.gate js z dg) (sym eb)
          (subst (Kept (n + 1) o.gate js (struck_in o.answer h nb)) (sym ef) (kept-after n h hs vs es nb nf known-then (noting n h hs vs es bk fg known-then e ready) o is js ls y low-then late)),
    )

-- what `accepted` must show before it settles the answer
pub settled_asks : (n : ℕ) (h : Gate) (hs vs es bk fg : List ℕ) → Known h hs vs es → (e : Event) → Entering n e h vs bk fg → (ck dg : List ℕ) → ck ≡ noted_in e h vs bk → dg ≡ counted_in e fg
    → (o : Decision) (is js ls : List ℕ) → Leaves choice h hs vs es o is js ls → Settles o.answer h ck dg
settled_asks n h hs vs es bk fg k e x ck dg eb ef o is js ls y =
    let a = noting n h hs vs es bk fg k e x in
    subst (λ (z : List ℕ). Settles o.answer h z dg) (sym eb)
    (subst (Settles o.answer h (noted_in e h vs bk)) (sym ef)
    (settles n h hs vs es (noted_in e h vs bk) (counted_in e fg) k a o.answer (sym y.answers)))

-- what entered, from what the entering answered
pub entered_at : (e : Event) (g : Gate) (gs ws fs : List ℕ) (a : OkOrErr Gate Refusal) (hs vs es : List ℕ) → Enters e g gs ws fs a hs vs es → (h : Gate) → a ≡ Ok h → EntersAt e g gs ws fs h hs vs es
entered_at e g gs ws fs a hs vs es c h q = subst (λ (y : OkOrErr Gate Refusal). Enters e g gs ws fs y hs vs es) q c

-- the index of a table whose event was refused
pub refused_beside : {vs ix : List ℕ} (g : Gate) (a : OkOrErr Gate Refusal) (r : Refusal) → a ≡ Err r → EntersBeside g a vs ix → Beside vs ix g.waiting
refused_beside {vs} {ix} g a r q b = subst (λ (y : OkOrErr Gate Refusal). EntersBeside g y vs ix) q b
