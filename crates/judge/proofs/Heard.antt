-- What the functions over one event know at their ends: what the lines say is what the definition hears. Assumes nothing.
use Rattle.std.specs.Prelude.{Some, None, Option, Err, Ok, Result as OkOrErr}
use Prim.Native.Nat.{ℕ, ◌≤◌, ◌<◌}
use mathlib.Core.Path.{◌≡◌, refl, sym, ap, ◌∙◌, subst}
use mathlib.Core.Bool.{Bool, true, false, ◌&&◌}
use mathlib.Core.List.{List}
use native.Mathlib.Omega.{arith}
use lib.Dec.{leb}
use lib.ListN.{length}
use borrow.Author.Tests.{lt-ltb, le-ltb}
use Rattle.lists.specs.Tab.{remove_at}
use Rattle.lists.specs.RowsLaws.{length-rows}
use Rattle.rules.specs.Tables.{Request, Table, settings_of}
use Rattle.rules.specs.Choice.{Result, Pick, nobody, picked, least, due_at, due, open?, room, by_weight, by_reservation, choice}
use Rattle.rules.specs.Chosen.{at}
use Rattle.rules.specs.Events.{enter}
use Rattle.rules.specs.Refusals.{Verdict, is_accept}
use Rattle.rules.specs.Run.{decided, step}
use Rattle.rules.specs.declared.Event.{Event}
use Rattle.rules.specs.declared.Gate.{Gate}
use Rattle.rules.specs.declared.Phase.{Phase}
use Rattle.rules.specs.declared.Phase.TheVariants.{Reservation, Weight}
use Rattle.rules.specs.declared.Refusal.{Refusal}
use Rattle.rules.specs.declared.Refusal.TheVariants.{BadEvent}
use Rattle.rules.specs.declared.Answer.{Answer}
use Rattle.rules.specs.declared.Answer.TheVariants.{Nothing, Sent, Refused}
use Rattle.rules.proofs.Facts.{is_sound}
use Rattle.rules.proofs.EnterSound.{enter-sound}
use Rattle.rules.proofs.SameSettings.{enter-settings}
use Rattle.table.specs.Columns.{GUEST, ID, waiting_at}
use Rattle.table.specs.View.{request_form, flight_form, guests_of, table_of, Known}
use Rattle.table.specs.Does.{Lent}
use Rattle.table.proofs.Lens.{written-shown, known-room}
use Rattle.walks.specs.Walks.{Picks}
use Rattle.sends.specs.Firsts.{FirstOf}
use Rattle.sends.proofs.Phases.{latest, due_picks, open_picks}
use Rattle.enter.specs.Enters.{EntersAt, Enters}
use Rattle.std.specs.Bool.{then_some}
use Rattle.std.proofs.lemmas.Option.{none-some, same_Some}
use Rattle.lines.specs.Line.{line_of}
use Rattle.trace.specs.Printed.{answered}
use Rattle.judge.specs.Acceptable.{entire, refusing}
use Rattle.judge.specs.Judging.{begins, Heard, told, ok_in, tag_in, sent_at, named, leads, sent_in, heard_in, heard_weight, heard_reservation, heard_choice, heard_by, heard}
use Rattle.judge.specs.Hearing.{size_if, said_of, Tells, Finds, Sends, Hears}
use Rattle.judge.specs.declared.Said.{Said}
use Rattle.judge.specs.declared.Told.{Told}
use Rattle.judge.proofs.Places.{found_inside}
use Rattle.judge.proofs.Tied.{leads-first, first_of}
use Rattle.judge.proofs.Ties.{place_here, send_there}
use Rattle.judge.proofs.OneLine.{plain_hears}
use Rattle.std.specs.Prelude.{Some, None}
use Rattle.trace.specs.Event.{Read}

-- what was heard, said of another that is the same
pub hears_as : {h x : Heard} {a b : Answer} {n : ℕ} {r : Said} {gs ws fs : List ℕ} → x ≡ h → b ≡ a → Hears x b n r gs ws fs → Hears h a n r gs ws fs
hears_as {h} {x} {a} {b} {n} {r} {gs} {ws} {fs} e f k = subst (λ (y : Heard × Answer). Hears y.0 y.1 n r gs ws fs) (λ i. (e i, f i)) k

-- the answer of a send
pub sent_answer : (p : Phase) (t : Table) (i : ℕ) → (sent_at p t i).answer ≡ Sent p (at t.waiting i).guest (at t.waiting i).id
sent_answer Reservation t i = refl
sent_answer Weight t i = refl

-- A SEND

-- what was heard is one of those that wait
pub tells-here : (g : Gate) (gs ws fs : List ℕ) (number : ℕ) (ls : List ℕ) (p : Phase) (place : ℕ) (r : Told) → Tells number ls p (table_of g gs ws fs) place (Some r) → r.place < g.waiting
tells-here g gs ws fs number ls p place r tells =
    let t = table_of g gs ws fs in
    omega (arith, found_inside (named number ls p t (tag_in p (at t.waiting place))) t.waiting r.place tells.one, length-rows request_form ws g.waiting)

-- whether what was heard is the first of its guest
module _ (number : ℕ) (ls : List ℕ) (p : Phase) (t : Table) (place : ℕ) where
  -- nothing was
  pub finds-none : Tells number ls p t place None → Finds number ls p t place None
  unfolding heard_in
  finds-none tells = ap (sent_in p t) tells

  -- one was, and it is or it is not
  pub finds-first : (r : Told) → Tells number ls p t place (Some r) → (b : Bool) → b ≡ leads t.waiting r.place → Finds number ls p t place (then_some b r)
  unfolding heard_in
  finds-first r tells true e = (tells, sym e)
  finds-first r tells false e = ap (sent_in p t) tells.one ∙ rw (sym e)

  -- it is not
  pub finds-later : (r : Told) → Tells number ls p t place (Some r) → leads t.waiting r.place ≡ false → Finds number ls p t place None
  unfolding heard_in
  finds-later r tells h = ap (sent_in p t) tells.one ∙ rw h

module _ (g : Gate) (gs ws fs : List ℕ) (k : Known g gs ws fs) (place : ℕ) (p : Phase) (picks : Picks (ok_in p (table_of g gs ws fs)) (tag_in p) (table_of g gs ws fs).waiting (Some place))
    (number : ℕ) (ls : List ℕ) where
  abbrev t : Table
  t = table_of g gs ws fs

  abbrev m : ℕ
  m = tag_in p (at t.waiting place)

  abbrev ours : Answer
  ours = (sent_at p t place).answer

  due_is : (a : Answer) → a ≡ Sent p (waiting_at ws place GUEST) (waiting_at ws place ID) → a ≡ ours
  due_is a e = e ∙ send_there g gs ws fs k place (place_here g gs ws fs k place p picks) p ∙ sym (sent_answer p t place)

  -- no line was heard
  pub send_wrong : Finds number ls p t place None → (a : Answer) → a ≡ Sent p (waiting_at ws place GUEST) (waiting_at ws place ID) → (hs vs es : List ℕ) → Hears (heard_in number ls p t m) ours number (said_of g a None) hs vs es
  send_wrong finds a e hs vs es = record { due = due_is a e; errs = λ _. finds; goes = λ long z. absurd (none-some long z) }

  -- one was: its request is the first of its guest
  module _ (r : Told) (finds : Finds number ls p t place (Some r)) where
    inside : r.place < length t.waiting
    inside = found_inside (named number ls p t m) t.waiting r.place finds.0.one

    pub there-here : r.place < g.waiting
    there-here = omega (arith, inside, length-rows request_form ws g.waiting)

    pub there-first : FirstOf t.waiting r.place
    there-first = first_of t.waiting r.place inside (leads-first t.waiting r.place finds.1)

    pub send_right : (a : Answer) → a ≡ Sent p (waiting_at ws place GUEST) (waiting_at ws place ID) → (h : Gate) (hs vs es : List ℕ) → Sends (sent_at p t r.place) h hs vs es
        → Hears (heard_in number ls p t m) ours number (said_of h a (Some r.long)) hs vs es
    unfolding heard_in
    send_right a e h hs vs es s =
        record {
          due = due_is a e;
          errs = λ z. absurd (none-some r.long (sym z));
          goes = λ long z. record {
            result = sent_at p t r.place;
            says = ap (sent_in p t) finds.0.one ∙ rw finds.1;
            sends = s;
            size = sym (same_Some r.long long z) ∙ finds.0.size ∙ ap (λ (b : Answer). length (line_of number b)) (sym (sent_answer p t r.place));
          };
        }

-- THE CHOICE

module _ (g : Gate) (gs ws fs : List ℕ) (k : Known g gs ws fs) (number : ℕ) (ls : List ℕ) where
  abbrev u : Table
  u = table_of g gs ws fs

  -- no place is free
  pub choice-full : g.setup.depth ≤ g.flight → (r : Said) → r ≡ said_of g Nothing (size_if (begins (line_of number Nothing) ls) (line_of number Nothing))
      → Hears (heard_choice number ls u) (choice u).answer number r gs ws fs
  unfolding heard_choice choice room
  choice-full h r e =
      let z = le-ltb g.flight g.setup.depth h in
      rw (length-rows flight_form fs g.flight, z) (plain_hears g gs ws fs k Nothing number ls r e)

  module _ (free : g.flight < g.setup.depth) where
    is_room : room u ≡ true
    unfolding room
    is_room = rw (length-rows flight_form fs g.flight) (lt-ltb g.flight g.setup.depth free)

    -- by what the reservation phase picks
    abbrev Heeds : Heard → Result → Type 0
    Heeds h x = (heard_choice number ls u ≡ h) × (choice u ≡ x)

    by_pick : (c : Pick) → least (due u) Request.rtag u.waiting ≡ c → Heeds (heard_reservation number ls u c) (by_reservation u c)
    unfolding heard_choice choice
    by_pick c e = (rw is_room (ap (heard_reservation number ls u) e), rw is_room (ap (by_reservation u) e))

    module _ (l : ℕ) (is : l ≡ latest g gs ws fs k) (x : Option ℕ) (d : Picks (λ q. due_at (settings_of (guests_of gs g.guests) q) g.time q && leb q.ltag l) Request.rtag u.waiting x) where
      pub due-at : (place : ℕ) → x ≡ Some place → Picks (due u) Request.rtag u.waiting (Some place)
      due-at place e = subst (Picks (due u) Request.rtag u.waiting) e (due_picks g gs ws fs k l is x d)

      -- one is due
      pub choice-due : (place : ℕ) → x ≡ Some place → {r : Said} {hs vs es : List ℕ}
          → Hears (heard_in number ls Reservation u (tag_in Reservation (at u.waiting place))) (sent_at Reservation u place).answer number r hs vs es
          → Hears (heard_choice number ls u) (choice u).answer number r hs vs es
      unfolding by_reservation
      choice-due place e =
          let b = by_pick (picked (at u.waiting place) (remove_at place u.waiting)) (due-at place e).pick in
          hears_as (sym b.0) (ap Result.answer (sym b.1))

      module _ (none : x ≡ None) (y : Option ℕ) (o : Picks (λ q. leb q.ltag g.time) Request.stag u.waiting y) where
        open_as : Picks (open? u) Request.stag u.waiting y
        open_as = open_picks g gs ws fs k y o

        by_open : (c : Pick) → least (open? u) Request.stag u.waiting ≡ c → Heeds (heard_weight number ls u c) (by_weight u c)
        unfolding by_reservation
        by_open c e =
            let b = by_pick nobody (subst (Picks (due u) Request.rtag u.waiting) none (due_picks g gs ws fs k l is x d)).pick in
            (b.0 ∙ ap (heard_weight number ls u) e, b.1 ∙ ap (by_weight u) e)

        pub open_at : (place : ℕ) → y ≡ Some place → Picks (open? u) Request.stag u.waiting (Some place)
        open_at place e = subst (Picks (open? u) Request.stag u.waiting) e open_as

        -- none is due, and one is open
        pub choice_open : (place : ℕ) → y ≡ Some place → {r : Said} {hs vs es : List ℕ}
            → Hears (heard_in number ls Weight u (tag_in Weight (at u.waiting place))) (sent_at Weight u place).answer number r hs vs es
            → Hears (heard_choice number ls u) (choice u).answer number r hs vs es
        unfolding by_weight
        choice_open place e =
            let b = by_open (picked (at u.waiting place) (remove_at place u.waiting)) (open_at place e).pick in
            hears_as (sym b.0) (ap Result.answer (sym b.1))

        -- none is open either
        pub choice-none : y ≡ None → (r : Said) → r ≡ said_of g Nothing (size_if (begins (line_of number Nothing) ls) (line_of number Nothing))
            → Hears (heard_choice number ls u) (choice u).answer number r gs ws fs
        unfolding by_weight
        choice-none e r z =
            let b = by_open nobody (subst (Picks (open? u) Request.stag u.waiting) e open_as).pick in
            hears_as (sym b.0) (ap Result.answer (sym b.1)) (plain_hears g gs ws fs k Nothing number ls r z)

-- AN EVENT

module _ (g : Gate) (gs ws fs : List ℕ) (k : Known g gs ws fs) (e : Event) (number : ℕ) (ls : List ℕ) (x : OkOrErr Gate Refusal) (hs vs es : List ℕ) (c : Enters e g gs ws fs x hs vs es) where
  abbrev v : Table
  v = table_of g gs ws fs

  -- refused
  pub good-refused : (why : Refusal) → x ≡ Err why → (r : Said) → r ≡ said_of g (Refused why) (size_if (begins (line_of number (Refused why)) ls) (line_of number (Refused why)))
      → Hears (heard number ls v (entire (Some e))) (step v e).answer number r hs vs es
  unfolding heard step decided
  good-refused why p r z =
      let b : Enters e g gs ws fs (Err why) hs vs es = subst (λ (y : OkOrErr Gate Refusal). Enters e g gs ws fs y hs vs es) p c in
      let same : ◌≡◌ {A = Lent} (g, gs, ws, fs) (g, hs, vs, es) = λ i. (g, sym b.1 i, sym b.2 i, sym b.3 i) in
      let h = plain_hears g gs ws fs k (Refused why) number ls r z in
      hears_as (ap (λ (y : Verdict). heard_by number ls y v e) (sym b.0)) (ap (λ (y : Verdict). (decided y v e).answer) (sym b.0))
      (subst (λ (y : Lent). Hears (told number ls (refusing v why)) (Refused why) number r y.1 y.2 y.3) same h)

  -- entered
  module _ (h : Gate) (p : x ≡ Ok h) where
    at_it : EntersAt e g gs ws fs h hs vs es
    at_it = subst (λ (y : OkOrErr Gate Refusal). Enters e g gs ws fs y hs vs es) p c

    pub good-known : Known h hs vs es
    good-known = at_it.known

    shown : table_of h hs vs es ≡ enter v e
    shown =
        ap (λ (y : Lent). table_of y.0 y.1 y.2 y.3) at_it.shows
        ∙ written-shown gs ws fs (enter v e) (known-room g gs ws fs k (enter v e) (enter-settings v e)) (is_sound (enter v e) (enter-sound v e (ap is_accept at_it.accepts)))

    pub good_entered : {r : Said} {is js ks : List ℕ} → Hears (heard_choice number ls (table_of h hs vs es)) (choice (table_of h hs vs es)).answer number r is js ks
        → Hears (heard number ls v (entire (Some e))) (step v e).answer number r is js ks
    unfolding heard step decided
    good_entered =
        hears_as (ap (heard_choice number ls) shown ∙ ap (λ (y : Verdict). heard_by number ls y v e) (sym at_it.accepts))
        (ap (λ (y : Table). (choice y).answer) shown ∙ ap (λ (y : Verdict). (decided y v e).answer) (sym at_it.accepts))

-- as it was read
module _ (g : Gate) (gs ws fs : List ℕ) (k : Known g gs ws fs) (number : ℕ) (ls : List ℕ) (y z : Read) (same : y ≡ z) where
  abbrev w : Table
  w = table_of g gs ws fs

  pub read-good : (e : Event) → y ≡ Some e → {r : Said} {hs vs es : List ℕ} → Hears (heard number ls w (entire (Some e))) (step w e).answer number r hs vs es
      → Hears (heard number ls w (entire z)) (answered w z).answer number r hs vs es
  unfolding answered
  read-good e p = hears_as (ap (λ (x : Read). heard number ls w (entire x)) (sym p ∙ same)) (ap (λ (x : Read). (answered w x).answer) (sym p ∙ same))

  pub read_bad : y ≡ None → (r : Said) → r ≡ said_of g (Refused BadEvent) (size_if (begins (line_of number (Refused BadEvent)) ls) (line_of number (Refused BadEvent)))
      → Hears (heard number ls w (entire z)) (answered w z).answer number r gs ws fs
  unfolding answered heard
  read_bad p r e =
      hears_as (ap (λ (x : Read). heard number ls w (entire x)) (sym p ∙ same)) (ap (λ (x : Read). (answered w x).answer) (sym p ∙ same))
      (plain_hears g gs ws fs k (Refused BadEvent) number ls r e)
