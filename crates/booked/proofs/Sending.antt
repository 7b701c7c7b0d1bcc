-- The choice is made on tables whose requests have their notes: what it sends can be struck and counted; then the page is that of the definitions, and
-- all is kept. Assumes nothing.
use Prim.Native.Nat.{ℕ, suc, ◌+◌, ◌-◌, ◌*◌, ◌^◌, ◌≤◌, ◌<◌}
use mathlib.Core.Path.{◌≡◌, refl, sym, ap, ap₂, ◌∙◌, subst}
use mathlib.Core.Bool.{Bool, true, false}
use mathlib.Core.List.{List, map}
use mathlib.Core.Logic.{⊎_elim}
use native.Mathlib.Omega.{arith}
use lib.Dec.{lit<, ltb}
use lib.ListN.{length, get_or}
use Rattle.lists.specs.Words.{if◌then◌else◌}
use Rattle.lists.specs.Tab.{tab, get_or-tab, remove_at, lt_or_le}
use Rattle.lists.specs.RowsLaws.{row-at, length-rows}
use Rattle.rules.specs.Tables.{Request, Table, name, same}
use Rattle.rules.specs.Choice.{choice}
use Rattle.rules.specs.Chosen.{at}
use Rattle.rules.specs.declared.Gate.{Gate}
use Rattle.rules.specs.declared.Flight.{Flight}
use Rattle.rules.specs.declared.Setup.{Setup}
use Rattle.rules.specs.declared.Phase.{Phase}
use Rattle.rules.specs.declared.Phase.TheVariants.{Reservation, Weight}
use Rattle.rules.specs.declared.Event.{Event}
use Rattle.rules.specs.declared.Answer.{Answer}
use Rattle.rules.specs.declared.Answer.TheVariants.{Nothing, Sent, Refused}
use Rattle.rules.proofs.Facts.{Sound}
use Rattle.rules.proofs.SameSettings.{choice-settings, same_count}
use Rattle.rules.proofs.Bounds.{choice_time}
use Rattle.table.specs.declared.gates.Decision.{Decision}
use Rattle.table.specs.View.{guest_form, request_form, table_of, gate_of, Known}
use Rattle.table.specs.Does.{Lent, Leaves}
use Rattle.table.proofs.Facts.{facts, rows_ask}
use Rattle.step.proofs.After.{choice-shown}
use Rattle.book.specs.Book.{Entry, called, noted, struck}
use Rattle.book.specs.Figures.{Figures, counted, change, sent_by}
use Rattle.book.specs.Page.{Page, named, lies_ahead, waited, booked}
use Rattle.book.specs.Stubs.{Stub, stub}
use Rattle.book.proofs.Places.{is_other, SentFrom, choice-goes, choice_nothing, choice_refuses_none, no_entry, sent_ahead, sent_since, sent_struck}
use Rattle.tally.specs.Columns.{SINCE, note_wide, UPPER, LOWER, figures_wide, note_at, figure_at}
use Rattle.tally.specs.Kept.{entry_at, book_of, figures_of, page_of, Matches, Kept}
use Rattle.tally.specs.Notes.{struck_at, sent_for}
use Rattle.booked.specs.Turns.{gone_from, ahead_in, wait_in, struck_in, sent_in, Sendable, Settles, Noted}
use Rattle.tally.proofs.Places.{found_at}
use Rattle.tally.proofs.BookRows.{removed_below, removed_from, struck-below, struck_from, length-struck, struck_book}
use Rattle.tally.proofs.FigureRows.{length_sent, sent_is, few_sent}
use Rattle.tally.proofs.Stubs.{stub_at, no_stub, stubs_tab, moved_match, matched_names}
use Rattle.booked.proofs.Noting.{fits_one}

-- a test counts at most one
at_most_one : (b : Bool) → (if b then 1 else 0) ≤ 1
at_most_one true = omega arith
at_most_one false = omega arith

-- the figures after a send are as many numbers
length_for : (phase : Phase) (g : ℕ) (ahead : Bool) (wait : ℕ) (fg : List ℕ) → g * figures_wide + figures_wide ≤ length fg → length (sent_for phase g ahead wait fg) ≡ length fg
length_for Reservation g ahead wait fg row = length_sent g 1 0 (if ahead then 1 else 0) wait fg row
length_for Weight g ahead wait fg row = length_sent g 0 1 0 wait fg row

module _ (n : ℕ) (h : Gate) (hs vs es bk fg : List ℕ) (k : Known h hs vs es) (x : Noted n h vs bk fg) where
  abbrev u : Table
  u = table_of h hs vs es

  abbrev v : Table
  v = (choice u).table

  firm : Sound u
  firm = (facts h hs vs es k).firm

  waits : length u.waiting ≡ h.waiting
  waits = length-rows request_form vs h.waiting

  guests : length u.guests ≡ h.guests
  guests = length-rows guest_form hs h.guests

  few_wait : h.waiting ≤ h.setup.capacity
  few_wait = (facts h hs vs es k).waits

  few_guests : h.guests ≤ 64
  few_guests = (facts h hs vs es k).counts.guest-count.1

  book_room : h.waiting * note_wide ≤ length bk
  book_room = omega (arith, few_wait, x.book_room)

  -- the name of a waiting request is that of its note
  name-at : (j : ℕ) → j < h.waiting → name (at u.waiting j) ≡ called (entry_at bk j)
  name-at j l =
      ap name (row-at request_form vs h.waiting j l)
      ∙ (λ i. record { guest = sym (x.matches j l).guest i; id = sym (x.matches j l).id i })

  -- so the book has the names of those that wait
  names : map called (book_of bk h.waiting) ≡ map name u.waiting
  names = matched_names vs bk h.waiting x.matches

  -- A REQUEST IS SENT

  module _ (phase : Phase) (g i : ℕ) (q : (choice u).answer ≡ Sent phase g i) where
    from : SentFrom u (named g i) v
    from = choice-goes u firm phase g i q

    abbrev p : ℕ
    p = from.place

    here : p < h.waiting
    here = omega (arith, from.inside, waits)

    itself : called (entry_at bk p) ≡ named g i
    itself = sym (name-at p here) ∙ from.named

    before : (j : ℕ) → j < p → same (named g i) (called (entry_at bk j)) ≡ false
    before j l =
        is_other (named g i) (called (entry_at bk j))
        (λ e. let m : j < h.waiting = omega (arith, here) in
        let o : j ≡ p = from.only j (omega (arith, waits)) (name-at j m ∙ sym e) in omega arith)

    -- its note stands where it stood
    found : gone_from g i h bk ≡ p
    found = found_at bk h.waiting g i p here (ap Flight.guest itself) (ap Flight.id itself) before

    known : g < h.guests
    known = omega (arith, from.known, guests)

    row : g * figures_wide + figures_wide ≤ length fg
    row = omega (arith, known, x.figures_room)

    sendable : Sendable g i h bk fg
    sendable =
        record {
          few = (rows_ask h hs vs es k).0;
          room = book_room;
          inside = rw found here;
          past = rw found (x.past p here);
          guest = omega (arith, known, few_guests);
          row = row;
          fits = λ j a b. fits_one n (figure_at fg g j) x.small (x.fewer g j known a b);
        }

    -- its limit tag lies ahead where its note says so
    ahead_is : ahead_in h bk (gone_from g i h bk) ≡ lies_ahead u (named g i)
    ahead_is =
        ap (ahead_in h bk) found
        ∙ ap (ltb h.time) ((x.matches p here).ltag ∙ sym (ap Request.ltag (row-at request_form vs h.waiting p here)))
        ∙ sym (sent_ahead u (named g i) v from firm)

    -- and it waited from the time of its note
    wait_is : wait_in h bk (gone_from g i h bk) ≡ waited u (named g i) (book_of bk h.waiting)
    wait_is =
        ap (wait_in h bk) found
        ∙ ap (λ (s : ℕ). h.time - s) (sym (sent_since u (named g i) v from (book_of bk h.waiting) names ∙ ap Entry.time (get_or-tab h.waiting (entry_at bk) p no_entry here)))

  pub settles : (a : Answer) → (choice u).answer ≡ a → Settles a h bk fg
  settles Nothing q = tt
  settles (Sent phase g i) q = sendable phase g i q
  settles (Refused r) q = tt

  -- AFTER THE CHOICE

  module _ (o : Decision) (gs ws fs : List ℕ) (y : Leaves choice h hs vs es o gs ws fs) where
    gate_is : o.gate ≡ gate_of v
    gate_is = ap (λ (z : Lent). z.0) y.shows

    pub shown : table_of o.gate gs ws fs ≡ v
    shown = choice-shown h hs vs es k o gs ws fs y

    waits-then : o.gate.waiting ≡ length v.waiting
    waits-then = ap Gate.waiting gate_is

    guests_then : o.gate.guests ≡ h.guests
    guests_then = ap Gate.guests gate_is ∙ same_count v u (choice-settings u) ∙ guests

    capacity_then : o.gate.setup.capacity ≡ h.setup.capacity
    capacity_then = ap (λ (z : Gate). z.setup.capacity) gate_is ∙ ap Setup.capacity (choice-settings u).setup

    time_then : o.gate.time ≡ h.time
    time_then = ap Gate.time gate_is ∙ choice_time u

    stubs_then : tab o.gate.waiting (stub_at ws) ≡ map stub v.waiting
    stubs_then = sym (stubs_tab ws o.gate.waiting) ∙ ap (λ (z : Table). map stub z.waiting) shown

    stub-then : (l : List Stub) → tab o.gate.waiting (stub_at ws) ≡ l → (j : ℕ) → j < o.gate.waiting → stub_at ws j ≡ get_or l j no_stub
    stub-then l e j b = sym (get_or-tab o.gate.waiting (stub_at ws) j no_stub b) ∙ ap (λ (z : List Stub). get_or z j no_stub) e

    -- nothing was sent
    module _ (q : (choice u).answer ≡ Nothing) where
      same-waits : o.gate.waiting ≡ h.waiting
      same-waits = waits-then ∙ ap (λ (z : Table). length z.waiting) (choice_nothing u q) ∙ waits

      same-stub : (j : ℕ) → j < o.gate.waiting → stub_at ws j ≡ stub_at vs j
      same-stub j b =
          stub-then (tab h.waiting (stub_at vs)) (stubs_then ∙ ap (λ (z : Table). map stub z.waiting) (choice_nothing u q) ∙ stubs_tab vs h.waiting) j b
          ∙ get_or-tab h.waiting (stub_at vs) j no_stub (omega (arith, same-waits))

      kept_nothing : Kept (n + 1) o.gate ws bk fg
      kept_nothing =
          record {
            book_room = rw capacity_then x.book_room;
            figures_room = rw guests_then x.figures_room;
            matches = λ j b. moved_match vs ws bk bk j j (same-stub j b) (λ c l. refl) (x.matches j (omega (arith, same-waits)));
            past = λ j b. omega (arith, time_then, x.past j (omega (arith, same-waits)));
            few = λ j c b l. x.few j c (omega (arith, guests_then)) l;
          }

    -- a request was sent
    module _ (phase : Phase) (g i : ℕ) (q : (choice u).answer ≡ Sent phase g i) (low : figure_at fg g LOWER < 2 ^ 64) (late : h.time < 2 ^ 64) where
      abbrev place : ℕ
      place = (from phase g i q).place

      inside : place < h.waiting
      inside = here phase g i q

      less_wait : o.gate.waiting ≡ h.waiting - 1
      less_wait = omega (arith, waits-then, (from phase g i q).shorter, waits)

      moved : tab o.gate.waiting (stub_at ws) ≡ remove_at place (tab h.waiting (stub_at vs))
      moved = stubs_then ∙ (from phase g i q).stubs ∙ ap (remove_at place) (stubs_tab vs h.waiting)

      abbrev left : List ℕ
      left = struck_at place h.waiting bk

      matches_below : (j : ℕ) → j < o.gate.waiting → j < place → Matches ws left j
      matches_below j b l =
          moved_match vs ws bk left j j (stub-then (remove_at place (tab h.waiting (stub_at vs))) moved j b ∙ removed_below no_stub place h.waiting (stub_at vs) inside j l)
          (λ c m. struck-below place h.waiting bk inside book_room j c l m) (x.matches j (omega (arith, inside)))

      matches_from : (j : ℕ) → j < o.gate.waiting → place ≤ j → Matches ws left j
      matches_from j b l =
          let m : suc j < h.waiting = omega (arith, less_wait, inside) in
          moved_match vs ws bk left j (suc j) (stub-then (remove_at place (tab h.waiting (stub_at vs))) moved j b ∙ removed_from no_stub place h.waiting (stub_at vs) inside j l m)
          (λ c d. struck_from place h.waiting bk inside book_room j c l m d) (x.matches (suc j) m)

      past_below : (j : ℕ) → j < place → note_at left j SINCE ≤ o.gate.time
      past_below j l = omega (arith, struck-below place h.waiting bk inside book_room j SINCE l (lit< tt), x.past j (omega (arith, inside)), time_then)

      past_from : (j : ℕ) → j < o.gate.waiting → place ≤ j → note_at left j SINCE ≤ o.gate.time
      past_from j b l =
          let m : suc j < h.waiting = omega (arith, less_wait, inside) in
          omega (arith, struck_from place h.waiting bk inside book_room j SINCE l m (lit< tt), x.past (suc j) m, time_then)

      its_row : g * figures_wide + figures_wide ≤ length fg
      its_row = row phase g i q

      few_then : (f : Phase) (ahead : Bool) (wait : ℕ) → wait < 2 ^ 64 → (j c : ℕ) → j < h.guests → c ≤ UPPER → figure_at (sent_for f g ahead wait fg) j c ≤ n + 1
      few_then Reservation ahead wait s =
          few_sent n h.guests g 1 0 (if ahead then 1 else 0) wait fg (known phase g i q) x.figures_room (omega arith, omega arith, at_most_one ahead) low s x.few x.fewer
      few_then Weight ahead wait s = few_sent n h.guests g 0 1 0 wait fg (known phase g i q) x.figures_room (omega arith, omega arith, omega arith) low s x.few x.fewer

      kept-struck : (ahead : Bool) (wait : ℕ) → wait < 2 ^ 64 → Kept (n + 1) o.gate ws left (sent_for phase g ahead wait fg)
      kept-struck ahead wait s =
          record {
            book_room = rw (capacity_then, length-struck place h.waiting bk inside book_room) x.book_room;
            figures_room = rw (guests_then, length_for phase g ahead wait fg its_row) x.figures_room;
            matches = λ j b. ⊎_elim (matches_below j b) (matches_from j b) (lt_or_le j place);
            past = λ j b. ⊎_elim (past_below j) (past_from j b) (lt_or_le j place);
            few = λ j c b l. few_then phase ahead wait s j c (omega (arith, guests_then)) l;
          }

      kept_sent : Kept (n + 1) o.gate ws (struck_in (Sent phase g i) h bk) (sent_in (Sent phase g i) h bk fg)
      kept_sent =
          subst (λ (z : ℕ). Kept (n + 1) o.gate ws (struck_at z h.waiting bk) (sent_for phase g (ahead_in h bk z) (wait_in h bk z) fg)) (sym (found phase g i q))
          (kept-struck (ahead_in h bk place) (wait_in h bk place) (omega (arith, late)))

      book_sent : book_of (struck_in (Sent phase g i) h bk) o.gate.waiting ≡ struck (named g i) (book_of bk h.waiting)
      book_sent =
          ap₂ (λ (z m : ℕ). book_of (struck_at z h.waiting bk) m) (found phase g i q) less_wait
          ∙ struck_book place h.waiting bk inside book_room
          ∙ sym (sent_struck u (named g i) v (from phase g i q) (book_of bk h.waiting) names)

      figures_sent : figures_of (sent_in (Sent phase g i) h bk fg) o.gate.guests
          ≡ change g (sent_by phase (lies_ahead u (named g i)) (waited u (named g i) (book_of bk h.waiting))) (figures_of fg h.guests)
      figures_sent =
          ap (figures_of (sent_in (Sent phase g i) h bk fg)) guests_then
          ∙ sent_is phase h.guests g (ahead_in h bk (gone_from g i h bk)) (wait_in h bk (gone_from g i h bk)) fg (known phase g i q) its_row
          ∙ ap₂ (λ (a : Bool) (w : ℕ). change g (sent_by phase a w) (figures_of fg h.guests)) (ahead_is phase g i q) (wait_is phase g i q)

    -- ALL IS KEPT

    module _ (low : (g : ℕ) → figure_at fg g LOWER < 2 ^ 64) (late : h.time < 2 ^ 64) where
      kept_by : (a : Answer) → (choice u).answer ≡ a → Kept (n + 1) o.gate ws (struck_in a h bk) (sent_in a h bk fg)
      kept_by Nothing q = kept_nothing q
      kept_by (Sent phase g i) q = kept_sent phase g i q (low g) late
      kept_by (Refused r) q = absurd (choice_refuses_none u r q)

      pub kept-after : Kept (n + 1) o.gate ws (struck_in o.answer h bk) (sent_in o.answer h bk fg)
      kept-after = kept_by o.answer (sym y.answers)

      -- and the page is that of the definitions
      module _ (e : Event) (b : Page) (eb : book_of bk h.waiting ≡ noted e b.book) (ef : figures_of fg h.guests ≡ counted e b.figures) where
        page_by : (a : Answer) → (choice u).answer ≡ a → page_of o.gate gs ws fs (struck_in a h bk) (sent_in a h bk fg) ≡ booked a e u v b
        unfolding booked
        page_by Nothing q = λ j. record { table = shown j; book = (ap (book_of bk) (same-waits q) ∙ eb) j; figures = (ap (figures_of fg) guests_then ∙ ef) j }
        page_by (Sent phase g i) q = λ j.
            record {
              table = shown j;
              book = (book_sent phase g i q (low g) late ∙ ap (struck (named g i)) eb) j;
              figures =
                  (figures_sent phase g i q (low g) late
                  ∙ ap₂ (λ (c : List Entry) (f : List Figures). change g (sent_by phase (lies_ahead u (named g i)) (waited u (named g i) c)) f) eb ef) j;
            }
        page_by (Refused r) q = absurd (choice_refuses_none u r q)

        pub page-after : page_of o.gate gs ws fs (struck_in o.answer h bk) (sent_in o.answer h bk fg) ≡ booked (choice u).answer e u v b
        page-after = page_by o.answer (sym y.answers) ∙ ap (λ (a : Answer). booked a e u v b) y.answers
