-- An event that entered can be noted and counted; then the book and the figures are those of the definitions, and each waiting request has its note.
-- Assumes nothing.
use Prim.Native.Nat.{ℕ, ◌+◌, ◌-◌, ◌*◌, ◌^◌, ◌≤◌, ◌<◌}
use mathlib.Core.Path.{◌≡◌, refl, sym, ap, ◌∙◌, subst}
use mathlib.Core.List.{List}
use mathlib.Core.Logic.{◌⊎◌, inl, inr, ⊎_elim}
use native.Mathlib.Omega.{arith}
use lib.Dec.{lit<, lit≤}
use lib.ListN.{length}
use Rattle.lists.specs.Tab.{lt_or_le, eq_or_not}
use Rattle.rules.specs.declared.Gate.{Gate}
use Rattle.rules.specs.declared.Arriving.{Arriving}
use Rattle.rules.specs.declared.Event.{Event}
use Rattle.rules.specs.declared.Event.TheVariants.{Arrival, Completion, Tick}
use Rattle.table.specs.Columns.{GUEST, ID}
use Rattle.table.specs.View.{Known}
use Rattle.table.proofs.Facts.{facts, rows_ask}
use Rattle.book.specs.Book.{noted}
use Rattle.book.specs.Figures.{counted}
use Rattle.tally.specs.Columns.{SINCE, LIMITED, note_wide, ARRIVALS, COMPLETIONS, RESERVED, UPPER, figures_wide, note_at, figure_at}
use Rattle.tally.specs.Kept.{book_of, figures_of, Matches}
use Rattle.tally.specs.Notes.{one_more}
use Rattle.booked.specs.Turns.{last_note, noted_in, counted_in, Fits, Notable, standing, Entering, Noted}
use Rattle.tally.proofs.BookRows.{noted-below, noted_last, length-noted, noted_book}
use Rattle.tally.proofs.FigureRows.{one-here, one_beside, one-others, length-one, arrived_is, completed_is}

-- ONE MORE in a column that no send touches

module _ (n m g i : ℕ) (fg : List ℕ) (known : g < m) (room : m * figures_wide ≤ length fg) (inside : i < RESERVED) (few : (k j : ℕ) → k < m → j ≤ UPPER → figure_at fg k j ≤ n) where
  wide : i < figures_wide
  wide = omega arith

  row : g * figures_wide + figures_wide ≤ length fg
  row = omega arith

  pub few_after : (k j : ℕ) → k < m → j ≤ UPPER → figure_at (one_more g i fg) k j ≤ n + 1
  few_after k j h l = go (eq_or_not k g) (eq_or_not j i)
    where
      go : (k ≡ g) ⊎ (k ≡ g → ⊥) → (j ≡ i) ⊎ (j ≡ i → ⊥) → figure_at (one_more g i fg) k j ≤ n + 1
      go (inl e) (inl f) = rw (e, f) (omega (arith, one-here g i fg row wide, few g i known (omega arith)))
      go (inl e) (inr d) = rw e (omega (arith, one_beside g i fg row wide j d, few g j known l))
      go (inr d) f = omega (arith, one-others g i fg row wide k j d (omega arith), few k j h l)

  pub fewer_after : (k j : ℕ) → k < m → RESERVED ≤ j → j ≤ UPPER → figure_at (one_more g i fg) k j ≤ n
  fewer_after k j h b l = go (eq_or_not k g)
    where
      go : (k ≡ g) ⊎ (k ≡ g → ⊥) → figure_at (one_more g i fg) k j ≤ n
      go (inl e) = rw e (omega (arith, one_beside g i fg row wide j (λ f. omega arith), few g j known l))
      go (inr d) = omega (arith, one-others g i fg row wide k j d (omega arith), few k j h l)

-- one more fits
pub fits_one : (n x : ℕ) → n + 1 < 2 ^ 64 → x ≤ n → x + 1 < 2 ^ 64
fits_one n x h l = omega arith

module _ (n : ℕ) (h : Gate) (hs vs es bk fg : List ℕ) (k : Known h hs vs es) where
  few_wait : h.waiting ≤ h.setup.capacity
  few_wait = (facts h hs vs es k).waits

  few_guests : h.guests ≤ 64
  few_guests = (facts h hs vs es k).counts.guest-count.1

  -- THE ASKED

  -- one more fits into a column of a known guest
  fits-at : {e : Event} → Entering n e h vs bk fg → (g j : ℕ) → g < h.guests → j ≤ UPPER → Fits g j fg
  fits-at x g j l b = (omega (arith, few_guests), omega (arith, x.figures_room), fits_one n (figure_at fg g j) x.small (x.few g j l b))

  pub notable : (e : Event) → Entering n e h vs bk fg → Notable e h vs bk fg
  notable (Arrival a now) x =
      (x.brings.1, (rows_ask h hs vs es k).0, (rows_ask h hs vs es k).1, omega (arith, few_wait, x.book_room), fits-at x a.guest ARRIVALS x.brings.0 (lit≤ tt))
  notable (Completion f now) x = fits-at x f.guest COMPLETIONS x.brings (lit≤ tt)
  notable (Tick now) x = tt

  -- AN ARRIVAL

  module _ (a : Arriving) (now : ℕ) (x : Entering n (Arrival a now) h vs bk fg) where
    abbrev m : ℕ
    m = h.waiting - 1

    abbrev new : List ℕ
    new = noted_in (Arrival a now) h vs bk

    room : m * note_wide + note_wide ≤ length bk
    room = omega (arith, few_wait, x.book_room, x.brings.1)

    matches_last : Matches vs new m
    matches_last =
        record {
          guest = noted_last m (last_note a.guest a.id now h vs) bk room GUEST (lit< tt) ∙ sym x.brings.3;
          id = noted_last m (last_note a.guest a.id now h vs) bk room ID (lit< tt) ∙ sym x.brings.4;
          ltag = noted_last m (last_note a.guest a.id now h vs) bk room LIMITED (lit< tt);
        }

    matches_below : (j : ℕ) → j < m → Matches vs new j
    matches_below j l =
        record {
          guest = noted-below m (last_note a.guest a.id now h vs) bk room j GUEST l (lit< tt) ∙ (x.matches j l).guest;
          id = noted-below m (last_note a.guest a.id now h vs) bk room j ID l (lit< tt) ∙ (x.matches j l).id;
          ltag = noted-below m (last_note a.guest a.id now h vs) bk room j LIMITED l (lit< tt) ∙ (x.matches j l).ltag;
        }

    past_below : (j : ℕ) → j < m → note_at new j SINCE ≤ h.time
    past_below j l = omega (arith, noted-below m (last_note a.guest a.id now h vs) bk room j SINCE l (lit< tt), x.past j l)

    past_last : note_at new m SINCE ≤ h.time
    past_last = omega (arith, noted_last m (last_note a.guest a.id now h vs) bk room SINCE (lit< tt), x.brings.2)

    -- k is the last, or one before it
    at_last : (j : ℕ) → j < h.waiting → m ≤ j → m ≡ j
    at_last j l b = omega arith

    noting_arrival : Noted n h vs new (counted_in (Arrival a now) fg)
    noting_arrival =
        record {
          book_room = rw (length-noted m (last_note a.guest a.id now h vs) bk room) x.book_room;
          figures_room = rw (length-one a.guest ARRIVALS fg (omega (arith, x.figures_room, x.brings.0)) (lit< tt)) x.figures_room;
          matches = λ j l. ⊎_elim (matches_below j) (λ b. subst (Matches vs new) (at_last j l b) matches_last) (lt_or_le j m);
          past = λ j l. ⊎_elim (past_below j) (λ b. subst (λ (i : ℕ). note_at new i SINCE ≤ h.time) (at_last j l b) past_last) (lt_or_le j m);
          few = few_after n h.guests a.guest ARRIVALS fg x.brings.0 x.figures_room (lit< tt) x.few;
          fewer = fewer_after n h.guests a.guest ARRIVALS fg x.brings.0 x.figures_room (lit< tt) x.few;
          small = x.small;
        }

    book_arrival : book_of new h.waiting ≡ noted (Arrival a now) (book_of bk m)
    book_arrival =
        let e : h.waiting ≡ m + 1 = omega (arith, x.brings.1) in
        ap (book_of new) e ∙ noted_book m (last_note a.guest a.id now h vs) bk room

  -- WHAT IS KNOWN THEN

  pub noting : (e : Event) → Entering n e h vs bk fg → Noted n h vs (noted_in e h vs bk) (counted_in e fg)
  noting (Arrival a now) x = noting_arrival a now x
  noting (Completion f now) x =
      record {
        book_room = x.book_room;
        figures_room = rw (length-one f.guest COMPLETIONS fg (omega (arith, x.figures_room, x.brings)) (lit< tt)) x.figures_room;
        matches = x.matches;
        past = x.past;
        few = few_after n h.guests f.guest COMPLETIONS fg x.brings x.figures_room (lit< tt) x.few;
        fewer = fewer_after n h.guests f.guest COMPLETIONS fg x.brings x.figures_room (lit< tt) x.few;
        small = x.small;
      }
  noting (Tick now) x =
      record {
        book_room = x.book_room;
        figures_room = x.figures_room;
        matches = x.matches;
        past = x.past;
        few = λ i j l b. omega (arith, x.few i j l b);
        fewer = λ i j l a b. x.few i j l b;
        small = x.small;
      }

  -- AND SHOWN

  pub noted-shown : (e : Event) → Entering n e h vs bk fg → book_of (noted_in e h vs bk) h.waiting ≡ noted e (book_of bk (standing e h))
  noted-shown (Arrival a now) x = book_arrival a now x
  noted-shown (Completion f now) x = refl
  noted-shown (Tick now) x = refl

  pub counted-shown : (e : Event) → Entering n e h vs bk fg → figures_of (counted_in e fg) h.guests ≡ counted e (figures_of fg h.guests)
  counted-shown (Arrival a now) x = arrived_is h.guests a.guest fg x.brings.0 (omega (arith, x.figures_room, x.brings.0))
  counted-shown (Completion f now) x = completed_is h.guests f.guest fg x.brings (omega (arith, x.figures_room, x.brings))
  counted-shown (Tick now) x = refl
