-- What a known table gives the functions, as facts about its numbers. Assumes nothing.
use Prim.Native.Nat.{ℕ, ◌+◌, ◌*◌, ◌≤◌, ◌<◌}
use mathlib.Core.Path.{◌≡◌, sym, ap, ◌∙◌}
use mathlib.Core.List.{List, map}
use native.Mathlib.Omega.{arith}
use lib.Dec.{ltb}
use lib.ListN.{length, get_or}
use borrow.Author.Tests.{ltb-true}
use Rattle.lists.specs.Words.{all}
use Rattle.lists.specs.WordsLaws.{both, all-at, all_parts, all_of_map}
use Rattle.lists.specs.Lines.{line_at}
use Rattle.lists.specs.RowsLaws.{length-rows, row-at}
use Rattle.rules.specs.Numbers.{ceiling}
use Rattle.rules.specs.Tables.{Request, Table, nobodys, owner, name}
use Rattle.rules.specs.Sound.{counted, settled, ranges, lawful}
use Rattle.rules.specs.Chosen.{blank, at}
use Rattle.rules.specs.Refused.{Countable, Good}
use Rattle.rules.proofs.Facts.{Sound, sound_is, Lawful, lawful_is, waiting-known}
use Rattle.rules.proofs.Conditions.{counted_means, settled-good}
use Rattle.rules.specs.declared.Gate.{Gate}
use Rattle.table.specs.View.{guest_form, request_form, flight_form, guests_of, waiting_of, table_of, Known}
use Rattle.table.specs.Columns.{guest_wide, waiting_wide, flight_wide, most_depth, most_capacity, GUEST, ID}

-- what is known of the numbers of a known table
pub record Facts (g : Gate) (gs ws fs : List ℕ) : Type 0 where
  pub firm : Sound (table_of g gs ws fs)
  pub counts : Countable g.setup.depth g.guests g.setup.capacity
  pub waits : g.waiting ≤ g.setup.capacity
  pub flies : g.flight ≤ g.setup.depth
  pub timed : g.time ≤ ceiling
  pub owners : (j : ℕ) → j < g.waiting → get_or ws (j * waiting_wide + GUEST) 0 < g.guests
  pub ids : (j : ℕ) → j < g.waiting → get_or ws (j * waiting_wide + ID) 0 < 4294967296
  pub lawfuls : (j : ℕ) → j < g.waiting → Lawful (at (waiting_of ws g.waiting) j)
  pub settles : (i : ℕ) → i < g.guests → Good (owner (guests_of gs g.guests) i).settings

module _ (g : Gate) (gs ws fs : List ℕ) (k : Known g gs ws fs) where
  abbrev t : Table
  t = table_of g gs ws fs

  -- row j of the waiting table, as its numbers
  pub row_is : (j : ℕ) → j < g.waiting → at (waiting_of ws g.waiting) j ≡ request_form.read (line_at waiting_wide ws j)
  row_is j h = row-at request_form ws g.waiting j h

  -- guest i, as its numbers
  pub guest_is : (i : ℕ) → i < g.guests → owner (guests_of gs g.guests) i ≡ guest_form.read (line_at guest_wide gs i)
  guest_is i h = row-at guest_form gs g.guests i h

  -- it is one of those that wait
  inside : (j : ℕ) → j < g.waiting → j < length (waiting_of ws g.waiting)
  inside j h = omega (arith, length-rows request_form ws g.waiting)

  -- and all of it
  pub facts : Facts g gs ws fs
  unfolding ranges
  facts =
      let s = sound_is t k.is_sound in
      let n = length-rows guest_form gs g.guests in
      let r = both (counted g.setup.depth (length t.guests) g.setup.capacity) (all (λ h. settled h.settings) t.guests) s.in_range in
      let named = (all_parts (λ f. ltb f.id 4294967296) (map name t.waiting) t.flight k.is_identified).0 in
      record {
        firm = s;
        counts = (counted_means g.setup.depth g.guests g.setup.capacity).holds.0 (rw n at r.0);
        waits = omega (arith, s.waiting-fits, length-rows request_form ws g.waiting);
        flies = omega (arith, s.flight_fits, length-rows flight_form fs g.flight);
        timed = s.time_fits;
        owners =
            λ j h.
            let l = ltb-true (at t.waiting j).guest (length t.guests) (all-at (λ q. ltb q.guest (length t.guests)) t.waiting blank (waiting-known t s) j (inside j h)) in
            omega (arith, l, n, ap (λ (q : Request). q.guest) (row_is j h));
        ids =
            λ j h.
            let l = ltb-true (at t.waiting j).id 4294967296 (all-at (λ q. ltb q.id 4294967296) t.waiting blank (sym (all_of_map (λ f. ltb f.id 4294967296) name t.waiting) ∙ named) j (inside j h)) in
            omega (arith, l, ap (λ (q : Request). q.id) (row_is j h));
        lawfuls = λ j h. lawful_is (at t.waiting j) (all-at lawful t.waiting blank s.tags_fit j (inside j h));
        settles = λ i h. (settled-good (owner t.guests i).settings).0 (all-at (λ h. settled h.settings) t.guests nobodys r.1 i (omega (arith, n)));
      }

-- what a walk over the waiting rows asks
pub rows_ask : (g : Gate) (gs ws fs : List ℕ) → Known g gs ws fs → (g.waiting ≤ most_capacity) × (g.waiting * waiting_wide ≤ length ws)
rows_ask g gs ws fs k = let f = facts g gs ws fs k in (omega (arith, f.waits, f.counts.capacities.1), omega (arith, f.waits, k.waiting_room))

-- what the search in flight asks
pub flight_asks : (g : Gate) (gs ws fs : List ℕ) → Known g gs ws fs → (g.flight ≤ most_depth) × (g.flight * flight_wide ≤ length fs)
flight_asks g gs ws fs k = let f = facts g gs ws fs k in (omega (arith, f.flies, f.counts.depths.1), omega (arith, f.flies, k.flight_room))
