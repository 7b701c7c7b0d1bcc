-- A table written over lent numbers is shown by them again, and is known as before. Assumes nothing.
use Prim.Native.Nat.{ℕ, ◌*◌, ◌≤◌}
use mathlib.Core.Path.{◌≡◌, sym, ap, ◌∙◌}
use mathlib.Core.Bool.{true}
use mathlib.Core.List.{List}
use native.Mathlib.Omega.{arith}
use lib.ListN.{length}
use Rattle.lists.specs.Rows.{over_rows}
use Rattle.lists.specs.RowsLaws.{length-rows, length-over-rows, rows-over, over_twice, over_unused, over-same, all_used}
use Rattle.rules.specs.Tables.{Table}
use Rattle.rules.specs.Sound.{sound}
use Rattle.rules.proofs.Facts.{sound_is}
use Rattle.rules.proofs.SameSettings.{SameSettings, same_count}
use Rattle.rules.specs.declared.Gate.{Gate}
use Rattle.table.specs.View.{gate_at, guest_form, request_form, flight_form, guests_of, table_of, gate_of, identified, Known}
use Rattle.table.specs.Does.{written}
use Rattle.table.specs.ViewLaws.{guest_exact, request_exact, flight_exact}
use Rattle.table.specs.Columns.{guest_wide, waiting_wide, flight_wide}

-- the lent tables have room for what the table u needs
pub record Room (gs ws fs : List ℕ) (u : Table) : Type 0 where
  pub guests : length u.guests * guest_wide ≤ length gs
  pub waiting : u.setup.capacity * waiting_wide ≤ length ws
  pub flight : u.setup.depth * flight_wide ≤ length fs

module _ (gs ws fs : List ℕ) (u : Table) (room : Room gs ws fs u) (firm : sound u ≡ true) where
  abbrev hs : List ℕ
  hs = over_rows guest_form (length u.guests) u.guests gs

  abbrev vs : List ℕ
  vs = over_rows request_form u.setup.capacity u.waiting ws

  abbrev es : List ℕ
  es = over_rows flight_form u.setup.depth u.flight fs

  -- what was written is shown
  pub written-shown : table_of (gate_of u) hs vs es ≡ u
  written-shown =
      let s = sound_is u firm in
      let pg = rows-over guest_form guest_exact (length u.guests) u.guests gs room.guests (omega arith) in
      let pw = rows-over request_form request_exact u.setup.capacity u.waiting ws room.waiting s.waiting-fits in
      let pf = rows-over flight_form flight_exact u.setup.depth u.flight fs room.flight s.flight_fits in
      λ i. record { setup = u.setup; time = u.time; guests = pg i; waiting = pw i; flight = pf i }

  -- and is known
  pub written_known : identified u ≡ true → Known (gate_of u) hs vs es
  written_known ids =
      let s = sound_is u firm in
      record {
        guest_room = rw (length-over-rows guest_form guest_exact (length u.guests) u.guests gs) room.guests;
        waiting_room = rw (length-over-rows request_form request_exact u.setup.capacity u.waiting ws) room.waiting;
        flight_room = rw (length-over-rows flight_form flight_exact u.setup.depth u.flight fs) room.flight;
        is_sound = ap sound written-shown ∙ firm;
        is_identified = ap identified written-shown ∙ ids;
        whole = record {
          waiting_unused = over_unused request_form request_exact u.setup.capacity u.waiting ws room.waiting s.waiting-fits;
          flight_unused = over_unused flight_form flight_exact u.setup.depth u.flight fs room.flight s.flight_fits;
        };
      }

  -- a table of the same settings written over the written numbers is written over the first ones
  pub written-again : (v : Table) → SameSettings v u → written hs vs es v ≡ written gs ws fs v
  written-again v c =
      let pg : over_rows guest_form (length v.guests) v.guests hs ≡ over_rows guest_form (length v.guests) v.guests gs =
      rw (same_count v u c) (over_twice guest_form guest_exact (length u.guests) v.guests u.guests gs room.guests) in
      let pw : over_rows request_form v.setup.capacity v.waiting vs ≡ over_rows request_form v.setup.capacity v.waiting ws =
      rw c.setup (over_twice request_form request_exact u.setup.capacity v.waiting u.waiting ws room.waiting) in
      let pf : over_rows flight_form v.setup.depth v.flight es ≡ over_rows flight_form v.setup.depth v.flight fs =
      rw c.setup (over_twice flight_form flight_exact u.setup.depth v.flight u.flight fs room.flight) in
      λ i. (gate_of v, pg i, pw i, pf i)

module _ (g : Gate) (gs ws fs : List ℕ) (k : Known g gs ws fs) where
  abbrev t : Table
  t = table_of g gs ws fs

  -- the lent tables have room for any table of these settings
  pub known-room : (u : Table) → SameSettings u t → Room gs ws fs u
  known-room u a =
      record {
        guests = rw (same_count u t a, length-rows guest_form gs g.guests) k.guest_room;
        waiting = rw a.setup k.waiting_room;
        flight = rw a.setup k.flight_room;
      }

  -- what is known is its own table, written over it
  pub known_written : (g, gs, ws, fs) ≡ written gs ws fs t
  known_written =
      let eg = length-rows guest_form gs g.guests in
      let ew = length-rows request_form ws g.waiting in
      let ef = length-rows flight_form fs g.flight in
      let pg = ap (λ (n : ℕ). over_rows guest_form n (guests_of gs g.guests) gs) eg ∙ over-same guest_form guest_exact g.guests g.guests gs (all_used guest_form guest_exact g.guests gs) in
      let pw = over-same request_form request_exact g.setup.capacity g.waiting ws k.whole.waiting_unused in
      let pf = over-same flight_form flight_exact g.setup.depth g.flight fs k.whole.flight_unused in
      sym (λ i. (gate_at g.setup (eg i) g.time (ew i) (ef i), pg i, pw i, pf i))
