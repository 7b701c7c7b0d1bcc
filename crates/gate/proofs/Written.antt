-- A table written over what was lent, in any way, is shown by it again, long enough and sound as before. Assumes nothing.
use Prim.Native.Nat.{ℕ, ◌*◌, ◌≤◌}
use mathlib.Core.Path.{◌≡◌, sym, ap, ◌∙◌}
use mathlib.Core.Bool.{true, false, ◌&&◌, and-false}
use mathlib.Core.List.{List}
use native.Mathlib.Omega.{arith}
use lib.ListN.{length, replicate, length-replicate}
use borrow.Author.Tests.{le-ltb}
use Rattle.lists.specs.Rows.{over_rows}
use Rattle.lists.specs.RowsLaws.{length-over-rows}
use Rattle.rules.specs.Tables.{Table}
use Rattle.rules.specs.Sound.{sound}
use Rattle.rules.specs.Choice.{Result}
use Rattle.table.specs.Columns.{guest_wide, waiting_wide, flight_wide}
use Rattle.table.specs.View.{guest_form, request_form, flight_form, gate_of, countable, identified, zeroed, sound_numbers}
use Rattle.table.specs.ViewLaws.{request_exact, flight_exact}
use Rattle.table.proofs.Lens.{Room, written-shown, written_known}
use Rattle.sound.proofs.SoundKnown.{known-sound}
use Rattle.gate.specs.Promise.{Lending, table_in, handed_in, short_in, sound_in}
use Rattle.gate.specs.Calls.{Host, holds, shows}
use Rattle.gate.proofs.Lending.{Lawful}

-- what a host holds is long enough and sound
pub record Holds (v : Lending) (h : Host v) : Type 0 where
  pub long : short_in v h.gate h.guests h.waiting h.flight ≡ false
  pub whole : sound_in v h.gate h.guests h.waiting h.flight ≡ true

module _ (v : Lending) (lawful : Lawful v) (gs : List v.Cell) (ws fs : List ℕ) (r : Result)
    (guest-room : v.needs (length r.table.guests) ≤ length gs) (waiting-room : r.table.setup.capacity * waiting_wide ≤ length ws) (flight_room : r.table.setup.depth * flight_wide ≤ length fs)
    (firm : sound r.table ≡ true) where
  abbrev u : Table
  u = r.table

  -- the same table over numbers
  abbrev zs : List ℕ
  zs = replicate (length u.guests * guest_wide) 0

  room : Room zs ws fs u
  room = record { guests = omega (arith, length-replicate {A = ℕ} (length u.guests * guest_wide) 0); waiting = waiting-room; flight = flight_room }

  abbrev vs : List ℕ
  vs = over_rows request_form u.setup.capacity u.waiting ws

  abbrev es : List ℕ
  es = over_rows flight_form u.setup.depth u.flight fs

  table-shown : table_in v (gate_of u) (v.over u.guests gs) vs es ≡ u
  table-shown =
      let p = lawful.shown u.guests gs guest-room in
      let q = written-shown zs ws fs u room firm in
      λ i. record { setup = u.setup; time = u.time; guests = p i; waiting = (q i).waiting; flight = (q i).flight }

  -- what was written is shown
  pub handed-shown : shows v (holds v (handed_in v gs ws fs r)) ≡ r.table
  unfolding handed_in
  handed-shown = table-shown

  still_long : short_in v (gate_of u) (v.over u.guests gs) vs es ≡ false
  unfolding short_in
  still_long =
      rw (le-ltb (length (v.over u.guests gs)) (v.needs (length u.guests)) (rw (lawful.keeps u.guests gs guest-room) guest-room), le-ltb (length vs) (u.setup.capacity * waiting_wide) (rw (length-over-rows request_form request_exact u.setup.capacity u.waiting ws) waiting-room), le-ltb (length es) (u.setup.depth * flight_wide) (rw (length-over-rows flight_form flight_exact u.setup.depth u.flight fs) flight_room))
      (and-false (countable (gate_of u)))

  still_sound : identified u ≡ true → sound_in v (gate_of u) (v.over u.guests gs) vs es ≡ true
  unfolding sound_in sound_numbers
  still_sound ids =
      ap (λ (x : Table). sound x && identified x && zeroed waiting_wide u.setup.capacity (length u.waiting) vs && zeroed flight_wide u.setup.depth (length u.flight) es)
      (table-shown ∙ sym (written-shown zs ws fs u room firm))
      ∙ known-sound (gate_of u) (over_rows guest_form (length u.guests) u.guests zs) vs es (written_known zs ws fs u room firm ids)

  -- and is long enough and sound again
  pub handed-holds : identified r.table ≡ true → Holds v (holds v (handed_in v gs ws fs r))
  unfolding handed_in
  handed-holds ids = record { long = still_long; whole = still_sound ids }
