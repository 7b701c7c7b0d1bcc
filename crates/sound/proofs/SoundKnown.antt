-- THE TEST AND WHAT A CALL RELIES ON: numbers that the test calls sound are known, and numbers that are known the test calls sound. Assumes nothing.
use mathlib.Core.Path.{◌≡◌}
use mathlib.Core.Bool.{true, ◌&&◌}
use mathlib.Core.List.{List}
use Prim.Native.Nat.{ℕ, ◌≤◌}
use native.Mathlib.Omega.{arith}
use lib.Dec.{lit<}
use Rattle.lists.specs.WordsLaws.{both, join}
use Rattle.lists.specs.RowsLaws.{length-rows}
use Rattle.rules.specs.Sound.{sound}
use Rattle.rules.specs.declared.Gate.{Gate}
use Rattle.rules.proofs.Facts.{sound_is}
use Rattle.table.specs.Columns.{flight_wide, waiting_wide}
use Rattle.table.specs.View.{request_form, flight_form, table_of, identified, zeroed, sound_numbers, Known}
use Rattle.sound.specs.Fitting.{Fitting}
use Rattle.sound.proofs.Zeros.{zeroed_unused, unused_zeroed}

-- the counts of a sound table do not exceed capacity and depth
record Roomy (g : Gate) : Type 0 where
  waits : g.waiting ≤ g.setup.capacity
  flies : g.flight ≤ g.setup.depth

-- by the rule of counts
roomy : (g : Gate) (gs ws fs : List ℕ) → sound (table_of g gs ws fs) ≡ true → Roomy g
roomy g gs ws fs h =
    let s = sound_is (table_of g gs ws fs) h in
    record {
      waits = omega (arith, s.waiting-fits, length-rows request_form ws g.waiting);
      flies = omega (arith, s.flight_fits, length-rows flight_form fs g.flight);
    }

module _ (g : Gate) (gs ws fs : List ℕ) where
  -- what the test finds sound, a call may rely on
  pub sound-known : Fitting g gs ws fs → sound_numbers g gs ws fs ≡ true → Known g gs ws fs
  unfolding sound_numbers
  sound-known f h =
      let t = table_of g gs ws fs in
      let h4 = both (sound t && identified t && zeroed waiting_wide g.setup.capacity g.waiting ws) (zeroed flight_wide g.setup.depth g.flight fs) h in
      let h3 = both (sound t && identified t) (zeroed waiting_wide g.setup.capacity g.waiting ws) h4.0 in
      let h2 = both (sound t) (identified t) h3.0 in
      let r = roomy g gs ws fs h2.0 in
      record {
        guest_room = f.guest_room;
        waiting_room = f.waiting_room;
        flight_room = f.flight_room;
        is_sound = h2.0;
        is_identified = h2.1;
        whole = record {
          waiting_unused = zeroed_unused waiting_wide g.setup.capacity g.waiting (lit< tt) ws f.waiting_room r.waits h3.1;
          flight_unused = zeroed_unused flight_wide g.setup.depth g.flight (lit< tt) fs f.flight_room r.flies h4.1;
        };
      }

  -- and what a call may rely on, the test finds sound
  pub known-sound : Known g gs ws fs → sound_numbers g gs ws fs ≡ true
  unfolding sound_numbers
  known-sound k =
      let r = roomy g gs ws fs k.is_sound in
      join (join (join k.is_sound k.is_identified) (unused_zeroed waiting_wide g.setup.capacity g.waiting (lit< tt) ws k.waiting_room r.waits k.whole.waiting_unused))
      (unused_zeroed flight_wide g.setup.depth g.flight (lit< tt) fs k.flight_room r.flies k.whole.flight_unused)
