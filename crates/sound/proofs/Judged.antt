-- Soundness of lent numbers as facts, one for each test of the code: what `sound_numbers` says, and the way back. Assumes nothing.
use Prim.Native.Nat.{ℕ, ◌≤◌}
use mathlib.Core.Path.{◌≡◌, refl, sym, ◌∙◌}
use mathlib.Core.Bool.{Bool, true, false, ◌&&◌, true≢false}
use mathlib.Core.List.{List, map}
use native.Mathlib.Omega.{arith}
use lib.Dec.{ltb}
use lib.ListN.{length}
use Rattle.lists.specs.Words.{all, below}
use Rattle.lists.specs.WordsLaws.{both, join, all_both, both_all, all_append, all_parts, all_of_map, at-below, below_at}
use Rattle.lists.specs.RowsLaws.{length-rows}
use Rattle.rules.specs.Numbers.{ceiling}
use Rattle.rules.specs.Tables.{Table, name, names, owner, mine}
use Rattle.rules.specs.declared.Flight.{Flight}
use Rattle.rules.specs.Sound.{counted, ranges, ruled, lawful, priced, distinct, orderly, sound}
use Rattle.rules.specs.declared.Gate.{Gate}
use Rattle.rules.proofs.Facts.{sound_is, is_sound}
use Rattle.table.specs.Columns.{flight_wide, waiting_wide}
use Rattle.table.specs.View.{guest_form, request_form, flight_form, guests_of, waiting_of, flights_of, table_of, countable, identified, zeroed, sound_numbers}
use Rattle.entries.specs.Tests.{settled_guest, named, fits}
use Rattle.pairs.specs.Names.{names_of}

-- the order of guest g
abbrev pub in_order : Gate → (gs ws : List ℕ) → ℕ → Bool
in_order gate gs ws g = orderly (owner (guests_of gs gate.guests) g) (mine g (waiting_of ws gate.waiting))

-- the rules, in the order of the code
pub record Judged (gate : Gate) (gs ws fs : List ℕ) : Type 0 where
  pub is_counted : countable gate ≡ true
  pub is_ruled : ruled gate.setup.rule ≡ true
  pub is_settled : all settled_guest (guests_of gs gate.guests) ≡ true
  pub waits : gate.waiting ≤ gate.setup.capacity
  pub flies : gate.flight ≤ gate.setup.depth
  pub timed : gate.time ≤ ceiling
  pub is_named : all (λ q. named gate.guests (name q)) (waiting_of ws gate.waiting) ≡ true
  pub is_flown : all (named gate.guests) (flights_of fs gate.flight) ≡ true
  pub once : distinct (names_of ws gate.waiting fs gate.flight) ≡ true
  pub is_fit : all fits (waiting_of ws gate.waiting) ≡ true
  pub is_orderly : below gate.guests (in_order gate gs ws) ≡ true
  pub is_clear : zeroed waiting_wide gate.setup.capacity gate.waiting ws && zeroed flight_wide gate.setup.depth gate.flight fs ≡ true

-- a name's guest exists, and its id has 32 bits
abbrev there : ℕ → Flight → Bool
there n f = ltb f.guest n

abbrev short : Flight → Bool
short f = ltb f.id 4294967296

module _ (gate : Gate) (gs ws fs : List ℕ) where
  abbrev t : Table
  t = table_of gate gs ws fs

  -- as many guests as the gate says
  size : length (guests_of gs gate.guests) ≡ gate.guests
  size = length-rows guest_form gs gate.guests

  -- what the definition says
  pub judged_is : sound_numbers gate gs ws fs ≡ true → Judged gate gs ws fs
  unfolding sound_numbers ranges
  judged_is h =
      let h4 = both (sound t && identified t && zeroed waiting_wide gate.setup.capacity gate.waiting ws) (zeroed flight_wide gate.setup.depth gate.flight fs) h in
      let h3 = both (sound t && identified t) (zeroed waiting_wide gate.setup.capacity gate.waiting ws) h4.0 in
      let h2 = both (sound t) (identified t) h3.0 in
      let s = sound_is t h2.0 in
      let r = both (counted gate.setup.depth (length t.guests) gate.setup.capacity) (all settled_guest t.guests) s.in_range in
      let n = all_both (there gate.guests) short (names t) (rw size at s.guests_known) h2.1 in
      let m = all_parts (named gate.guests) (map name t.waiting) t.flight n in
      record {
        is_counted = rw size at r.0;
        is_ruled = s.rule_known;
        is_settled = r.1;
        waits = omega (arith, s.waiting-fits, length-rows request_form ws gate.waiting);
        flies = omega (arith, s.flight_fits, length-rows flight_form fs gate.flight);
        timed = s.time_fits;
        is_named = sym (all_of_map (named gate.guests) name t.waiting) ∙ m.0;
        is_flown = m.1;
        once = s.names_once;
        is_fit = all_both lawful priced t.waiting s.tags_fit s.costs_fit;
        is_orderly = at-below gate.guests (in_order gate gs ws) (λ g k. s.guests_orderly g (rw size k));
        is_clear = join h3.1 h4.1;
      }

  -- and the way back
  pub is_judged : Judged gate gs ws fs → sound_numbers gate gs ws fs ≡ true
  unfolding sound_numbers ranges
  is_judged j =
      let n = all_append (named gate.guests) (map name t.waiting) t.flight (all_of_map (named gate.guests) name t.waiting ∙ j.is_named) j.is_flown in
      let fit = both_all lawful priced t.waiting j.is_fit in
      let m = both_all (there gate.guests) short (names t) n in
      let e : counted gate.setup.depth (length t.guests) gate.setup.capacity ≡ true = rw size j.is_counted in
      let s =
      is_sound t
      (record {
        in_range = join e j.is_settled;
        rule_known = j.is_ruled;
        waiting-fits = omega (arith, j.waits, length-rows request_form ws gate.waiting);
        flight_fits = omega (arith, j.flies, length-rows flight_form fs gate.flight);
        time_fits = j.timed;
        guests_known = rw size m.0;
        names_once = j.once;
        tags_fit = fit.0;
        costs_fit = fit.1;
        guests_orderly = λ g k. below_at gate.guests (in_order gate gs ws) j.is_orderly g (rw size at k);
      })
      in
      let z = both (zeroed waiting_wide gate.setup.capacity gate.waiting ws) (zeroed flight_wide gate.setup.depth gate.flight fs) j.is_clear in
      join (join (join s m.1) z.0) z.1

  -- a test that fails
  pub unsound : (Judged gate gs ws fs → ⊥) → false ≡ sound_numbers gate gs ws fs
  unsound h = go (sound_numbers gate gs ws fs) refl
    where
      go : (b : Bool) → sound_numbers gate gs ws fs ≡ b → false ≡ b
      go true e = absurd (h (judged_is e))
      go false e = refl

  -- a test that decides the rest
  pub decided : (b : Bool) → (b ≡ true → Judged gate gs ws fs) → (Judged gate gs ws fs → b ≡ true) → b ≡ sound_numbers gate gs ws fs
  decided true p q = sym (is_judged (p refl))
  decided false p q = unsound (λ j. true≢false (sym (q j)))
