-- What holds of every way in which guests are lent, and that it holds of numbers; and what a call hands back, by what is found of the lent
-- tables. Assumes nothing.
use Prim.Native.Nat.{ℕ, ◌*◌, ◌≤◌}
use mathlib.Core.Path.{◌≡◌, refl, sym, ap, ◌∙◌}
use mathlib.Core.Bool.{Bool, true, false, not, ◌&&◌, ◌||◌, true≢false}
use mathlib.Core.List.{List, map}
use native.Mathlib.Omega.{arith}
use lib.Dec.{ltb}
use lib.ListN.{length, take, drop, replicate, length-replicate}
use borrow.Author.Tests.{ltb-false, not-false}
use Rattle.lists.specs.WordsLaws.{both, neither}
use Rattle.lists.specs.Rows.{Form, over_rows, Exact}
use Rattle.lists.specs.RowsLaws.{length-rows, length-over-rows, rows-over}
use Rattle.lists.specs.AlikeLaws.{over_beyond, alike_rows, rows_alike}
use Rattle.rules.specs.Tables.{Table}
use Rattle.rules.specs.Sound.{counted, sound}
use Rattle.rules.specs.declared.Event.{Event}
use Rattle.rules.specs.declared.Guest.{Guest}
use Rattle.rules.specs.Refusals.{accept, is_accept, tests, open_tests, verdict}
use Rattle.rules.specs.declared.Gate.{Gate}
use Rattle.rules.specs.declared.Refusal.TheVariants.{ShortTable, Unsound}
use Rattle.rules.specs.declared.Answer.TheVariants.{Refused}
use Rattle.rules.proofs.Judged.{passed}
use Rattle.table.specs.Columns.{guest_wide, settings_wide, waiting_wide, flight_wide}
use Rattle.table.specs.View.{guest_form, guests_of, waiting_of, flights_of, table_of, countable, identified, zeroed, sound_numbers}
use Rattle.table.specs.ViewLaws.{guest_exact}
use Rattle.sound.proofs.Judged.{Judged, judged_is}
use Rattle.gate.specs.Promise.{Lending, numbers, table_in, short_in, sound_in, unchanged_in, judged_in, called_in, settings_in, open_short_in, opening_in}

-- entries written over a list leave what stands past them
pub rows_beyond : {A : Type 0} (f : Form A) → Exact f → (cap : ℕ) (l : List A) (xs : List ℕ) → drop (cap * f.wide) (over_rows f cap l xs) ≡ drop (cap * f.wide) xs
unfolding over_rows
rows_beyond f x cap l xs = over_beyond f.wide cap x.some (map f.line l) xs

-- THE LAWS of lending
pub record Lawful (v : Lending) : Type 0 where
  -- as many guests are shown as are asked for
  pub counts : (gs : List v.Cell) (n : ℕ) → length (v.shows gs n) ≡ n
  -- lists that are alike in what n guests need show the same
  pub reads : (n : ℕ) (gs hs : List v.Cell) → take (v.needs n) gs ≡ take (v.needs n) hs → v.shows gs n ≡ v.shows hs n
  -- and stay so where guests are written over both
  pub writes : (l : List Guest) (gs hs : List v.Cell) → take (v.needs (length l)) gs ≡ take (v.needs (length l)) hs
      → take (v.needs (length l)) (v.over l gs) ≡ take (v.needs (length l)) (v.over l hs)
  -- guests that there is room for, written over a list: it is as long as before, what stands past them stays, and they are shown
  pub keeps : (l : List Guest) (gs : List v.Cell) → v.needs (length l) ≤ length gs → length (v.over l gs) ≡ length gs
  pub beyond : (l : List Guest) (gs : List v.Cell) → v.needs (length l) ≤ length gs → drop (v.needs (length l)) (v.over l gs) ≡ drop (v.needs (length l)) gs
  pub shown : (l : List Guest) (gs : List v.Cell) → v.needs (length l) ≤ length gs → v.shows (v.over l gs) (length l) ≡ l

-- numbers are lent so
pub numbers-lawful : Lawful numbers
numbers-lawful = record {
  counts = length-rows guest_form;
  reads = alike_rows guest_form;
  writes = λ l gs hs e. rows_alike guest_form (length l) gs hs e guest_exact l;
  keeps = λ l gs room. length-over-rows guest_form guest_exact (length l) l gs;
  beyond = λ l gs room. rows_beyond guest_form guest_exact (length l) l gs;
  shown = λ l gs room. rows-over guest_form guest_exact (length l) l gs room (omega arith);
}

-- guests as numbers, with room for them and no more
abbrev pub stood : List Guest → List ℕ
stood hs = over_rows guest_form (length hs) hs (replicate (length hs * guest_wide) 0)

module _ (v : Lending) (lawful : Lawful v) (g : Gate) (gs : List v.Cell) (ws fs : List ℕ) where
  abbrev t : Table
  t = table_in v g gs ws fs

  abbrev xs : List ℕ
  xs = stood (v.shows gs g.guests)

  -- those numbers show the same table
  same-table : table_of g xs ws fs ≡ t
  same-table =
      let hs = v.shows gs g.guests in
      let p : guests_of xs g.guests ≡ hs =
      ap (guests_of xs) (sym (lawful.counts gs g.guests))
      ∙ rows-over guest_form guest_exact (length hs) hs (replicate (length hs * guest_wide) 0) (omega (arith, length-replicate {A = ℕ} (length hs * guest_wide) 0)) (omega arith) in
      λ i. record { setup = g.setup; time = g.time; guests = p i; waiting = waiting_of ws g.waiting; flight = flights_of fs g.flight }

  same-sound : sound_numbers g xs ws fs ≡ sound_in v g gs ws fs
  unfolding sound_numbers sound_in
  same-sound =
      ap (λ (u : Table). sound u && identified u && zeroed waiting_wide g.setup.capacity g.waiting ws && zeroed flight_wide g.setup.depth g.flight fs) same-table

  -- lent tables that are sound, in plain facts
  pub sound-judged : sound_in v g gs ws fs ≡ true → Judged g xs ws fs
  sound-judged h = judged_is g xs ws fs (same-sound ∙ h)

  -- they show a sound table, with ids of 32 bits
  pub sound-shown : sound_in v g gs ws fs ≡ true → (sound t ≡ true) × (identified t ≡ true)
  unfolding sound_in
  sound-shown h =
      let a = both (sound t && identified t && zeroed waiting_wide g.setup.capacity g.waiting ws) (zeroed flight_wide g.setup.depth g.flight fs) h in
      let b = both (sound t && identified t) (zeroed waiting_wide g.setup.capacity g.waiting ws) a.0 in
      both (sound t) (identified t) b.0

  -- counts out of range "give 3 at once"
  pub uncounted_in : countable g ≡ false → (short_in v g gs ws fs ≡ false) × (sound_in v g gs ws fs ≡ false)
  unfolding short_in
  uncounted_in c = (rw c refl, go (sound_in v g gs ws fs) refl)
    where
      go : (b : Bool) → sound_in v g gs ws fs ≡ b → b ≡ false
      go true h = absurd (true≢false (sym (sound-judged h).is_counted ∙ c))
      go false h = refl

  -- tables that are long enough have room
  pub record Roomy : Type 0 where
    pub guest_room : v.needs g.guests ≤ length gs
    pub waiting_room : g.setup.capacity * waiting_wide ≤ length ws
    pub flight_room : g.setup.depth * flight_wide ≤ length fs

  pub long_roomy : countable g ≡ true → short_in v g gs ws fs ≡ false → Roomy
  unfolding short_in
  long_roomy c s =
      let a : ltb (length gs) (v.needs g.guests) || ltb (length ws) (g.setup.capacity * waiting_wide) || ltb (length fs) (g.setup.depth * flight_wide) ≡ false = rw c at s in
      let x = neither (ltb (length gs) (v.needs g.guests) || ltb (length ws) (g.setup.capacity * waiting_wide)) (ltb (length fs) (g.setup.depth * flight_wide)) a in
      let y = neither (ltb (length gs) (v.needs g.guests)) (ltb (length ws) (g.setup.capacity * waiting_wide)) x.0 in
      record {
        guest_room = ltb-false (length gs) (v.needs g.guests) y.0;
        waiting_room = ltb-false (length ws) (g.setup.capacity * waiting_wide) y.1;
        flight_room = ltb-false (length fs) (g.setup.depth * flight_wide) x.1;
      }

-- WHAT IS HANDED BACK

module _ (v : Lending) (g : Gate) (gs : List v.Cell) (ws fs : List ℕ) (e : Event) where
  pub short-refused_in : short_in v g gs ws fs ≡ true → called_in v e g gs ws fs ≡ unchanged_in v g gs ws fs (Refused ShortTable)
  unfolding called_in judged_in
  short-refused_in s = rw s refl

  pub unsound_refused_in : short_in v g gs ws fs ≡ false → sound_in v g gs ws fs ≡ false → called_in v e g gs ws fs ≡ unchanged_in v g gs ws fs (Refused Unsound)
  unfolding called_in judged_in
  unsound_refused_in s h = rw (s, h) refl

  -- an event is accepted only on tables that are long enough and sound
  pub accepted-firm : judged_in v e g gs ws fs ≡ accept → (short_in v g gs ws fs ≡ false) × (sound_in v g gs ws fs ≡ true)
  unfolding judged_in
  accepted-firm h =
      let p = passed (tests (short_in v g gs ws fs) (not (sound_in v g gs ws fs)) (table_in v g gs ws fs) e) (ap is_accept h) in
      (p 2, not-false (sound_in v g gs ws fs) (p 3))

  -- and then by its own conditions
  pub firm-judged : short_in v g gs ws fs ≡ false → sound_in v g gs ws fs ≡ true → sound (table_in v g gs ws fs) ≡ true → judged_in v e g gs ws fs ≡ verdict (table_in v g gs ws fs) e
  unfolding judged_in
  firm-judged s h k = rw (s, h, k) refl

-- AN OPENING

module _ (v : Lending) (d n c : ℕ) (ss : List ℕ) (gs : List v.Cell) (ws fs : List ℕ) where
  -- an opening is accepted only with counts in range and tables that are long enough
  pub accepted_open : (rule : ℕ) → opening_in v d n c rule ss gs ws fs ≡ accept → (counted d n c ≡ true) × (open_short_in v d n c ss gs ws fs ≡ false)
  unfolding opening_in open_tests
  accepted_open rule h =
      let p = passed (open_tests (open_short_in v d n c ss gs ws fs) d n c rule (settings_in ss n)) (ap is_accept h) in
      (not-false (counted d n c) (p 1), p 2)

  -- those have room
  pub open_roomy : open_short_in v d n c ss gs ws fs ≡ false → (n * settings_wide ≤ length ss) × (v.needs n ≤ length gs) × (c * waiting_wide ≤ length ws) × (d * flight_wide ≤ length fs)
  unfolding open_short_in
  open_roomy s =
      let x = neither (ltb (length ss) (n * settings_wide) || ltb (length gs) (v.needs n) || ltb (length ws) (c * waiting_wide)) (ltb (length fs) (d * flight_wide)) s in
      let y = neither (ltb (length ss) (n * settings_wide) || ltb (length gs) (v.needs n)) (ltb (length ws) (c * waiting_wide)) x.0 in
      let z = neither (ltb (length ss) (n * settings_wide)) (ltb (length gs) (v.needs n)) y.0 in
      (ltb-false (length ss) (n * settings_wide) z.0, ltb-false (length gs) (v.needs n) z.1, ltb-false (length ws) (c * waiting_wide) y.1, ltb-false (length fs) (d * flight_wide) x.1)
