-- An opening at an array that is accepted: a fresh table of n guests stands there, its counters and its phases are 0, and the counters of the other arrays are as they were.
-- So arrays that are opened one after the other are a house at its start. Assumes nothing.
use Prim.Native.Nat.{ℕ, zero, suc, ◌+◌, ◌*◌, ◌/◌, ◌%◌, ◌≤◌, ◌<◌}
use mathlib.Core.Path.{◌≡◌, refl, sym, ap, ◌∙◌, subst}
use mathlib.Core.Bool.{true, ◌&&◌}
use mathlib.Core.List.{List, [], ◌∷◌}
use native.Mathlib.Nat.{mul-le-mul_right, mod-lt, div-add-mod', div-lt_iff_lt-mul}
use native.Mathlib.Omega.{arith}
use lib.Dec.{leb}
use lib.ListN.{length, get_or}
use Rattle.lists.specs.RowsLaws.{length-rows}
use Rattle.lists.specs.WordsLaws.{both, at-below}
use Rattle.rules.specs.Numbers.{most_delta}
use Rattle.rules.specs.Tables.{Table}
use Rattle.rules.specs.Answers.{taken}
use Rattle.rules.specs.Run.{fresh}
use Rattle.rules.specs.Refused.{Countable}
use Rattle.rules.specs.declared.Setup.{Setup}
use Rattle.rules.proofs.Conditions.{counted_means}
use Rattle.table.specs.View.{guest_form, flight_form}
use Rattle.gate.specs.Promise.{numbers, HandedIn, opened, settings_in}
use Rattle.gate.specs.Calls.{holds, shows, firm}
use Rattle.gate.proofs.Lending.{numbers-lawful}
use Rattle.gate.proofs.Beyond.{fresh_sized}
use Rattle.gate.proofs.Opened.{opened-firm}
use Rattle.arrays.specs.declared.Site.{Site}
use Rattle.arrays.specs.Counters.{counter_wide, row_of, good_row, good_counters, cleared_all}
use Rattle.arrays.specs.Phases.{in_step, phases_over}
use Rattle.arrays.specs.Promise.{HandedAt, with, begun}
use Rattle.houses.specs.House.{Array, House, Deed, nowhere, array_at, left_at, held_at, answers_at}
use Rattle.houses.specs.History.{told_over, Begun, CountedExactly}
use Rattle.houses.specs.Opening.{Lent, opens_at, opened_from, accepted_from, opened_all, accepted_all}
use Rattle.houses.proofs.Accepted.{OpeningTook, opening-took}
use Rattle.arrays.proofs.Found.{OpenFit, open_fit_of}
use Rattle.houses.proofs.CounterLaws.{pair_at, length_cleared, cleared_other, cleared_own}
use Rattle.arrays.proofs.Places.{length_over}
use Rattle.houses.proofs.Good.{GoodAt, written_step}
use Rattle.houses.proofs.GoodHouse.{GoodHouse}
use Rattle.houses.proofs.Counted.{counted_exactly}

-- ONE ARRAY

-- an array of n guests at its start: its tables are long enough and sound, nothing is in flight there, and its phases are good
pub record FreshArray (n : ℕ) (x : Array) : Type 0 where
  pub firmly : firm numbers x.host ≡ true
  pub guests : x.host.gate.guests ≡ n
  pub flight : x.host.gate.flight ≡ 0
  pub counts : Countable x.host.gate.setup.depth x.host.gate.guests x.host.gate.setup.capacity
  pub phase_room : x.host.gate.setup.depth ≤ length x.phases
  pub phases : in_step x.host.gate.flight x.host.gate.setup.depth x.phases ≡ true

-- what an accepted opening at one of m arrays hands back
pub record Fresh (m a d n c rule : ℕ) (ss cs : List ℕ) (r : HandedAt) : Type 0 where
  pub array : FreshArray n (left_at r)
  pub table : shows numbers (left_at r).host ≡ fresh d c rule (settings_in ss n)
  pub counters : (g : ℕ) → g < n → pair_at r.4 (row_of n a g) ≡ (0, 0)
  pub others : (b g : ℕ) → (b ≡ a → ⊥) → g < n → pair_at r.4 (row_of n b g) ≡ pair_at cs (row_of n b g)
  pub counter_room : m * n * counter_wide ≤ length r.4
  pub same_length : length r.4 ≡ length cs

-- every accepted opening does
pub begun_fresh : (s : Site) (d n c rule : ℕ) (ss gs ws fs cs ps : List ℕ) → taken (begun s d n c rule ss gs ws fs cs ps).0.answer ≡ true
    → Fresh s.arrays s.array d n c rule ss cs (begun s d n c rule ss gs ws fs cs ps)
unfolding fresh
begun_fresh s d n c rule ss gs ws fs cs ps z = subst (Fresh s.arrays s.array d n c rule ss cs) (sym t.hands) made
  where
    t : OpeningTook s d n c rule ss gs ws fs cs ps
    t = opening-took s d n c rule ss gs ws fs cs ps z

    p : OpenFit s d n c cs ps
    p = open_fit_of s d n c rule cs ps t.judges

    o : HandedIn numbers
    o = opened d n c rule ss gs ws fs

    f : (firm numbers (holds numbers o) ≡ true) × (shows numbers (holds numbers o) ≡ fresh d c rule (settings_in ss n))
    f = opened-firm numbers numbers-lawful d n c rule ss gs ws fs t.took

    setup : o.0.gate.setup ≡ record { depth = d; capacity = c; rule = rule }
    setup = ap (λ (x : Table). x.setup) f.1

    guests : o.0.gate.guests ≡ n
    guests = sym (length-rows guest_form o.1 o.0.gate.guests) ∙ ap (λ (x : Table). length x.guests) f.1 ∙ (fresh_sized d n c rule ss).guests

    flight : o.0.gate.flight ≡ 0
    flight = sym (length-rows flight_form o.3 o.0.gate.flight) ∙ ap (λ (x : Table). length x.flight) f.1

    depth : o.0.gate.setup.depth ≡ d
    depth = ap (λ (x : Setup). x.depth) setup

    made : Fresh s.arrays s.array d n c rule ss cs (with o (cleared_all n s.array n cs) (phases_over d [] ps))
    made =
        record {
          array = record {
            firmly = f.0;
            guests = guests;
            flight = flight;
            counts = rw (setup, guests) ((counted_means d n c).holds.0 p.counts);
            phase_room = rw (depth, length_over d [] ps) p.room;
            phases = rw (depth, flight) (written_step d [] ps p.room (omega arith) refl);
          };
          table = f.1;
          counters = cleared_own n s.array cs n (omega arith) (omega (arith, p.rows, mul-le-mul_right n p.here));
          others = λ b g e l. cleared_other n s.array cs n (omega arith) b g l (λ i. absurd (e i));
          counter_room = rw (length_cleared n s.array cs n) p.rows;
          same_length = length_cleared n s.array cs n;
        }

-- ALL OF THEM

-- of m arrays those from array a on are opened, and the counters of those before it are as they were
pub record Opened (m n a : ℕ) (ls : List Lent) (cs : List ℕ) (h : House) : Type 0 where
  pub many : length h.arrays ≡ length ls
  pub each : (i : ℕ) → i < length ls → FreshArray n (array_at h i)
  pub counters : (i g : ℕ) → i < length ls → g < n → pair_at h.counters (row_of n (a + i) g) ≡ (0, 0)
  pub before : (b g : ℕ) → b < a → g < n → pair_at h.counters (row_of n b g) ≡ pair_at cs (row_of n b g)
  pub same_length : length h.counters ≡ length cs
  pub counter_room : 0 < length ls → m * n * counter_wide ≤ length h.counters

-- so it is with accepted openings, one after the other
opened_from_lem : (m n : ℕ) (ss : List ℕ) (ls : List Lent) (a : ℕ) (cs : List ℕ) → accepted_from m n ss a ls cs ≡ true → Opened m n a ls cs (opened_from m n ss a ls cs)
unfolding opened_from accepted_from
opened_from_lem m n ss [] a cs h =
    record {
      many = refl;
      each = λ i l. absurd (omega arith);
      counters = λ i g l. absurd (omega arith);
      before = λ b g l k. refl;
      same_length = refl;
      counter_room = λ l. absurd (omega arith);
    }
opened_from_lem m n ss (l ∷ ls) a cs h = go (opened_from_lem m n ss ls (suc a) r.4 c.1)
  where
    r : HandedAt
    r = opens_at m n ss a l cs

    c : (taken r.0.answer ≡ true) × (accepted_from m n ss (suc a) ls r.4 ≡ true)
    c = both (taken r.0.answer) (accepted_from m n ss (suc a) ls r.4) h

    f : Fresh m a l.depth n l.capacity l.rule ss cs r
    f = begun_fresh (record { arrays = m; array = a }) l.depth n l.capacity l.rule ss l.guests l.waiting l.flight cs l.phases c.0

    rest : House
    rest = opened_from m n ss (suc a) ls r.4

    go : Opened m n (suc a) ls r.4 rest → Opened m n a (l ∷ ls) cs (record { counters = rest.counters; arrays = left_at r ∷ rest.arrays })
    go i =
        record {
          many = ap suc i.many;
          each = λ k. elim k as (λ k. k < suc (length ls) → FreshArray n (get_or (left_at r ∷ rest.arrays) k nowhere)) [ zero ↦ λ j. f.array | suc x ↦ λ j. i.each x (omega arith) ];
          counters = λ k g. elim k as (λ k. k < suc (length ls) → g < n → pair_at rest.counters (row_of n (a + k) g) ≡ (0, 0)) [
            | zero ↦ λ j y. let e : a + 0 ≡ a = omega arith in ap (λ (x : ℕ). pair_at rest.counters (row_of n x g)) e ∙ i.before a g (omega arith) y ∙ f.counters g y
            | suc x ↦ λ j y. let e : a + suc x ≡ suc a + x = omega arith in ap (λ (w : ℕ). pair_at rest.counters (row_of n w g)) e ∙ i.counters x g (omega arith) y
          ];
          before = λ b g j y. i.before b g (omega arith) y ∙ f.others b g (λ e. omega arith) y;
          same_length = i.same_length ∙ f.same_length;
          counter_room = λ j. omega (arith, i.same_length, f.counter_room);
        }

module _ (n : ℕ) (ss : List ℕ) (ls : List Lent) (cs : List ℕ) (accepted : accepted_all n ss ls cs ≡ true) where
  abbrev house : House
  house = opened_all n ss ls cs

  o : Opened (length ls) n 0 ls cs house
  o = opened_from_lem (length ls) n ss ls 0 cs accepted

  there : (a : ℕ) → a < length house.arrays → a < length ls
  there a l = rw o.many at l

  -- the counters of every guest at every array are 0
  zeros : (a g : ℕ) → a < length ls → g < n → pair_at house.counters (row_of n a g) ≡ (0, 0)
  zeros a g l k = let e : a ≡ 0 + a = omega arith in ap (λ (x : ℕ). pair_at house.counters (row_of n x g)) e ∙ o.counters a g l k

  -- Arrays that are opened one after the other, and all accepted, are a house of n guests at its start,
  pub all-begun : Begun n (opened_all n ss ls cs)
  all-begun =
      record {
        guests = λ a l. (o.each a (there a l)).guests;
        flight = λ a l. (o.each a (there a l)).flight;
        counters = λ a g l k. let z = zeros a g (there a l) k in (ap (λ (p : ℕ × ℕ). p.0) z, ap (λ (p : ℕ × ℕ). p.1) z);
      }

  -- as many as were opened,
  pub all_there : length (opened_all n ss ls cs).arrays ≡ length ls
  all_there = o.many

  -- each with tables that are long enough and sound,
  pub all-firm : (a : ℕ) → a < length ls → firm numbers (array_at (opened_all n ss ls cs) a).host ≡ true
  all-firm a l = (o.each a l).firmly

  -- every row is one of a guest at an array, so all are good
  rows-good : 0 < n → good_counters house.counters (length ls * n) ≡ true
  unfolding good_counters
  rows-good some = at-below (length ls * n) (good_row house.counters) each
    where
      each : (row : ℕ) → row < length ls * n → good_row house.counters row ≡ true
      each row l =
          let e : row ≡ row_of n (row / n) (row % n) = sym (div-add-mod' row n) in
          let z = zeros (row / n) (row % n) ((div-lt_iff_lt-mul {k = n} {x = row} {y = length ls} some).1 l) (mod-lt row some) in
          ap (good_row house.counters) e ∙ ap (λ (p : ℕ × ℕ). leb p.0 most_delta && leb p.1 p.0) z

  -- and counters and phases that are good.
  pub all-good : GoodHouse n (opened_all n ss ls cs)
  all-good = record { guests = λ a l. (o.each a (there a l)).guests; good = λ a l. go a (there a l) }
    where
      go : (a : ℕ) → a < length ls → GoodAt (length house.arrays) (array_at house a).host.gate house.counters (array_at house a).phases
      go a l =
          let x = o.each a l in
          let some : 0 < n = omega (arith, x.counts.guest-count.0, x.guests) in
          record {
            counts = x.counts;
            counter_room = rw (o.many, x.guests) (o.counter_room (omega arith));
            phase_room = x.phase_room;
            counters = rw (o.many, x.guests) (rows-good some);
            phases = x.phases;
          }

  -- So from their openings on, over any run of calls, each count is exactly what the history says.
  pub counted_from_opening : (ds : List Deed) → CountedExactly n (held_at (opened_all n ss ls cs) ds) (told_over [] ds (answers_at (opened_all n ss ls cs) ds))
  counted_from_opening ds = counted_exactly n (opened_all n ss ls cs) all-begun ds
