-- What is found before the gate is asked or opened, and what is then known. Assumes nothing.
use Rattle.std.specs.Prelude.{Ok, Err, Result}
use Prim.Native.Nat.{ℕ, ◌*◌, ◌≤◌, ◌<◌}
use mathlib.Core.Path.{◌≡◌, refl, sym, ap, ◌∙◌}
use mathlib.Core.Bool.{Bool, true, false, not, ◌&&◌, false≢true}
use mathlib.Core.List.{List, [], ◌∷◌, ◌++◌}
use native.Mathlib.Nat.{mul-le-mul}
use lib.Dec.{ltb, leb}
use lib.ListN.{length}
use borrow.Author.Tests.{not-true, not-false, ltb-false, leb-true, leb-false}
use Rattle.lists.specs.Words.{if◌then◌else◌}
use Rattle.lists.specs.WordsLaws.{both, neither}
use Rattle.rules.specs.Numbers.{within}
use Rattle.rules.specs.Sound.{counted, ruled}
use Rattle.rules.specs.Refusals.{Test, accept, refuse, judged, is_accept}
use Rattle.rules.specs.declared.Gate.{Gate}
use Rattle.rules.specs.declared.Flight.{Flight}
use Rattle.rules.specs.declared.Refusal.{Refusal}
use Rattle.rules.specs.declared.Refusal.TheVariants.{BadSetting, ShortTable, Unsound, NoArray}
use Rattle.rules.proofs.Judged.{passed, passed-behind}
use Rattle.rules.proofs.Conditions.{counted_means}
use Rattle.table.specs.Columns.{most_guests}
use Rattle.table.specs.View.{countable}
use Rattle.arrays.specs.declared.Site.{Site}
use Rattle.arrays.specs.declared.Asking.{Asking}
use Rattle.arrays.specs.declared.Ask.{Ask}
use Rattle.arrays.specs.declared.Ask.TheVariants.{Arrives, Completes, Ticks}
use Rattle.arrays.specs.Counters.{most_arrays, counter_wide, good_counters}
use Rattle.arrays.specs.Phases.{in_step}
use Rattle.arrays.specs.Promise.{short_at, place_tests, ask_tests, opening_tests}
use Rattle.arrays.specs.Steps.{verdict_of, lent_tests}

-- TWO LISTS OF TESTS, one behind the other

-- what the first refuses is refused
judged_stops : (xs ys : List Test) (r : Refusal) → judged xs ≡ refuse r → judged (xs ++ ys) ≡ refuse r
judged_stops [] ys r e = absurd (false≢true (sym (ap is_accept e)))
judged_stops (x ∷ xs) ys r e = go x.holds (judged_stops xs ys r) e
  where
    go : (b : Bool) → (judged xs ≡ refuse r → judged (xs ++ ys) ≡ refuse r) → (if b then refuse x.refusal else judged xs) ≡ refuse r → (if b then refuse x.refusal else judged (xs ++ ys)) ≡ refuse r
    go true i h = h
    go false i h = i h

-- what it accepts is left to the second
judged-goes : (xs ys : List Test) → judged xs ≡ accept → judged (xs ++ ys) ≡ judged ys
judged-goes [] ys e = refl
judged-goes (x ∷ xs) ys e = go x.holds (judged-goes xs ys) e
  where
    go : (b : Bool) → (judged xs ≡ accept → judged (xs ++ ys) ≡ judged ys) → (if b then refuse x.refusal else judged xs) ≡ accept → (if b then refuse x.refusal else judged (xs ++ ys)) ≡ judged ys
    go true i h = absurd (false≢true (ap is_accept h))
    go false i h = i h

-- not many rows
pub few_rows : (m n : ℕ) → m ≤ most_arrays → n ≤ most_guests → m * n ≤ most_arrays * most_guests
few_rows m n h k = mul-le-mul h k

-- BEFORE THE GATE IS ASKED

module _ (s : Site) (g : Gate) (cs ps : List ℕ) where
  -- what is lent refuses, or the rest is judged
  pub lent_bad : (k : Ask) (found : Result Unit Refusal) → verdict_of found ≡ judged (lent_tests s g cs ps) → (r : Refusal) → found ≡ Err r → refuse r ≡ judged (ask_tests s g cs ps k)
  unfolding ask_tests
  lent_bad k found e r b = sym (judged_stops (lent_tests s g cs ps) (place_tests s g k) r (sym e ∙ ap verdict_of b))

  pub lent-good : (k : Ask) (found : Result Unit Refusal) → verdict_of found ≡ judged (lent_tests s g cs ps) → found ≡ Ok tt
      → (j : Result Unit Refusal) → verdict_of j ≡ judged (place_tests s g k) → verdict_of j ≡ judged (ask_tests s g cs ps k)
  unfolding ask_tests
  lent-good k found e b j h = h ∙ sym (judged-goes (lent_tests s g cs ps) (place_tests s g k) (sym e ∙ ap verdict_of b))

  -- what is lent, test by test
  module _ (a : Bool) (p : a ≡ within 1 most_arrays s.arrays) where
    pub arrays_bad : not a ≡ true → refuse NoArray ≡ judged (lent_tests s g cs ps)
    arrays_bad n = rw (sym p ∙ not-true a n) refl

    module _ (n : not a ≡ false) where
      arrays_good : within 1 most_arrays s.arrays ≡ true
      arrays_good = sym p ∙ not-false a n

      pub few_arrays : s.arrays ≤ most_arrays
      few_arrays = leb-true s.arrays most_arrays (both (leb 1 s.arrays) (leb s.arrays most_arrays) arrays_good).1

      module _ (b : Bool) (q : b ≡ countable g) where
        pub counts_bad : not b ≡ true → refuse Unsound ≡ judged (lent_tests s g cs ps)
        counts_bad m = rw (arrays_good, sym q ∙ not-true b m) refl

        module _ (m : not b ≡ false) where
          counts_good : countable g ≡ true
          counts_good = sym q ∙ not-false b m

          pub few_guests : g.guests ≤ most_guests
          few_guests = ((counted_means g.setup.depth g.guests g.setup.capacity).holds.0 counts_good).guest-count.1

          module _ (x : Bool) (y : x ≡ short_at s.arrays g.guests g.setup.depth cs ps) where
            pub lent-short : x ≡ true → refuse ShortTable ≡ judged (lent_tests s g cs ps)
            lent-short t = rw (arrays_good, counts_good, sym y ∙ t) refl

            module _ (t : x ≡ false) where
              long : short_at s.arrays g.guests g.setup.depth cs ps ≡ false
              long = sym y ∙ t

              lengths : (ltb (length cs) (s.arrays * g.guests * counter_wide) ≡ false) × (ltb (length ps) g.setup.depth ≡ false)
              lengths = neither (ltb (length cs) (s.arrays * g.guests * counter_wide)) (ltb (length ps) g.setup.depth) long

              pub counters_long : s.arrays * g.guests * counter_wide ≤ length cs
              counters_long = ltb-false (length cs) (s.arrays * g.guests * counter_wide) lengths.0

              pub phases_long : g.setup.depth ≤ length ps
              phases_long = ltb-false (length ps) g.setup.depth lengths.1

              module _ (u : Bool) (v : u ≡ good_counters cs (s.arrays * g.guests)) where
                pub counters_bad : not u ≡ true → refuse Unsound ≡ judged (lent_tests s g cs ps)
                counters_bad w = rw (arrays_good, counts_good, long, sym v ∙ not-true u w) refl

                module _ (w : not u ≡ false) (i : Bool) (z : i ≡ in_step g.flight g.setup.depth ps) where
                  pub phases_bad : not i ≡ true → refuse Unsound ≡ judged (lent_tests s g cs ps)
                  phases_bad o = rw (arrays_good, counts_good, long, sym v ∙ not-false u w, sym z ∙ not-true i o) refl

                  pub lent_fit : not i ≡ false → accept ≡ judged (lent_tests s g cs ps)
                  lent_fit o = rw (arrays_good, counts_good, long, sym v ∙ not-false u w, sym z ∙ not-false i o) refl

-- what is known once nothing stands against asking the gate
pub record Fit (s : Site) (g : Gate) (cs ps : List ℕ) : Type 0 where
  pub several : s.arrays ≤ most_arrays
  pub counts : countable g ≡ true
  pub few : g.guests ≤ most_guests
  pub rows : s.arrays * g.guests * counter_wide ≤ length cs
  pub room : g.setup.depth ≤ length ps
  pub good : good_counters cs (s.arrays * g.guests) ≡ true
  pub step : in_step g.flight g.setup.depth ps ≡ true
  pub here : s.array < s.arrays

module _ (s : Site) (g : Gate) (cs ps : List ℕ) where
  -- the array that is named is there
  named : (k : Ask) → is_accept (judged (ask_tests s g cs ps k)) ≡ true → leb s.arrays s.array ≡ false
  unfolding ask_tests
  named (Arrives a now) h = passed-behind (ask_tests s g cs ps (Arrives a now)) h 2 22
  named (Completes f now) h = passed-behind (ask_tests s g cs ps (Completes f now)) h 2 22
  named (Ticks now) h = passed-behind (ask_tests s g cs ps (Ticks now)) h 2 22

  pub fit_of : (k : Ask) → judged (ask_tests s g cs ps k) ≡ accept → Fit s g cs ps
  unfolding ask_tests
  fit_of k v =
      let h = ap is_accept v in
      let t = ask_tests s g cs ps k in
      let a = not-false (within 1 most_arrays s.arrays) (passed t h 22) in
      let b = not-false (countable g) (passed t h 3) in
      let d = neither (ltb (length cs) (s.arrays * g.guests * counter_wide)) (ltb (length ps) g.setup.depth) (passed t h 2) in
      let i = both (good_counters cs (s.arrays * g.guests)) (in_step g.flight g.setup.depth ps) (not-false (good_counters cs (s.arrays * g.guests) && in_step g.flight g.setup.depth ps) (passed-behind t h 2 3)) in
      record {
        several = leb-true s.arrays most_arrays (both (leb 1 s.arrays) (leb s.arrays most_arrays) a).1;
        counts = b;
        few = ((counted_means g.setup.depth g.guests g.setup.capacity).holds.0 b).guest-count.1;
        rows = ltb-false (length cs) (s.arrays * g.guests * counter_wide) d.0;
        room = ltb-false (length ps) g.setup.depth d.1;
        good = i.0;
        step = i.1;
        here = leb-false s.arrays s.array (named k h);
      }

  -- and so is the guest
  pub arrival_known : (a : Asking) (now : ℕ) → judged (ask_tests s g cs ps (Arrives a now)) ≡ accept → a.guest < g.guests
  unfolding ask_tests
  arrival_known a now v = leb-false g.guests a.guest (passed (ask_tests s g cs ps (Arrives a now)) (ap is_accept v) 4)

  pub completion_known : (f : Flight) (now : ℕ) → judged (ask_tests s g cs ps (Completes f now)) ≡ accept → f.guest < g.guests
  unfolding ask_tests
  completion_known f now v = leb-false g.guests f.guest (passed (ask_tests s g cs ps (Completes f now)) (ap is_accept v) 4)

-- BEFORE THE GATE IS OPENED

module _ (s : Site) (d n c rule : ℕ) (cs ps : List ℕ) (a : Bool) (p : a ≡ within 1 most_arrays s.arrays) where
  pub open_arrays_bad : not a ≡ true → refuse NoArray ≡ judged (opening_tests s d n c rule cs ps)
  unfolding opening_tests
  open_arrays_bad m = rw (sym p ∙ not-true a m) refl

  module _ (m : not a ≡ false) where
    open_arrays : within 1 most_arrays s.arrays ≡ true
    open_arrays = sym p ∙ not-false a m

    pub open_array_bad : leb s.arrays s.array ≡ true → refuse NoArray ≡ judged (opening_tests s d n c rule cs ps)
    unfolding opening_tests
    open_array_bad h = rw (open_arrays, h) refl

    module _ (h : leb s.arrays s.array ≡ false) (b : Bool) (q : b ≡ counted d n c) where
      pub open_counts_bad : not b ≡ true → refuse BadSetting ≡ judged (opening_tests s d n c rule cs ps)
      unfolding opening_tests
      open_counts_bad t = rw (open_arrays, h, sym q ∙ not-true b t) refl

      module _ (t : not b ≡ false) (e : Bool) (f : e ≡ ruled rule) where
        pub open_rule_bad : not e ≡ true → refuse BadSetting ≡ judged (opening_tests s d n c rule cs ps)
        unfolding opening_tests
        open_rule_bad u = rw (open_arrays, h, sym q ∙ not-false b t, sym f ∙ not-true e u) refl

        pub open_few : (s.arrays ≤ most_arrays) × (n ≤ most_guests)
        open_few = (
          leb-true s.arrays most_arrays (both (leb 1 s.arrays) (leb s.arrays most_arrays) open_arrays).1,
          ((counted_means d n c).holds.0 (sym q ∙ not-false b t)).guest-count.1,
        )

        module _ (u : not e ≡ false) (x : Bool) (y : x ≡ short_at s.arrays n d cs ps) where
          pub open_short : x ≡ true → refuse ShortTable ≡ judged (opening_tests s d n c rule cs ps)
          unfolding opening_tests
          open_short w = rw (open_arrays, h, sym q ∙ not-false b t, sym f ∙ not-false e u, sym y ∙ w) refl

          pub open_fit : x ≡ false → accept ≡ judged (opening_tests s d n c rule cs ps)
          unfolding opening_tests
          open_fit w = rw (open_arrays, h, sym q ∙ not-false b t, sym f ∙ not-false e u, sym y ∙ w) refl

-- what is known once nothing stands against opening the gate
pub record OpenFit (s : Site) (d n c : ℕ) (cs ps : List ℕ) : Type 0 where
  pub counts : counted d n c ≡ true
  pub rows : s.arrays * n * counter_wide ≤ length cs
  pub room : d ≤ length ps
  pub here : s.array < s.arrays

pub open_fit_of : (s : Site) (d n c rule : ℕ) (cs ps : List ℕ) → judged (opening_tests s d n c rule cs ps) ≡ accept → OpenFit s d n c cs ps
unfolding opening_tests
open_fit_of s d n c rule cs ps v =
    let h = ap is_accept v in
    let t = opening_tests s d n c rule cs ps in
    let l = neither (ltb (length cs) (s.arrays * n * counter_wide)) (ltb (length ps) d) (passed t h 2) in
    record {
      counts = not-false (counted d n c) (passed t h 1);
      rows = ltb-false (length cs) (s.arrays * n * counter_wide) l.0;
      room = ltb-false (length ps) d l.1;
      here = leb-false s.arrays s.array (passed-behind t h 22 22);
    }
