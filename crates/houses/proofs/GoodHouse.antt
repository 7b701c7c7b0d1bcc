-- A house whose counters and phases are good stays so, whatever is called. In such a house a call at an array that is there, for a guest that is there, reaches the
-- gate of that array: the house itself refuses nothing else. Assumes nothing.
use Prim.Native.Nat.{ℕ, ◌*◌, ◌≤◌, ◌<◌}
use mathlib.Core.Path.{◌≡◌, refl, sym, ap, ◌∙◌, subst}
use mathlib.Core.Bool.{true}
use mathlib.Core.List.{List, [], ◌∷◌}
use native.Mathlib.Omega.{arith}
use lib.ListN.{length, get_or, set, length-set}
use borrow.Author.Tests.{le-leb, lt-leb, le-ltb}
use Rattle.rules.specs.Answers.{taken}
use Rattle.rules.specs.Refusals.{accept, judged}
use Rattle.rules.specs.Sound.{counted}
use Rattle.rules.specs.declared.Answer.{Answer}
use Rattle.rules.specs.declared.Answer.TheVariants.{Nothing, Sent, Refused}
use Rattle.rules.proofs.Conditions.{counted_means}
use Rattle.gate.specs.Promise.{numbers}
use Rattle.gate.proofs.Lending.{numbers-lawful}
use Rattle.gate.proofs.InFlight.{flown_by}
use Rattle.arrays.specs.declared.Ask.{Ask}
use Rattle.arrays.specs.declared.Ask.TheVariants.{Arrives, Completes, Ticks}
use Rattle.arrays.specs.Counters.{most_arrays, counter_wide, good_counters}
use Rattle.arrays.specs.Promise.{handed_on, place_tests, ask_tests}
use Rattle.houses.specs.House.{Array, House, Deed, nowhere, array_at, site_of, call_at, left_at, holds_at, held_at}
use Rattle.houses.proofs.Accepted.{Known, Took, accepted-took}
use Rattle.arrays.proofs.Found.{fit_of}
use Rattle.houses.proofs.Runs.{judged_at, each-array, refused-same}
use Rattle.houses.proofs.Good.{GoodAt, asked-good}

-- a house of n guests whose counters and phases are long enough and good
pub record GoodHouse (n : ℕ) (h : House) : Type 0 where
  pub guests : (a : ℕ) → a < length h.arrays → (array_at h a).host.gate.guests ≡ n
  pub good : (a : ℕ) → a < length h.arrays → GoodAt (length h.arrays) (array_at h a).host.gate h.counters (array_at h a).phases

-- ONE CALL

module _ (n : ℕ) (h : House) (d : Deed) (fine : GoodHouse n h) where
  abbrev a : ℕ
  a = d.array

  abbrev x : Array
  x = array_at h a

  -- an accepted call
  taken_stays : taken (call_at h d).0.answer ≡ true → GoodHouse n (holds_at h d)
  taken_stays z = record { guests = guests; good = good }
    where
      t : Took (site_of h a) x.host.gate x.host.guests x.host.waiting x.host.flight h.counters x.phases d.ask
      t = accepted-took (site_of h a) x.host.gate x.host.guests x.host.waiting x.host.flight h.counters x.phases d.ask z

      there : a < length h.arrays
      there = (fit_of (site_of h a) x.host.gate h.counters x.phases d.ask t.judges).here

      -- the gate there has as many guests as before
      kept : (call_at h d).0.gate.guests ≡ n
      kept =
          ap (λ c. c.0.gate.guests) t.hands ∙ (flown_by numbers numbers-lawful x.host (handed_on (site_of h a) x.host.gate h.counters d.ask) t.took).guests ∙ fine.guests a there

      -- its counters and phases are good
      mine : GoodAt (length h.arrays) (call_at h d).0.gate (call_at h d).4 (call_at h d).5
      mine = asked-good (site_of h a) x.host.gate x.host.guests x.host.waiting x.host.flight h.counters x.phases d.ask (fine.good a there)

      guests : (b : ℕ) → b < length (set h.arrays a (left_at (call_at h d))) → (get_or (set h.arrays a (left_at (call_at h d))) b nowhere).host.gate.guests ≡ n
      guests = each-array (λ b y. y.host.gate.guests ≡ n) h.arrays a (left_at (call_at h d)) kept (λ b j e. fine.guests b j)

      -- and so for the other arrays, which have as many guests
      others : (b : ℕ) → b < length h.arrays → GoodAt (length h.arrays) (array_at h b).host.gate (call_at h d).4 (array_at h b).phases
      others b j =
          let y = (array_at h b).host.gate in
          let same : (call_at h d).0.gate.guests ≡ y.guests = kept ∙ sym (fine.guests b j) in
          record {
            counts = (fine.good b j).counts;
            counter_room = subst (λ (m : ℕ). length h.arrays * m * counter_wide ≤ length (call_at h d).4) same mine.counter_room;
            phase_room = (fine.good b j).phase_room;
            counters = subst (λ (m : ℕ). good_counters (call_at h d).4 (length h.arrays * m) ≡ true) same mine.counters;
            phases = (fine.good b j).phases;
          }

      good : (b : ℕ) → b < length (set h.arrays a (left_at (call_at h d)))
          → let y = get_or (set h.arrays a (left_at (call_at h d))) b nowhere in GoodAt (length (set h.arrays a (left_at (call_at h d)))) y.host.gate (call_at h d).4 y.phases
      good b i =
          rw (length-set h.arrays a (left_at (call_at h d)))
          (each-array (λ b y. GoodAt (length h.arrays) y.host.gate (call_at h d).4 y.phases) h.arrays a (left_at (call_at h d)) mine (λ b j e. others b j) b i)

  -- any call leaves a good house
  pub good-step : GoodHouse n (holds_at h d)
  good-step = go (call_at h d).0.answer refl
    where
      go : (got : Answer) → (call_at h d).0.answer ≡ got → GoodHouse n (holds_at h d)
      go Nothing e = taken_stays (ap taken e)
      go (Sent p g i) e = taken_stays (ap taken e)
      go (Refused r) e = subst (GoodHouse n) (sym (refused-same h d r e)) fine

  -- THE GATE IS REACHED

  -- a guest that is there
  known-place : d.array < length h.arrays → (k : Ask) → Known x.host.gate.guests k → judged (place_tests (site_of h a) x.host.gate k) ≡ accept
  known-place l (Arrives q now) i = rw (lt-leb x.host.gate.guests q.guest i, lt-leb (length h.arrays) d.array l) refl
  known-place l (Completes f now) i = rw (lt-leb x.host.gate.guests f.guest i, lt-leb (length h.arrays) d.array l) refl
  known-place l (Ticks now) i = rw (lt-leb (length h.arrays) d.array l) refl

  -- Nothing is judged against a call at an array that is there for a guest that is there.
  pub reaches-gate : length h.arrays ≤ most_arrays → d.array < length h.arrays → Known n d.ask → judged_at h d ≡ accept
  unfolding ask_tests
  reaches-gate most l i =
      let g = x.host.gate in
      let fit = fine.good a l in
      let c : counted g.setup.depth g.guests g.setup.capacity ≡ true = (counted_means g.setup.depth g.guests g.setup.capacity).holds.1 fit.counts in
      rw (le-leb 1 (length h.arrays) (omega arith), le-leb (length h.arrays) most_arrays most, c, le-ltb (length h.counters) (length h.arrays * g.guests * counter_wide) fit.counter_room, le-ltb (length x.phases) g.setup.depth fit.phase_room, fit.counters, fit.phases)
      (known-place l d.ask (subst (λ (m : ℕ). Known m d.ask) (sym (fine.guests a l)) i))

-- A RUN OF CALLS

-- A house whose counters and phases are good stays so.
pub good-run : (n : ℕ) (ds : List Deed) (h : House) → GoodHouse n h → GoodHouse n (held_at h ds)
unfolding held_at
good-run n [] h g = g
good-run n (d ∷ ds) h g = good-run n ds (holds_at h d) (good-step n h d g)
