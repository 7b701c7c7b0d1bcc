-- `untouched`, first half: what stands beyond the places that arrays, guests, capacity and depth need comes back as it was, whatever is handed in: in the three
-- tables, in the counters of all arrays and in the phases. Assumes nothing.
use Prim.Native.Nat.{ℕ, ◌*◌, ◌<◌}
use mathlib.Core.Path.{◌≡◌, refl}
use mathlib.Core.Bool.{Bool, true, false}
use mathlib.Core.List.{List, []}
use native.Mathlib.Omega.{arith}
use lib.ListN.{length, get_or, drop}
use Rattle.rules.specs.Answers.{taken}
use Rattle.rules.specs.Refusals.{Verdict, accept, refuse, judged}
use Rattle.rules.specs.declared.Gate.{Gate}
use Rattle.rules.specs.declared.Refusal.{Refusal}
use Rattle.gate.specs.Promise.{numbers, HandedIn, opened}
use Rattle.gate.proofs.Lending.{numbers-lawful}
use Rattle.gate.specs.Needs.{Beyond}
use Rattle.gate.proofs.Beyond.{called_beyond, opened_beyond}
use Rattle.arrays.specs.declared.Site.{Site}
use Rattle.arrays.specs.declared.Ask.{Ask}
use Rattle.arrays.specs.declared.Ask.TheVariants.{Arrives, Completes, Ticks}
use Rattle.arrays.specs.Counters.{counter_wide, row_of}
use Rattle.arrays.specs.Phases.{by_reservation, joined}
use Rattle.arrays.specs.Promise.{with, kept_at, ask_tests, handed_on, place_at, counted_by, still_flying, counted_at, asked_by, asked, opening_tests, started_at, begun_by, begun}
use Rattle.houses.specs.Needs.{BeyondAt}
use Rattle.houses.proofs.Accepted.{Known, known-guest, own}
use Rattle.arrays.proofs.Found.{fit_of, open_fit_of}
use Rattle.arrays.proofs.Rows.{row_among}
use Rattle.houses.proofs.CounterLaws.{length-row-set, length-counted, length_cleared, row-set_beyond, counted_beyond, cleared_beyond}
use Rattle.arrays.proofs.Places.{length_over}
use Rattle.arrays.proofs.PhaseLaws.{phases_beyond}

-- counters and phases that are handed back as they were
stays : {m n c d : ℕ} {gs ws fs cs ps : List ℕ} (h : HandedIn numbers) → Beyond numbers n c d gs ws fs h → BeyondAt m n c d gs ws fs cs ps (with h cs ps)
stays h b = record { tables = b; counter_length = refl; phase_length = refl; counters = refl; phases = refl }

-- a refusal changes nothing
unmoved : {m n c d : ℕ} {g : Gate} {gs ws fs cs ps : List ℕ} {r : Refusal} → BeyondAt m n c d gs ws fs cs ps (kept_at g gs ws fs cs ps r)
unmoved =
    record {
      tables = record { guest-length = refl; waiting-length = refl; flight_length = refl; guests = refl; waiting = refl; flight = refl };
      counter_length = refl;
      phase_length = refl;
      counters = refl;
      phases = refl;
    }

-- AN ARRIVAL, A COMPLETION AND A TICK

module _ (s : Site) (g : Gate) (fs cs ps : List ℕ) where
  -- what is counted leaves the counters beyond
  counted_untouched : s.array < s.arrays → (k : Ask) → Known g.guests k
      → (length (counted_by s g fs cs ps k) ≡ length cs) × (drop (s.arrays * g.guests * counter_wide) (counted_by s g fs cs ps k) ≡ drop (s.arrays * g.guests * counter_wide) cs)
  counted_untouched there (Arrives q now) l = (
    length-row-set cs (row_of g.guests s.array q.guest) 0 0,
    row-set_beyond (s.arrays * g.guests) (row_of g.guests s.array q.guest) 0 0 cs (row_among s.arrays g.guests s.array q.guest there l),
  )
  counted_untouched there (Completes f now) l =
      let r = by_reservation (get_or ps (place_at g fs f) 0) in
      (length-counted g.guests f.guest r cs s.arrays, counted_beyond s.arrays g.guests f.guest r cs l s.arrays (omega arith))
  counted_untouched there (Ticks now) l = (refl, refl)

-- They change nothing beyond what is needed.
pub asked_beyond : (s : Site) (g : Gate) (gs ws fs cs ps : List ℕ) (k : Ask)
    → BeyondAt s.arrays g.guests g.setup.capacity g.setup.depth gs ws fs cs ps (asked s g gs ws fs cs ps k)
unfolding asked
asked_beyond s g gs ws fs cs ps k = go (judged (ask_tests s g cs ps k)) refl
  where
    tables : Beyond numbers g.guests g.setup.capacity g.setup.depth gs ws fs (own s g gs ws fs cs ps k)
    tables = called_beyond numbers numbers-lawful (handed_on s g cs k) g gs ws fs

    by : judged (ask_tests s g cs ps k) ≡ accept → (b : Bool) → BeyondAt s.arrays g.guests g.setup.capacity g.setup.depth gs ws fs cs ps (counted_at b s g fs cs ps k (own s g gs ws fs cs ps k))
    by p true =
        let l = joined (own s g gs ws fs cs ps k).0.answer (still_flying g fs ps k) in
        let x = counted_untouched s g fs cs ps (fit_of s g cs ps k p).here k (known-guest s g cs ps k p) in
        record { tables = tables; counter_length = x.0; phase_length = length_over g.setup.depth l ps; counters = x.1; phases = phases_beyond g.setup.depth l ps }
    by p false = stays (own s g gs ws fs cs ps k) tables

    go : (w : Verdict) → judged (ask_tests s g cs ps k) ≡ w
        → BeyondAt s.arrays g.guests g.setup.capacity g.setup.depth gs ws fs cs ps (asked_by w s g gs ws fs cs ps k)
    go accept p = by p (taken (own s g gs ws fs cs ps k).0.answer)
    go (refuse r) p = unmoved

-- AN OPENING

-- It changes nothing beyond what is needed.
pub begun_beyond : (s : Site) (d n c rule : ℕ) (ss gs ws fs cs ps : List ℕ) → BeyondAt s.arrays n c d gs ws fs cs ps (begun s d n c rule ss gs ws fs cs ps)
unfolding begun
begun_beyond s d n c rule ss gs ws fs cs ps = go (judged (opening_tests s d n c rule cs ps)) refl
  where
    h : HandedIn numbers
    h = opened d n c rule ss gs ws fs

    tables : Beyond numbers n c d gs ws fs h
    tables = opened_beyond numbers numbers-lawful d n c rule ss gs ws fs

    by : s.array < s.arrays → (b : Bool) → BeyondAt s.arrays n c d gs ws fs cs ps (started_at b s d n cs ps h)
    by l true =
        record {
          tables = tables;
          counter_length = length_cleared n s.array cs n;
          phase_length = length_over d [] ps;
          counters = cleared_beyond s.arrays n s.array cs l n (omega arith);
          phases = phases_beyond d [] ps;
        }
    by l false = stays h tables

    go : (w : Verdict) → judged (opening_tests s d n c rule cs ps) ≡ w → BeyondAt s.arrays n c d gs ws fs cs ps (begun_by w s d n c rule ss gs ws fs cs ps)
    go accept p = by (open_fit_of s d n c rule cs ps p).here (taken h.0.answer)
    go (refuse r) p = unmoved
