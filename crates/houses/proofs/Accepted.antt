-- What a call at an array comes to: where what is judged here before the gate is asked accepts, the gate's own call is handed on, and where that accepts too, it is
-- counted. Assumes nothing.
use Prim.Native.Nat.{ℕ, ◌<◌}
use mathlib.Core.Path.{◌≡◌, refl, sym, ap, ◌∙◌}
use mathlib.Core.Bool.{Bool, true, false, false≢true}
use mathlib.Core.List.{List, []}
use Rattle.rules.specs.Answers.{taken}
use Rattle.rules.specs.Refusals.{Verdict, accept, refuse, judged}
use Rattle.rules.specs.declared.Gate.{Gate}
use Rattle.gate.specs.Promise.{numbers, HandedIn, called, opened}
use Rattle.arrays.specs.declared.Site.{Site}
use Rattle.arrays.specs.declared.Ask.{Ask}
use Rattle.arrays.specs.declared.Ask.TheVariants.{Arrives, Completes, Ticks}
use Rattle.arrays.specs.Counters.{cleared_all}
use Rattle.arrays.specs.Phases.{phases_over}
use Rattle.arrays.specs.Promise.{with, ask_tests, handed_on, counted_by, phases_by, counted_at, asked_by, asked, opening_tests, started_at, begun_by, begun}
use Rattle.arrays.proofs.Found.{arrival_known, completion_known}

-- WHAT WAS JUDGED

-- the guest that an event names exists
abbrev pub Known : (n : ℕ) → Ask → Type 0
Known n (Arrives a now) = a.guest < n
Known n (Completes f now) = f.guest < n
Known n (Ticks now) = Unit {0}

-- so does the guest of an event that nothing here stands against
pub known-guest : (s : Site) (g : Gate) (cs ps : List ℕ) (k : Ask) → judged (ask_tests s g cs ps k) ≡ accept → Known g.guests k
known-guest s g cs ps (Arrives a now) h = arrival_known s g cs ps a now h
known-guest s g cs ps (Completes f now) h = completion_known s g cs ps f now h
known-guest s g cs ps (Ticks now) h = tt

-- WHAT IS HANDED ON

module _ (s : Site) (g : Gate) (gs ws fs cs ps : List ℕ) (k : Ask) where
  -- the gate's own call
  abbrev pub own : HandedIn numbers
  own = called (handed_on s g cs k) g gs ws fs

  -- what the gate's own call handed back is handed on, the counters and phases beside it
  pub handed_on_lem : judged (ask_tests s g cs ps k) ≡ accept → ((asked s g gs ws fs cs ps k).0 ≡ own.0) × ((asked s g gs ws fs cs ps k).1 ≡ own.1) × ((asked s g gs ws fs cs ps k).2 ≡ own.2) × ((asked s g gs ws fs cs ps k).3 ≡ own.3)
  unfolding asked
  handed_on_lem h = rw h (go (taken own.0.answer))
    where
      go : (b : Bool) → ((counted_at b s g fs cs ps k own).0 ≡ own.0) × ((counted_at b s g fs cs ps k own).1 ≡ own.1) × ((counted_at b s g fs cs ps k own).2 ≡ own.2) × ((counted_at b s g fs cs ps k own).3 ≡ own.3)
      go true = (refl, refl, refl, refl)
      go false = (refl, refl, refl, refl)

  -- an event is accepted where what is judged here accepts and the gate does; then it is counted
  pub record Took : Type 0 where
    pub judges : judged (ask_tests s g cs ps k) ≡ accept
    pub took : taken own.0.answer ≡ true
    pub hands : asked s g gs ws fs cs ps k ≡ with own (counted_by s g fs cs ps k) (phases_by g fs ps k own.0.answer)

  -- no other call is accepted
  pub accepted-took : taken (asked s g gs ws fs cs ps k).0.answer ≡ true → Took
  unfolding asked
  accepted-took = go (judged (ask_tests s g cs ps k)) refl
    where
      by : (b : Bool) → taken own.0.answer ≡ b → taken (counted_at b s g fs cs ps k own).0.answer ≡ true
          → (taken own.0.answer ≡ true) × (counted_at b s g fs cs ps k own ≡ with own (counted_by s g fs cs ps k) (phases_by g fs ps k own.0.answer))
      by true e t = (e, refl)
      by false e t = absurd (false≢true (sym e ∙ t))

      go : (w : Verdict) → judged (ask_tests s g cs ps k) ≡ w → taken (asked_by w s g gs ws fs cs ps k).0.answer ≡ true → Took
      go accept p t =
          let x = by (taken own.0.answer) refl t in
          record { judges = p; took = x.0; hands = ap (λ (w : Verdict). asked_by w s g gs ws fs cs ps k) p ∙ x.1 }
      go (refuse r) p t = absurd (false≢true t)

-- AN OPENING

module _ (s : Site) (d n c rule : ℕ) (ss gs ws fs cs ps : List ℕ) where
  -- it is accepted where what is judged here accepts and the gate's own opening is; then the array's counters and phases begin at 0
  pub record OpeningTook : Type 0 where
    pub judges : judged (opening_tests s d n c rule cs ps) ≡ accept
    pub took : taken (opened d n c rule ss gs ws fs).0.answer ≡ true
    pub hands : begun s d n c rule ss gs ws fs cs ps ≡ with (opened d n c rule ss gs ws fs) (cleared_all n s.array n cs) (phases_over d [] ps)

  -- no other opening is accepted
  pub opening-took : taken (begun s d n c rule ss gs ws fs cs ps).0.answer ≡ true → OpeningTook
  unfolding begun
  opening-took = go (judged (opening_tests s d n c rule cs ps)) refl
    where
      h : HandedIn numbers
      h = opened d n c rule ss gs ws fs

      by : (b : Bool) → taken h.0.answer ≡ b → taken (started_at b s d n cs ps h).0.answer ≡ true
          → (taken h.0.answer ≡ true) × (started_at b s d n cs ps h ≡ with h (cleared_all n s.array n cs) (phases_over d [] ps))
      by true e t = (e, refl)
      by false e t = absurd (false≢true (sym e ∙ t))

      go : (w : Verdict) → judged (opening_tests s d n c rule cs ps) ≡ w → taken (begun_by w s d n c rule ss gs ws fs cs ps).0.answer ≡ true → OpeningTook
      go accept p t =
          let x = by (taken h.0.answer) refl t in
          record { judges = p; took = x.0; hands = ap (λ (w : Verdict). begun_by w s d n c rule ss gs ws fs cs ps) p ∙ x.1 }
      go (refuse r) p t = absurd (false≢true t)
