-- Document 02, K14: "One and one give the old gate", over any run: from a table that is sound by the old rule, arrivals with a delta and a rho of 1 give the same
-- answers and the same tables by the gate of K14 and by the gate of a single array, refused ones among them. Assumes nothing.
use mathlib.Core.Path.{◌≡◌, refl, ap, ◌∙◌}
use mathlib.Core.Bool.{Bool, true, ◌&&◌}
use mathlib.Core.List.{List, [], ◌∷◌, map}
use Prim.Native.Nat.{ℕ}
use lib.Dec.{eqb}
use lib.ListN.{length, set}
use borrow.Author.Tests.{eqb-true}
use Rattle.lists.specs.Words.{if◌then◌else◌, all}
use Rattle.lists.specs.WordsLaws.{both}
use Rattle.rules.specs.Tables.{Request, Table, owner, of, idle}
use Rattle.rules.specs.declared.Settings.{Settings}
use Rattle.rules.specs.Sound.{spread, sound}
use Rattle.rules.specs.Events.{adjusted, stamped, placed, stamped_for, arrive_as, arrive, enter}
use Rattle.rules.specs.declared.Arriving.{Arriving}
use Rattle.rules.specs.declared.Event.{Event}
use Rattle.rules.specs.declared.Event.TheVariants.{Arrival, Completion, Tick}
use Rattle.rules.specs.Choice.{Pick, nobody, picked, least, due, open?, sending, earlier, renewed, drop_of, dropped, by_weight, by_reservation, room, choice}
use Rattle.rules.specs.Refusals.{Verdict, accept, refuse, is_accept, judged, event_tests, open_tests, verdict}
use Rattle.rules.specs.Run.{decided, step, after, answers, fresh}
use Rattle.rules.specs.Chosen.{unsent}
use Rattle.past.specs.Single.{sound_single, stamped_single, enter_single, sooner, dropped_single, by_weight_single, by_reservation_single, choice_single, event_tests_single, verdict_single, decided_single, step_single, after_single, answers_single, one_and_one, rho_some}
use Rattle.rules.proofs.Raises.{one-leaves}
use Rattle.rules.proofs.Facts.{Sound, sound_is, is_sound}
use Rattle.rules.proofs.Picks.{Goes, open_goes}
use Rattle.rules.proofs.EnterSound.{enter-sound}
use Rattle.rules.proofs.ChoiceSound.{choice-sound}
use Rattle.rules.proofs.Opening.{fresh-sound}
use Rattle.past.proofs.Spaced.{Spaced, single_is, is_single, next_drops, enter-spaced, choice-spaced}

-- WHAT AN EVENT DOES

-- a delta and a rho of 1 are delta and rho that there are
pub one-spread : (delta rho : ℕ) → eqb delta 1 ≡ true → eqb rho 1 ≡ true → spread delta rho ≡ true
unfolding spread
one-spread delta rho d r = rw (eqb-true delta 1 d, eqb-true rho 1 r)

-- and a rho of 1 is at least 1
pub one-some : (e : Event) → one_and_one e ≡ true → rho_some e ≡ true
one-some (Arrival a now) c = rw (eqb-true a.rho 1 (both (eqb a.delta 1) (eqb a.rho 1) c).1)
one-some (Completion f now) c = refl
one-some (Tick now) c = refl

-- the tags given
pub stamped_single_lem : (b : Bool) (now : ℕ) (a : Arriving) (t : Table) → eqb a.delta 1 && eqb a.rho 1 ≡ true → stamped_for b now a t ≡ stamped_single b now a t
stamped_single_lem b now a t c = let k = both (eqb a.delta 1) (eqb a.rho 1) c in ap (stamped b now a) (one-leaves a (owner t.guests a.guest) k.0 k.1)

-- before the choice
pub enter_single_lem : (t : Table) (e : Event) → one_and_one e ≡ true → enter t e ≡ enter_single t e
unfolding enter arrive arrive_as enter_single
enter_single_lem t (Arrival a now) c =
    let b = idle t a.guest in
    ap (λ (q : Request). placed now q (adjusted b now t)) (stamped_single_lem b now a t c)
enter_single_lem t (Completion f now) c = refl
enter_single_lem t (Tick now) c = refl

-- the drop
dropped_single_lem : (t : Table) → Sound t → Spaced t → (p : Request) (v : List Request) → Goes t p v → dropped p (sending t p v) ≡ dropped_single p (sending t p v)
unfolding dropped dropped_single renewed sooner sending
dropped_single_lem t s apt p v c =
    let h = owner t.guests p.guest in
    ap (λ (n : ℕ). record {
      setup = t.setup;
      time = t.time;
      guests = set t.guests p.guest (record { settings = h.settings; rnext = n; lnext = h.lnext; snext = h.snext });
      waiting = map (λ q. if of p.guest q then earlier (drop_of t p) q else q) v;
      flight = (sending t p v).flight;
    }) (next_drops t s apt p v c)

-- the choice
pub choice_single_lem : (t : Table) → Sound t → Spaced t → choice t ≡ choice_single t
unfolding choice by_reservation by_weight choice_single by_reservation_single by_weight_single
choice_single_lem t s apt = ap (λ r. if room t then r else unsent t) (reserve (least (due t) Request.rtag t.waiting))
  where
    weigh : (k : Pick) → least (open? t) Request.stag t.waiting ≡ k → by_weight t k ≡ by_weight_single t k
    weigh nobody e = refl
    weigh (picked p v) e =
        ap (λ (u : Table). record { table = u; answer = (by_weight t (picked p v)).answer }) (dropped_single_lem t s apt p v (open_goes t s p v e))

    reserve : (k : Pick) → by_reservation t k ≡ by_reservation_single t k
    reserve nobody = weigh (least (open? t) Request.stag t.waiting) refl
    reserve (picked p v) = refl

-- ONE EVENT

-- the verdicts are the same
verdict_single_lem : (t : Table) (e : Event) → Sound t → Spaced t → one_and_one e ≡ true → verdict t e ≡ verdict_single t e
unfolding event_tests event_tests_single
verdict_single_lem t (Arrival a now) s apt c =
    let k = both (eqb a.delta 1) (eqb a.rho 1) c in
    rw (is_sound t s, is_single t s apt, one-spread a.delta a.rho k.0 k.1, stamped_single_lem (idle t a.guest) now a t c)
verdict_single_lem t (Completion f now) s apt c = rw (is_sound t s, is_single t s apt)
verdict_single_lem t (Tick now) s apt c = rw (is_sound t s, is_single t s apt)

-- a table that is sound by the old rule, as the proofs carry it
pub record Old (t : Table) : Type 0 where
  pub is_sound : Sound t
  pub spaced : Spaced t

-- and what follows from them
pub step_single_lem : (t : Table) (e : Event) → Old t → one_and_one e ≡ true → (step t e ≡ step_single t e) × Old (step t e).table
unfolding step decided step_single decided_single
step_single_lem t e o c = rw (← verdict_single_lem t e o.is_sound o.spaced c) (go (verdict t e) refl)
  where
    go : (k : Verdict) → verdict t e ≡ k → (decided k t e ≡ decided_single k t e) × Old (decided k t e).table
    go accept h =
        let s = enter-sound t e (ap is_accept h) in
        let apt = enter-spaced t e (ap is_accept h) (one-some e c) o.spaced in (
          choice_single_lem (enter t e) s apt ∙ ap choice_single (enter_single_lem t e c),
          record { is_sound = choice-sound (enter t e) s; spaced = choice-spaced (enter t e) s apt },
        )
    go (refuse r) h = (refl, o)

-- A RUN

-- a run from t by the gate of K14 is the same by the gate of a single array, and ends where another such run may begin
pub record SameRunSingle (t : Table) (es : List Event) : Type 0 where
  pub same-answers : answers t es ≡ answers_single t es
  pub same-table : after t es ≡ after_single t es
  pub sound_by_both : (sound (after t es) ≡ true) × (sound_single (after t es) ≡ true)

-- from a table that is sound by the old rule
run_single : (es : List Event) (t : Table) → Old t → all one_and_one es ≡ true → SameRunSingle t es
unfolding answers after answers_single after_single
run_single [] t o c =
    record { same-answers = refl; same-table = refl; sound_by_both = (is_sound t o.is_sound, is_single t o.is_sound o.spaced) }
run_single (e ∷ es) t o c =
    let d = both (one_and_one e) (all one_and_one es) c in
    let n = step_single_lem t e o d.0 in
    let i = run_single es (step t e).table n.1 d.1 in
    record {
      same-answers = rw (← n.0) (ap ((step t e).answer ∷◌) i.same-answers);
      same-table = rw (← n.0) i.same-table;
      sound_by_both = i.sound_by_both;
    }

-- ONE AND ONE GIVE THE OLD GATE: from any table that is sound by the old rule, over any run of events whose arrivals have a delta and a rho of 1.
pub one_and_one_lem : (es : List Event) (t : Table) → sound_single t ≡ true → all one_and_one es ≡ true → SameRunSingle t es
one_and_one_lem es t h c = let o = single_is t h in run_single es t (record { is_sound = o.0; spaced = o.1 }) c

-- Such runs begin at an opening: one that is not refused gives a table that is sound by the old rule.
pub fresh_single : (short : Bool) (d n c r : ℕ) (ss : List Settings) → judged (open_tests short d n c r ss) ≡ accept → length ss ≡ n → sound_single (fresh d c r ss) ≡ true
unfolding fresh
fresh_single short d n c r ss h l = is_single (fresh d c r ss) (sound_is (fresh d c r ss) (fresh-sound short d n c r ss h l)) (λ g. refl)
