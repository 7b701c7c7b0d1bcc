-- What is in flight after a call that is accepted, for every way in which guests are lent: what was in flight without what the event takes out, and last what the call
-- sends. The numbers chosen at opening stay. Assumes nothing.
use Prim.Native.Nat.{◌≤◌}
use mathlib.Core.Path.{◌≡◌, refl, sym, ap, ◌∙◌}
use mathlib.Core.Bool.{Bool, true, false, not, false≢true}
use mathlib.Core.List.{List, [], ◌∷◌, ◌++◌, map, append_assoc}
use native.Mathlib.Omega.{arith}
use lib.ListN.{length}
use Rattle.lists.specs.RowsLaws.{length-rows}
use Rattle.lists.specs.WordsLaws.{both, all_parts}
use Rattle.rules.specs.Tables.{Table, name, same, lacks}
use Rattle.rules.specs.Sound.{distinct, sound}
use Rattle.rules.specs.Refusals.{tests, event_tests, accepted}
use Rattle.rules.specs.Run.{step}
use Rattle.rules.specs.declared.Event.{Event}
use Rattle.rules.specs.declared.Event.TheVariants.{Arrival, Completion, Tick}
use Rattle.rules.specs.declared.Flight.{Flight}
use Rattle.rules.specs.declared.Setup.{Setup}
use Rattle.rules.specs.declared.Answer.{Answer}
use Rattle.rules.specs.declared.Answer.TheVariants.{Nothing, Sent, Refused}
use Rattle.rules.proofs.Answered.{step-taken}
use Rattle.rules.proofs.Facts.{sound_is}
use Rattle.rules.proofs.InFlight.{joined_by, left_by, in_order_of-sending}
use Rattle.rules.proofs.Judged.{passed}
use Rattle.rules.proofs.Names.{distinct_mid}
use Rattle.rules.proofs.SameSettings.{same_count, step-settings}
use Rattle.rules.proofs.StepSound.{step-sound}
use Rattle.table.specs.View.{name_is, flight_form, flights_of}
use Rattle.gate.specs.Promise.{Lending}
use Rattle.gate.specs.Calls.{Host, call, shows, firm, taken}
use Rattle.gate.proofs.Lending.{Lawful}
use Rattle.gate.proofs.Runs.{firm-holds, holds-sound, call-answers, call-shows, infirm_call}

-- what a completion names is among those in flight
abbrev pub Named : Event → List Flight → Type 0
Named (Arrival a now) l = Unit {0}
Named (Completion f now) l = lacks f l ≡ false
Named (Tick now) l = Unit {0}

accepted-named : (t : Table) (e : Event) → accepted t e ≡ true → Named e t.flight
unfolding event_tests
accepted-named t (Arrival a now) c = tt
accepted-named t (Completion f now) c = passed (tests false (not (sound t)) t (Completion f now)) c 10
accepted-named t (Tick now) c = tt

-- what an answer sends is none of those
abbrev pub New : Answer → List Flight → Type 0
New Nothing l = Unit {0}
New (Sent p g i) l = lacks (name_is g i) l ≡ true
New (Refused r) l = Unit {0}

-- in a sound table, where what it sends comes last in flight
joined-new : (t : Table) → sound t ≡ true → (a : Answer) (l : List Flight) → t.flight ≡ joined_by a l → New a l
joined-new t s Nothing l e = tt
joined-new t s (Sent p g i) l e =
    let w = map name t.waiting in
    let d : distinct ((w ++ l) ++ name_is g i ∷ []) ≡ true = rw (append_assoc w l (name_is g i ∷ [])) (rw e at (sound_is t s).names_once) in
    let c = both (lacks (name_is g i) ((w ++ l) ++ [])) (distinct ((w ++ l) ++ [])) (rw (distinct_mid (w ++ l) (name_is g i) []) at d) in
    (all_parts (λ b. not (same (name_is g i) b)) w l (all_parts (λ b. not (same (name_is g i) b)) (w ++ l) [] c.0).0).1
joined-new t s (Refused r) l e = tt

module _ (v : Lending) (lawful : Lawful v) (h : Host v) (e : Event) where
  -- a call that is accepted: the tables were long enough and sound, and what is in flight before it and after it
  pub record Flown : Type 0 where
    pub firmly : firm v h ≡ true
    pub setup : (call v e h).0.gate.setup ≡ h.gate.setup
    pub guests : (call v e h).0.gate.guests ≡ h.gate.guests
    pub named : Named e (flights_of h.flight h.gate.flight)
    pub flights : flights_of (call v e h).3 (call v e h).0.gate.flight ≡ joined_by (call v e h).0.answer (left_by e (flights_of h.flight h.gate.flight))
    pub new : New (call v e h).0.answer (left_by e (flights_of h.flight h.gate.flight))
    pub fits : (call v e h).0.gate.flight ≤ h.gate.setup.depth

  pub flown_by : taken (call v e h).0.answer ≡ true → Flown
  flown_by a = go (firm v h) refl
    where
      go : (b : Bool) → firm v h ≡ b → Flown
      go false f = absurd (false≢true (sym (infirm_call v lawful h f e).0 ∙ a))
      go true f =
          let k = firm-holds v lawful h f in
          let c = call-answers v lawful h k e in
          let s = call-shows v lawful h k e in
          let u = (step (shows v h) e).table in
          let ok : accepted (shows v h) e ≡ true = sym (step-taken (shows v h) e) ∙ sym (ap taken c) ∙ a in
          let firmer = step-sound (shows v h) e (holds-sound v lawful h k) in
          let same = step-settings (shows v h) e in
          let left = left_by e (shows v h).flight in
          let sent : u.flight ≡ joined_by (call v e h).0.answer left = in_order_of-sending (shows v h) e ok ∙ sym (ap (λ (x : Answer). joined_by x left) c) in
          record {
            firmly = f;
            setup = ap Table.setup s ∙ same.setup;
            guests =
                sym (lawful.counts (call v e h).1 (call v e h).0.gate.guests) ∙ ap (λ (x : Table). length x.guests) s
                ∙ same_count u (shows v h) same ∙ lawful.counts h.guests h.gate.guests;
            named = accepted-named (shows v h) e ok;
            flights = ap Table.flight s ∙ sent;
            new = joined-new u firmer (call v e h).0.answer left sent;
            fits =
                let n : (call v e h).0.gate.flight ≡ length u.flight = sym (length-rows flight_form (call v e h).3 (call v e h).0.gate.flight) ∙ ap (λ (x : Table). length x.flight) s in
                let d : u.setup.depth ≡ h.gate.setup.depth = ap (λ (x : Setup). x.depth) same.setup in
                omega (arith, (sound_is u firmer).flight_fits);
          }
