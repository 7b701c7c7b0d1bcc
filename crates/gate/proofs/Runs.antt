-- A run of calls, each handed what the last one left, answers what a run of steps of document 01 answers, and leaves what it leaves. Assumes nothing.
use Prim.Native.Nat.{ℕ, ◌*◌, ◌≤◌}
use mathlib.Core.Path.{◌≡◌, refl, sym, ap, ◌∙◌, subst}
use mathlib.Core.Bool.{Bool, true, false, not, false≢true}
use mathlib.Core.List.{List, [], ◌∷◌}
use lib.ListN.{length}
use borrow.Author.Tests.{not-true}
use Rattle.lists.specs.Words.{all}
use Rattle.lists.specs.WordsLaws.{both, join}
use Rattle.rules.specs.Tables.{Table}
use Rattle.rules.specs.Sound.{sound}
use Rattle.rules.specs.Events.{enter}
use Rattle.rules.specs.declared.Event.{Event}
use Rattle.rules.specs.declared.Event.TheVariants.{Arrival, Completion, Tick}
use Rattle.rules.specs.Refusals.{Verdict, accept, refuse, verdict}
use Rattle.rules.specs.Run.{decided, step, after, answers}
use Rattle.rules.specs.Waking.{told, wakes}
use Rattle.rules.specs.declared.Setup.{Setup}
use Rattle.rules.specs.declared.Refusal.{Refusal}
use Rattle.rules.specs.declared.Answer.TheVariants.{Refused}
use Rattle.rules.proofs.SameSettings.{SameSettings, same_count, step-settings}
use Rattle.rules.proofs.ChoiceNames.{choice-all}
use Rattle.rules.proofs.StepSound.{step-sound}
use Rattle.table.specs.Columns.{waiting_wide, flight_wide}
use Rattle.table.specs.View.{identified}
use Rattle.enter.proofs.Ids.{Brings, enter-all}
use Rattle.enter.proofs.Entering.{narrow as short_id}
use Rattle.gate.specs.Promise.{Lending, HandedIn, handed_in, short_in, sound_in, unchanged_in, followed_in, called_in}
use Rattle.gate.specs.Calls.{Host, holds, call, held, replies, wakings, shows, firm, narrow, taken}
use Rattle.gate.proofs.Lending.{Lawful, sound-judged, sound-shown, Roomy, long_roomy, short-refused_in, unsound_refused_in, firm-judged}
use Rattle.gate.proofs.Written.{Holds, handed-shown, handed-holds}

-- ONE STEP

-- an id of 32 bits is brought
narrow-brings : (e : Event) → narrow e ≡ true → Brings short_id e
narrow-brings (Arrival a now) h = h
narrow-brings (Completion f now) h = tt
narrow-brings (Tick now) h = tt

-- so the ids of the table stay so
step-identified : (t : Table) (e : Event) → narrow e ≡ true → identified t ≡ true → identified (step t e).table ≡ true
unfolding step decided
step-identified t e n i = go (verdict t e)
  where
    go : (v : Verdict) → identified (decided v t e).table ≡ true
    go accept = choice-all short_id (enter t e) (enter-all short_id t e (narrow-brings e n) i)
    go (refuse r) = i

module _ (v : Lending) (lawful : Lawful v) where
  pub firm-holds : (h : Host v) → firm v h ≡ true → Holds v h
  firm-holds h f =
      let c = both (not (short_in v h.gate h.guests h.waiting h.flight)) (sound_in v h.gate h.guests h.waiting h.flight) f in
      record { long = not-true (short_in v h.gate h.guests h.waiting h.flight) c.0; whole = c.1 }

  pub holds-firm : (h : Host v) → Holds v h → firm v h ≡ true
  holds-firm h k = join (ap not k.long) k.whole

  -- ONE CALL on a host whose tables are long enough and sound

  module _ (h : Host v) (k : Holds v h) where
    abbrev t : Table
    t = shows v h

    shown : (sound t ≡ true) × (identified t ≡ true)
    shown = sound-shown v lawful h.gate h.guests h.waiting h.flight k.whole

    -- they show a sound table
    pub holds-sound : sound (shows v h) ≡ true
    holds-sound = shown.0

    roomy : Roomy v lawful h.gate h.guests h.waiting h.flight
    roomy = long_roomy v lawful h.gate h.guests h.waiting h.flight (sound-judged v lawful h.gate h.guests h.waiting h.flight k.whole).is_counted k.long

    module _ (e : Event) where
      abbrev follows : Verdict → HandedIn v
      follows w = followed_in v w e h.gate h.guests h.waiting h.flight

      is_followed : call v e h ≡ follows (verdict t e)
      unfolding called_in
      is_followed = ap follows (firm-judged v h.gate h.guests h.waiting h.flight e k.long k.whole holds-sound)

      -- accepted: the step is written over what was lent
      accepted-call : verdict t e ≡ accept → call v e h ≡ handed_in v h.guests h.waiting h.flight (step t e)
      unfolding step decided
      accepted-call p = is_followed ∙ ap follows p ∙ ap (λ (w : Verdict). handed_in v h.guests h.waiting h.flight (decided w t e)) (sym p)

      -- refused: nothing moves, and the step leaves the table
      refused-call : (r : Refusal) → verdict t e ≡ refuse r → call v e h ≡ unchanged_in v h.gate h.guests h.waiting h.flight (Refused r)
      refused-call r p = is_followed ∙ ap follows p

      refused-step : (r : Refusal) → verdict t e ≡ refuse r → step t e ≡ record { table = t; answer = Refused r }
      unfolding step decided
      refused-step r p = ap (λ (w : Verdict). decided w t e) p

      settings : SameSettings (step t e).table t
      settings = step-settings t e

      guest-room : v.needs (length (step t e).table.guests) ≤ length h.guests
      guest-room =
          subst (λ (m : ℕ). v.needs m ≤ length h.guests) (sym (same_count (step t e).table t settings ∙ lawful.counts h.guests h.gate.guests)) roomy.guest_room

      waiting-room : (step t e).table.setup.capacity * waiting_wide ≤ length h.waiting
      waiting-room = subst (λ (s : Setup). s.capacity * waiting_wide ≤ length h.waiting) (sym settings.setup) roomy.waiting_room

      flight_room : (step t e).table.setup.depth * flight_wide ≤ length h.flight
      flight_room = subst (λ (s : Setup). s.depth * flight_wide ≤ length h.flight) (sym settings.setup) roomy.flight_room

      steady : sound (step t e).table ≡ true
      steady = step-sound t e holds-sound

      -- it answers what the step answers
      pub call-answers : (call v e h).0.answer ≡ (step (shows v h) e).answer
      unfolding handed_in
      call-answers = go (verdict t e) refl
        where
          go : (w : Verdict) → verdict t e ≡ w → (call v e h).0.answer ≡ (step t e).answer
          go accept p = ap (λ c. c.0.answer) (accepted-call p)
          go (refuse r) p = ap (λ c. c.0.answer) (refused-call r p) ∙ sym (ap (λ c. c.answer) (refused-step r p))

      -- and carries what the step carries
      pub call-wakes : (call v e h).0.wake ≡ told (step (shows v h) e)
      unfolding handed_in
      call-wakes = go (verdict t e) refl
        where
          go : (w : Verdict) → verdict t e ≡ w → (call v e h).0.wake ≡ told (step t e)
          go accept p = ap (λ c. c.0.wake) (accepted-call p)
          go (refuse r) p = ap (λ c. c.0.wake) (refused-call r p) ∙ sym (ap told (refused-step r p))

      -- the host's tables then show the table of the step
      pub call-shows : shows v (holds v (call v e h)) ≡ (step (shows v h) e).table
      call-shows = go (verdict t e) refl
        where
          go : (w : Verdict) → verdict t e ≡ w → shows v (holds v (call v e h)) ≡ (step t e).table
          go accept p =
              ap (λ (c : HandedIn v). shows v (holds v c)) (accepted-call p)
              ∙ handed-shown v lawful h.guests h.waiting h.flight (step t e) guest-room waiting-room flight_room steady
          go (refuse r) p = ap (λ (c : HandedIn v). shows v (holds v c)) (refused-call r p) ∙ sym (ap (λ c. c.table) (refused-step r p))

      -- and are long enough and sound again
      pub call-holds : narrow e ≡ true → Holds v (holds v (call v e h))
      call-holds n = go (verdict t e) refl
        where
          go : (w : Verdict) → verdict t e ≡ w → Holds v (holds v (call v e h))
          go accept p =
              subst (λ (c : HandedIn v). Holds v (holds v c)) (sym (accepted-call p))
              (handed-holds v lawful h.guests h.waiting h.flight (step t e) guest-room waiting-room flight_room steady (step-identified t e n shown.1))
          go (refuse r) p = subst (λ (c : HandedIn v). Holds v (holds v c)) (sym (refused-call r p)) (record { long = k.long; whole = k.whole })

  -- A RUN

  -- what a run of calls does: it answers as the run of steps, carries the same times to wake, leaves its table, and leaves the host's tables long
  -- enough and sound
  pub record Runs (h : Host v) (es : List Event) : Type 0 where
    pub answered : replies v h es ≡ answers (shows v h) es
    pub woken : wakings v h es ≡ wakes (shows v h) es
    pub left : shows v (held v h es) ≡ after (shows v h) es
    pub still : firm v (held v h es) ≡ true

  -- from a host whose tables are long enough and sound, whatever the events
  pub calls_run : (es : List Event) (h : Host v) → firm v h ≡ true → all narrow es ≡ true → Runs h es
  unfolding held replies wakings answers wakes after
  calls_run [] h f n = record { answered = refl; woken = refl; left = refl; still = f }
  calls_run (e ∷ es) h f n =
      let c = both (narrow e) (all narrow es) n in
      let k = firm-holds h f in
      let u = holds v (call v e h) in
      let i = calls_run es u (holds-firm u (call-holds h k e c.0)) c.1 in
      let s = call-shows h k e in
      record {
        answered = λ j. call-answers h k e j ∷ (i.answered ∙ ap (λ (x : Table). answers x es) s) j;
        woken = λ j. call-wakes h k e j ∷ (i.woken ∙ ap (λ (x : Table). wakes x es) s) j;
        left = i.left ∙ ap (λ (x : Table). after x es) s;
        still = i.still;
      }

  -- ANY OTHER HOST: every call is refused, and nothing moves

  -- one call
  pub infirm_call : (h : Host v) → firm v h ≡ false → (e : Event) → (taken (call v e h).0.answer ≡ false) × (holds v (call v e h) ≡ h)
  infirm_call h f e = go (short_in v h.gate h.guests h.waiting h.flight) refl (sound_in v h.gate h.guests h.waiting h.flight) refl
    where
      go : (a : Bool) → short_in v h.gate h.guests h.waiting h.flight ≡ a → (b : Bool) → sound_in v h.gate h.guests h.waiting h.flight ≡ b
          → (taken (call v e h).0.answer ≡ false) × (holds v (call v e h) ≡ h)
      go true s b n = let p = short-refused_in v h.gate h.guests h.waiting h.flight e s in (ap (λ c. taken c.0.answer) p, ap (holds v) p)
      go false s false n = let p = unsound_refused_in v h.gate h.guests h.waiting h.flight e s n in (ap (λ c. taken c.0.answer) p, ap (holds v) p)
      go false s true n = absurd (false≢true (sym f ∙ join (ap not s) n))

  -- a run
  pub infirm_run : (es : List Event) (h : Host v) → firm v h ≡ false → (all (λ a. not (taken a)) (replies v h es) ≡ true) × (held v h es ≡ h)
  unfolding held replies
  infirm_run [] h f = (refl, refl)
  infirm_run (e ∷ es) h f =
      let c = infirm_call h f e in
      let i = infirm_run es (holds v (call v e h)) (ap (firm v) c.1 ∙ f) in
      (join (ap not c.0) i.0, i.1 ∙ c.1)
