-- Opening gives a sound table, every accepted event keeps it sound, and a refused one leaves the table equal. Assumes nothing.
use mathlib.Core.Path.{◌≡◌, refl}
use mathlib.Core.Bool.{Bool, true, false, true≢false, false≢true}
use mathlib.Core.List.{List, [], ◌∷◌}
use Rattle.rules.specs.Tables.{Table}
use Rattle.rules.specs.Sound.{sound}
use Rattle.rules.specs.Choice.{choice}
use Rattle.rules.specs.Events.{Event, enter}
use Rattle.rules.specs.Refusals.{Verdict, accept, refuse, is_accept, verdict, accepted}
use Rattle.rules.specs.Run.{decided, step, after}
use Rattle.rules.proofs.Facts.{is_sound}
use Rattle.rules.proofs.ChoiceSound.{choice-sound}
use Rattle.rules.proofs.EnterSound.{enter-sound}

-- what an accepted event and a refused one come to
pub accepted-step : (t : Table) (e : Event) → accepted t e ≡ true → step t e ≡ choice (enter t e)
unfolding step decided
accepted-step t e = go (verdict t e)
  where
    go : (v : Verdict) → is_accept v ≡ true → decided v t e ≡ choice (enter t e)
    go accept h = refl
    go (refuse r) h = absurd (false≢true h)

-- A refused event leaves the table equal.
pub refused_keeps : (t : Table) (e : Event) → accepted t e ≡ false → (step t e).table ≡ t
unfolding step decided
refused_keeps t e = go (verdict t e)
  where
    go : (v : Verdict) → is_accept v ≡ false → (decided v t e).table ≡ t
    go accept h = absurd (true≢false h)
    go (refuse r) h = refl

-- An accepted event leaves a sound table, for it finds one.
pub accepted-sound : (t : Table) (e : Event) → accepted t e ≡ true → sound (step t e).table ≡ true
accepted-sound t e a = rw (accepted-step t e a) (is_sound (choice (enter t e)).table (choice-sound (enter t e) (enter-sound t e a)))

-- Every event, accepted or refused, keeps a table sound.
pub step-sound : (t : Table) (e : Event) → sound t ≡ true → sound (step t e).table ≡ true
step-sound t e h = go (accepted t e) refl
  where
    go : (b : Bool) → accepted t e ≡ b → sound (step t e).table ≡ true
    go true a = accepted-sound t e a
    go false a = rw (refused_keeps t e a) h

-- And so does any run of events.
pub run_sound : (es : List Event) (t : Table) → sound t ≡ true → sound (after t es) ≡ true
unfolding after
run_sound [] t h = h
run_sound (e ∷ es) t h = run_sound es (step t e).table (step-sound t e h)
