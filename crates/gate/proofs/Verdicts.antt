-- What a call over numbers hands back, by what is found of them: where they are short or not sound nothing moves, and where they are known the
-- call is one step of document 01. Assumes nothing.
use Prim.Native.Nat.{ℕ, ◌*◌}
use mathlib.Core.Path.{◌≡◌, refl, ap, ◌∙◌}
use mathlib.Core.Bool.{true, false, and-false}
use mathlib.Core.List.{List}
use lib.ListN.{length}
use borrow.Author.Tests.{le-ltb}
use Rattle.rules.specs.Tables.{Table}
use Rattle.rules.specs.Choice.{Result}
use Rattle.rules.specs.declared.Event.{Event}
use Rattle.rules.specs.Refusals.{Verdict, accept, refuse, verdict}
use Rattle.rules.specs.Run.{decided, step}
use Rattle.rules.specs.declared.Gate.{Gate}
use Rattle.rules.specs.declared.Refusal.TheVariants.{ShortTable, Unsound}
use Rattle.rules.specs.declared.Answer.TheVariants.{Refused}
use Rattle.table.specs.Columns.{guest_wide, waiting_wide, flight_wide}
use Rattle.table.specs.View.{table_of, handed, countable, short, sound_numbers, Known}
use Rattle.sound.proofs.Judged.{judged_is}
use Rattle.sound.proofs.SoundKnown.{known-sound, sound-known}
use Rattle.sound.proofs.Fitted.{fitting}
use Rattle.table.specs.Does.{does}
use Rattle.step.proofs.Moves.{refused-same}
use Rattle.gate.specs.Promise.{numbers, handed_in, short_in, sound_in, unchanged, followed_in, called, called_in}
use Rattle.gate.proofs.Lending.{numbers-lawful, uncounted_in, short-refused_in, unsound_refused_in, firm-judged}

-- a result is written over numbers as the step writes it
pub handed-numbers : (gs ws fs : List ℕ) (r : Result) → handed_in numbers gs ws fs r ≡ handed gs ws fs r
unfolding handed_in handed
handed-numbers gs ws fs r = refl

module _ (g : Gate) (gs ws fs : List ℕ) where
  abbrev t : Table
  t = table_of g gs ws fs

  -- WHAT IS FOUND

  -- lengths and soundness are those that the functions below test
  pub short-numbers : short_in numbers g gs ws fs ≡ short g gs ws fs
  unfolding short_in short
  short-numbers = refl

  pub sound-numbers : sound_in numbers g gs ws fs ≡ sound_numbers g gs ws fs
  unfolding sound_in sound_numbers
  sound-numbers = refl

  -- tables that are long enough and sound are known
  pub firm-known : short g gs ws fs ≡ false → sound_numbers g gs ws fs ≡ true → Known g gs ws fs
  firm-known s h = sound-known g gs ws fs (fitting g gs ws fs (judged_is g gs ws fs h).is_counted s) h

  -- known tables are long enough
  pub known_long : Known g gs ws fs → short g gs ws fs ≡ false
  unfolding short
  known_long k =
      rw (le-ltb (length gs) (g.guests * guest_wide) k.guest_room, le-ltb (length ws) (g.setup.capacity * waiting_wide) k.waiting_room, le-ltb (length fs) (g.setup.depth * flight_wide) k.flight_room)
      (and-false (countable g))

  -- counts out of range "give 3 at once"
  pub uncounted : countable g ≡ false → (short g gs ws fs ≡ false) × (sound_numbers g gs ws fs ≡ false)
  uncounted c = rw (short-numbers, sound-numbers) at (uncounted_in numbers numbers-lawful g gs ws fs c)

  -- WHAT IS HANDED BACK

  module _ (e : Event) where
    pub short-refused : short g gs ws fs ≡ true → called e g gs ws fs ≡ unchanged g gs ws fs (Refused ShortTable)
    short-refused s = short-refused_in numbers g gs ws fs e (short-numbers ∙ s)

    pub unsound_refused : short g gs ws fs ≡ false → sound_numbers g gs ws fs ≡ false → called e g gs ws fs ≡ unchanged g gs ws fs (Refused Unsound)
    unsound_refused s h = unsound_refused_in numbers g gs ws fs e (short-numbers ∙ s) (sound-numbers ∙ h)

    pub known-called : Known g gs ws fs → called e g gs ws fs ≡ does (λ t. step t e) g gs ws fs
    unfolding called_in step decided
    known-called k =
        ap (λ (v : Verdict). followed_in numbers v e g gs ws fs) (firm-judged numbers g gs ws fs e (short-numbers ∙ known_long k) (sound-numbers ∙ known-sound g gs ws fs k) k.is_sound) ∙ go (verdict t e) refl
      where
        go : (v : Verdict) → verdict t e ≡ v → followed_in numbers v e g gs ws fs ≡ does (λ t. step t e) g gs ws fs
        go accept h = rw h (handed-numbers gs ws fs _)
        go (refuse r) h = refused-same g gs ws fs k e r h
