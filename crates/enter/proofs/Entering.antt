-- An accepted event enters the tables: numbers that show what it enters are known again. Assumes nothing.
use Prim.Native.Nat.{ℕ}
use mathlib.Core.Path.{◌≡◌, sym, ap, subst}
use mathlib.Core.Bool.{Bool, true}
use mathlib.Core.List.{List}
use lib.Dec.{ltb}
use Rattle.rules.specs.Tables.{Table}
use Rattle.rules.specs.declared.Flight.{Flight}
use Rattle.rules.specs.Sound.{sound}
use Rattle.rules.specs.Events.{enter}
use Rattle.rules.specs.declared.Event.{Event}
use Rattle.rules.specs.Refusals.{accept, verdict, is_accept}
use Rattle.rules.proofs.Facts.{is_sound}
use Rattle.rules.proofs.EnterSound.{enter-sound}
use Rattle.rules.proofs.SameSettings.{enter-settings}
use Rattle.rules.specs.declared.Gate.{Gate}
use Rattle.table.specs.View.{table_of, Known}
use Rattle.table.specs.Does.{Lent, written}
use Rattle.table.proofs.Lens.{written_known, known-room}
use Rattle.enter.specs.Enters.{EntersAt}
use Rattle.enter.proofs.Ids.{Brings, enter-all}

-- an id of 32 bits
abbrev pub narrow : Flight → Bool
narrow f = ltb f.id 4294967296

module _ (g : Gate) (gs ws fs : List ℕ) (k : Known g gs ws fs) (e : Event) where
  abbrev t : Table
  t = table_of g gs ws fs

  module _ (taken : verdict t e ≡ accept) (brings : Brings narrow e) where
    abbrev u : Table
    u = enter t e

    firm : sound u ≡ true
    firm = is_sound u (enter-sound t e (ap is_accept taken))

    -- numbers that show the entered table are known: that is what an accepted event promises
    pub entered_at : (h : Gate) (hs vs es : List ℕ) → (h, hs, vs, es) ≡ written gs ws fs u → EntersAt e g gs ws fs h hs vs es
    entered_at h hs vs es p =
        record {
          accepts = taken;
          shows = p;
          known =
              subst (λ (x : Lent). Known x.0 x.1 x.2 x.3) (sym p)
              (written_known gs ws fs u (known-room g gs ws fs k u (enter-settings t e)) firm (enter-all narrow t e brings k.is_identified));
        }
