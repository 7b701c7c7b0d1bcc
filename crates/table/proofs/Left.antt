-- What a choice or a step leaves over lent numbers: it shows the table after it, is known again, and with the time to wake is what a call hands back.
-- Assumes nothing.
use Rattle.std.specs.Prelude.{Option}
use Prim.Native.Nat.{ℕ}
use mathlib.Core.Path.{◌≡◌, sym, ap, ◌∙◌, subst}
use mathlib.Core.Bool.{true}
use mathlib.Core.List.{List}
use Rattle.rules.specs.Tables.{Table}
use Rattle.rules.specs.Sound.{sound}
use Rattle.rules.specs.Choice.{Result}
use Rattle.rules.specs.Waking.{told}
use Rattle.rules.proofs.SameSettings.{SameSettings}
use Rattle.rules.specs.declared.Gate.{Gate}
use Rattle.rules.specs.declared.Answer.{Answer}
use Rattle.table.specs.declared.gates.Decision.{Decision}
use Rattle.table.specs.View.{decision_of, outcome_of, table_of, handed, identified, Known}
use Rattle.table.specs.Does.{Lent, does, Leaves}
use Rattle.table.proofs.Lens.{written-shown, written_known, known-room, known_written}

module _ (g : Gate) (gs ws fs : List ℕ) where
  abbrev t : Table
  t = table_of g gs ws fs

  module _ (k : Known g gs ws fs) where
    -- where the table stays, so do the gate and the lent numbers
    pub stays : {f : Table → Result} {a : Answer} → f t ≡ record { table = t; answer = a } → Leaves f g gs ws fs (decision_of g a) gs ws fs
    stays e = record { shows = rw e (known_written g gs ws fs k); answers = rw e }

    module _ {f : Table → Result} (d : Decision) (hs vs es : List ℕ) (l : Leaves f g gs ws fs d hs vs es) (same : SameSettings (f t).table t) (firm : sound (f t).table ≡ true) where
      -- the table after it is shown
      pub left-shown : table_of d.gate hs vs es ≡ (f t).table
      left-shown = ap (λ (x : Lent). table_of x.0 x.1 x.2 x.3) l.shows ∙ written-shown gs ws fs (f t).table (known-room g gs ws fs k (f t).table same) firm

      -- and known
      pub left-known : identified (f t).table ≡ true → Known d.gate hs vs es
      left-known ids =
          subst (λ (x : Lent). Known x.0 x.1 x.2 x.3) (sym l.shows) (written_known gs ws fs (f t).table (known-room g gs ws fs k (f t).table same) firm ids)

  -- with the time to wake it is handed back
  pub left-handed : {f : Table → Result} (d : Decision) (hs vs es : List ℕ) → Leaves f g gs ws fs d hs vs es → (w : Option ℕ) → w ≡ told (f t)
      → (outcome_of d.gate d.answer w, hs, vs, es) ≡ does f g gs ws fs
  unfolding handed
  left-handed d hs vs es l w e = λ i. (outcome_of (l.shows i).0 (l.answers i) (e i), (l.shows i).1, (l.shows i).2, (l.shows i).3)
