-- After a choice or a step the tables are known again, and show the table after it: so soundness, shown once, holds through any run of calls.
-- Assumes nothing.
use Prim.Native.Nat.{ℕ}
use mathlib.Core.Path.{◌≡◌, refl, ap, ◌∙◌}
use mathlib.Core.Bool.{Bool, true, false}
use mathlib.Core.List.{List}
use Rattle.rules.specs.Tables.{Table}
use Rattle.rules.specs.Sound.{sound}
use Rattle.rules.specs.Choice.{choice}
use Rattle.rules.specs.Events.{enter}
use Rattle.rules.specs.declared.Event.{Event}
use Rattle.rules.specs.Refusals.{accepted}
use Rattle.rules.specs.Run.{step}
use Rattle.rules.proofs.SameSettings.{choice-settings, step-settings}
use Rattle.rules.proofs.Facts.{sound_is, is_sound}
use Rattle.rules.proofs.ChoiceSound.{choice-sound}
use Rattle.rules.proofs.ChoiceNames.{choice-all}
use Rattle.rules.proofs.StepSound.{accepted-step, refused_keeps, step-sound}
use Rattle.rules.specs.declared.Gate.{Gate}
use Rattle.table.specs.declared.gates.Decision.{Decision}
use Rattle.table.specs.View.{table_of, identified, Known}
use Rattle.table.specs.Does.{Leaves}
use Rattle.table.proofs.Left.{left-shown, left-known}
use Rattle.enter.proofs.Ids.{Brings, enter-all}
use Rattle.enter.proofs.Entering.{narrow}

module _ (g : Gate) (gs ws fs : List ℕ) (k : Known g gs ws fs) (d : Decision) (hs vs es : List ℕ) where
  abbrev t : Table
  t = table_of g gs ws fs

  -- AFTER A CHOICE

  module _ (l : Leaves choice g gs ws fs d hs vs es) where
    firm : sound (choice t).table ≡ true
    firm = is_sound (choice t).table (choice-sound t (sound_is t k.is_sound))

    -- its table is shown
    pub choice-shown : table_of d.gate hs vs es ≡ (choice (table_of g gs ws fs)).table
    choice-shown = left-shown g gs ws fs k d hs vs es l (choice-settings t) firm

    -- and all is known again
    pub choice-known : Known d.gate hs vs es
    choice-known = left-known g gs ws fs k d hs vs es l (choice-settings t) firm (choice-all narrow t k.is_identified)

  -- AFTER A STEP

  module _ (e : Event) (l : Leaves (λ t. step t e) g gs ws fs d hs vs es) where
    -- its table is shown
    pub step-shown : table_of d.gate hs vs es ≡ (step (table_of g gs ws fs) e).table
    step-shown = left-shown g gs ws fs k d hs vs es l (step-settings t e) (step-sound t e k.is_sound)

    module _ (brings : Brings narrow e) where
      -- a step brings only the id that arrives
      step-identified : identified (step t e).table ≡ true
      step-identified = go (accepted t e) refl
        where
          go : (b : Bool) → accepted t e ≡ b → identified (step t e).table ≡ true
          go true a = rw (accepted-step t e a) (choice-all narrow (enter t e) (enter-all narrow t e brings k.is_identified))
          go false a = ap identified (refused_keeps t e a) ∙ k.is_identified

      -- and all is known again
      pub step-known : Known d.gate hs vs es
      step-known = left-known g gs ws fs k d hs vs es l (step-settings t e) (step-sound t e k.is_sound) step-identified
