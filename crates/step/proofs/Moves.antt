-- What an event enters, and then the choice on it, are together a step; a refused event leaves all as it stood. And with the time to wake what a step
-- leaves is what a call hands back. Assumes nothing.
use Rattle.std.specs.Prelude.{Option, Err, Ok, Result as OkOrErr}
use Prim.Native.Nat.{ℕ}
use mathlib.Core.Path.{◌≡◌, refl, sym, ap, ◌∙◌, subst}
use mathlib.Core.Bool.{true}
use mathlib.Core.List.{List}
use Rattle.rules.specs.Tables.{Table}
use Rattle.rules.specs.Sound.{sound}
use Rattle.rules.specs.Choice.{Result, choice}
use Rattle.rules.specs.Events.{enter}
use Rattle.rules.specs.Refusals.{refuse, verdict, is_accept}
use Rattle.rules.specs.Run.{decided, step}
use Rattle.rules.specs.Waking.{wake, unsaid, tells_of, told}
use Rattle.rules.proofs.Facts.{is_sound}
use Rattle.rules.proofs.EnterSound.{enter-sound}
use Rattle.rules.proofs.StepSound.{accepted-step}
use Rattle.rules.proofs.SameSettings.{enter-settings, choice-settings}
use Rattle.rules.specs.declared.Event.{Event}
use Rattle.rules.specs.declared.Gate.{Gate}
use Rattle.rules.specs.declared.Refusal.{Refusal}
use Rattle.rules.specs.declared.Answer.{Answer}
use Rattle.rules.specs.declared.Answer.TheVariants.{Nothing, Sent, Refused}
use Rattle.rules.specs.declared.Outcome.{Outcome}
use Rattle.table.specs.declared.gates.Decision.{Decision}
use Rattle.table.specs.View.{decision_of, outcome_of, table_of, Known}
use Rattle.table.specs.Does.{Lent, written, does, Leaves, refusing}
use Rattle.table.proofs.Lens.{Room, written-shown, written-again, known-room}
use Rattle.table.proofs.Left.{stays, left-handed}
use Rattle.step.proofs.After.{choice-known, step-shown}
use Rattle.enter.specs.Enters.{EntersAt, Enters}

-- an answer that is no refusal carries the time to wake
carries : (a : Answer) (u : Table) → ((r : Refusal) → a ≡ Refused r → ⊥) → wake u ≡ tells_of a u
carries Nothing u n = refl
carries (Sent p g i) u n = refl
carries (Refused r) u n = absurd (n r refl)

module _ (g : Gate) (gs ws fs : List ℕ) (k : Known g gs ws fs) (e : Event) where
  abbrev t : Table
  t = table_of g gs ws fs

  -- where the event is refused, the step leaves the gate and every lent number
  refused_stays : (r : Refusal) → verdict t e ≡ refuse r → Leaves (λ t. step t e) g gs ws fs (decision_of g (Refused r)) gs ws fs
  unfolding step decided
  refused_stays r v = stays g gs ws fs k {f = λ t. step t e} (rw v)

  -- what the event came to, and the numbers after it
  module _ (x : OkOrErr Gate Refusal) (hs vs es : List ℕ) (c : Enters e g gs ws fs x hs vs es) where
    -- a refusal is the step, and what is left is known as before
    pub refused-moves : (r : Refusal) → x ≡ Err r → (d : Decision) → d ≡ decision_of g (Refused r) → Leaves (λ t. step t e) g gs ws fs d hs vs es × Known d.gate hs vs es
    refused-moves r p d q =
        let b : Enters e g gs ws fs (Err r) hs vs es = subst (λ (y : OkOrErr Gate Refusal). Enters e g gs ws fs y hs vs es) p c in
        let l = refused_stays r b.0 in
        let s : ◌≡◌ {A = Lent} (d.gate, hs, vs, es) (g, gs, ws, fs) = λ i. ((q i).gate, b.1 i, b.2 i, b.3 i) in
        (record { shows = s ∙ l.shows; answers = ap Decision.answer q ∙ l.answers }, subst (λ (y : Lent). Known y.0 y.1 y.2 y.3) (sym s) k)

    -- what was entered is known, and the choice on it is the step
    module _ (h : Gate) (p : x ≡ Ok h) where
      at : EntersAt e g gs ws fs h hs vs es
      at = subst (λ (y : OkOrErr Gate Refusal). Enters e g gs ws fs y hs vs es) p c

      pub entered_known : Known h hs vs es
      entered_known = at.known

      abbrev u : Table
      u = enter t e

      firm : sound u ≡ true
      firm = is_sound u (enter-sound t e (ap is_accept at.accepts))

      room : Room gs ws fs u
      room = known-room g gs ws fs k u (enter-settings t e)

      shown : table_of h hs vs es ≡ u
      shown = ap (λ (y : Lent). table_of y.0 y.1 y.2 y.3) at.shows ∙ written-shown gs ws fs u room firm

      is_step : choice (table_of h hs vs es) ≡ step t e
      is_step = ap choice shown ∙ sym (accepted-step t e (ap is_accept at.accepts))

      pub entered_moves : (d : Decision) (is js ls : List ℕ) → Leaves choice h hs vs es d is js ls → Leaves (λ t. step t e) g gs ws fs d is js ls × Known d.gate is js ls
      entered_moves d is js ls l = (
        record {
          shows = l.shows
              ∙ ap (λ (y : Lent). written y.1 y.2 y.3 (choice (table_of h hs vs es)).table) at.shows
              ∙ ap (λ (y : Table). written (written gs ws fs u).1 (written gs ws fs u).2 (written gs ws fs u).3 (choice y).table) shown
              ∙ written-again gs ws fs u room firm (choice u).table (choice-settings u)
              ∙ ap (λ (r : Result). written gs ws fs r.table) (sym (accepted-step t e (ap is_accept at.accepts)));
          answers = l.answers ∙ ap Result.answer is_step;
        },
        choice-known h hs vs es at.known d is js ls l,
      )

  -- THE TIME TO WAKE

  module _ (d : Decision) (hs vs es : List ℕ) (l : Leaves (λ t. step t e) g gs ws fs d hs vs es) (known : Known d.gate hs vs es) where
    -- with it what is left is handed back, and still known
    handed_on_lem : (w : Option ℕ) → w ≡ told (step t e) → (o : Outcome) → o ≡ outcome_of d.gate d.answer w → ((o, hs, vs, es) ≡ does (λ t. step t e) g gs ws fs) × Known o.gate hs vs es
    handed_on_lem w p o q = ((λ i. (q i, hs, vs, es)) ∙ left-handed g gs ws fs d hs vs es l w p, subst (λ (x : Outcome). Known x.gate hs vs es) (sym q) known)

    -- a refusal carries none
    pub refused-told : (r : Refusal) → d.answer ≡ Refused r → (o : Outcome) → o ≡ refusing r d.gate → ((o, hs, vs, es) ≡ does (λ t. step t e) g gs ws fs) × Known o.gate hs vs es
    refused-told r p o q = handed_on_lem unsaid (ap (λ (a : Answer). tells_of a (step t e).table) (sym p ∙ l.answers)) o (q ∙ (λ i. outcome_of d.gate (sym p i) unsaid))

    -- any other answer carries that of the table after it
    pub woken_told : ((r : Refusal) → d.answer ≡ Refused r → ⊥) → (w : Option ℕ) → w ≡ wake (table_of d.gate hs vs es) → (o : Outcome) → o ≡ outcome_of d.gate d.answer w
        → ((o, hs, vs, es) ≡ does (λ t. step t e) g gs ws fs) × Known o.gate hs vs es
    woken_told n w p =
        handed_on_lem w (p ∙ ap wake (step-shown g gs ws fs k d hs vs es e l) ∙ carries d.answer (step t e).table n ∙ ap (λ (a : Answer). tells_of a (step t e).table) l.answers)

  -- so a refused event is handed back as it came
  pub refused-same : (r : Refusal) → verdict t e ≡ refuse r → (refusing r g, gs, ws, fs) ≡ does (λ t. step t e) g gs ws fs
  refused-same r v = (refused-told (decision_of g (Refused r)) gs ws fs (refused_stays r v) k r refl (refusing r g) refl).0
