-- Refusals of the public calls: a refusal leaves every lent number and the gate, and each number is given exactly where its condition holds
-- and no earlier one of that call's list does. Assumes nothing.
use Prim.Native.Nat.{ℕ}
use mathlib.Core.Path.{◌≡◌, refl, sym, ap, ◌∙◌}
use mathlib.Core.Bool.{true, not, true≢false}
use mathlib.Core.List.{List}
use borrow.Author.Tests.{not-false}
use Rattle.rules.specs.Answers.{shown}
use Rattle.rules.specs.Events.{enter}
use Rattle.rules.specs.declared.Event.{Event}
use Rattle.rules.specs.Refusals.{Verdict, accept, refuse}
use Rattle.rules.specs.Refused.{RefusedExactly, call_cases, open_cases}
use Rattle.rules.proofs.Refused.{exactly, call_tested, open_tested}
use Rattle.rules.proofs.Answered.{Follows, shown-tells, unrefused}
use Rattle.rules.proofs.Trials.{X}
use Rattle.rules.specs.declared.Gate.{Gate}
use Rattle.rules.specs.declared.Refusal.{Refusal}
use Rattle.rules.specs.declared.Answer.TheVariants.{Refused}
use Rattle.gate.specs.Promise.{Lending, HandedIn, table_in, handed_in, short_in, sound_in, unchanged_in, followed_in, judged_in, called_in, settings_in, open_short_in, unopened, opened_by_in, opening_in, opened_in}
use Rattle.gate.specs.Calls.{taken}
use Rattle.gate.proofs.Lending.{Lawful, sound-shown}

-- THE ANSWER AND THE VERDICT

module _ (v : Lending) where
  -- what a call answers follows from its verdict
  called-follows : (g : Gate) (gs : List v.Cell) (ws fs : List ℕ) (e : Event) (w : Verdict) → Follows w (followed_in v w e g gs ws fs).0.answer
  unfolding handed_in
  called-follows g gs ws fs e accept = unrefused (enter (table_in v g gs ws fs) e)
  called-follows g gs ws fs e (refuse r) = refl

  opened-follows : (d n c rule : ℕ) (ss : List ℕ) (gs : List v.Cell) (ws fs : List ℕ) (w : Verdict) → Follows w (opened_by_in v w d n c rule ss gs ws fs).0.answer
  unfolding handed_in
  opened-follows d n c rule ss gs ws fs accept = refl
  opened-follows d n c rule ss gs ws fs (refuse r) = refl

  -- REFUSAL KEEPS

  -- a call that answers with a refusal hands back what it was handed
  pub refusal_keeps : (e : Event) (g : Gate) (gs : List v.Cell) (ws fs : List ℕ) (r : Refusal) → (called_in v e g gs ws fs).0.answer ≡ Refused r → called_in v e g gs ws fs ≡ unchanged_in v g gs ws fs (Refused r)
  unfolding called_in
  refusal_keeps e g gs ws fs r = go (judged_in v e g gs ws fs)
    where
      go : (w : Verdict) → (followed_in v w e g gs ws fs).0.answer ≡ Refused r → followed_in v w e g gs ws fs ≡ unchanged_in v g gs ws fs (Refused r)
      go accept h = absurd (true≢false (sym (called-follows g gs ws fs e accept) ∙ ap taken h))
      go (refuse s) h = ap (unchanged_in v g gs ws fs) h

  -- an opening that is refused opens nothing
  pub opening_keeps : (d n c rule : ℕ) (ss : List ℕ) (gs : List v.Cell) (ws fs : List ℕ) (r : Refusal) → (opened_in v d n c rule ss gs ws fs).0.answer ≡ Refused r → opened_in v d n c rule ss gs ws fs ≡ unchanged_in v unopened gs ws fs (Refused r)
  unfolding opened_in
  opening_keeps d n c rule ss gs ws fs r = go (opening_in v d n c rule ss gs ws fs)
    where
      go : (w : Verdict) → (opened_by_in v w d n c rule ss gs ws fs).0.answer ≡ Refused r → opened_by_in v w d n c rule ss gs ws fs ≡ unchanged_in v unopened gs ws fs (Refused r)
      go accept h = absurd (true≢false (sym (opened-follows d n c rule ss gs ws fs accept) ∙ ap taken h))
      go (refuse s) h = ap (unchanged_in v unopened gs ws fs) h

  -- REFUSED EXACTLY

  -- what a caller sees of a call is a refusal with number n
  abbrev pub Numbers : HandedIn v → ℕ → Type 0
  Numbers h n = shown h.0.answer ≡ X n

  -- a call is accepted
  abbrev pub Accepts : HandedIn v → Type 0
  Accepts h = taken h.0.answer ≡ true

  -- Each number of an arrival, a completion and a tick is given exactly where document 01 says.
  pub called_exactly : Lawful v → (g : Gate) (gs : List v.Cell) (ws fs : List ℕ) (e : Event)
      → RefusedExactly (call_cases (short_in v g gs ws fs) (not (sound_in v g gs ws fs)) (table_in v g gs ws fs) e) (Numbers (called_in v e g gs ws fs)) (Accepts (called_in v e g gs ws fs))
  unfolding called_in judged_in
  called_exactly lawful g gs ws fs e =
      exactly
      (call_tested (short_in v g gs ws fs) (not (sound_in v g gs ws fs)) (table_in v g gs ws fs) e (λ h. (sound-shown v lawful g gs ws fs (not-false (sound_in v g gs ws fs) h)).0))
      (shown-tells (judged_in v e g gs ws fs) (called_in v e g gs ws fs).0.answer (called-follows g gs ws fs e (judged_in v e g gs ws fs)))

  -- And of an opening.
  pub open_exactly : (d n c rule : ℕ) (ss : List ℕ) (gs : List v.Cell) (ws fs : List ℕ)
      → RefusedExactly (open_cases (open_short_in v d n c ss gs ws fs) d n c rule (settings_in ss n)) (Numbers (opened_in v d n c rule ss gs ws fs)) (Accepts (opened_in v d n c rule ss gs ws fs))
  unfolding opened_in opening_in
  open_exactly d n c rule ss gs ws fs =
      exactly (open_tested (open_short_in v d n c ss gs ws fs) d n c rule (settings_in ss n))
      (shown-tells (opening_in v d n c rule ss gs ws fs) (opened_in v d n c rule ss gs ws fs).0.answer (opened-follows d n c rule ss gs ws fs (opening_in v d n c rule ss gs ws fs)))
