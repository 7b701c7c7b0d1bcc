-- What the functions of src/numbers.rt know at their calls and at their ends, from what their callees ensure. Assumes nothing.
use Rattle.std.specs.Prelude.{Ok, Err, Result}
use Prim.Native.Nat.{ℕ}
use mathlib.Core.Path.{◌≡◌, sym, ap, ◌∙◌, subst}
use mathlib.Core.Bool.{Bool, true, false, not}
use mathlib.Core.List.{List}
use borrow.Author.Tests.{not-true, not-false}
use Rattle.rules.specs.declared.Event.{Event}
use Rattle.rules.specs.Run.{step}
use Rattle.rules.specs.declared.Gate.{Gate}
use Rattle.rules.specs.declared.Refusal.{Refusal}
use Rattle.rules.specs.declared.Refusal.TheVariants.{ShortTable, Unsound}
use Rattle.rules.specs.declared.Answer.TheVariants.{Refused}
use Rattle.rules.specs.declared.Outcome.{Outcome}
use Rattle.table.specs.View.{Handed, countable, short, sound_numbers, Known}
use Rattle.sound.specs.Fitting.{Fitting}
use Rattle.sound.proofs.Fitted.{fitting}
use Rattle.table.specs.Does.{does, refusing}
use Rattle.index.specs.Index.{Beside, stands}
use Rattle.gate.specs.Promise.{seen, unchanged, called}
use Rattle.gate.specs.Judges.{Judges}
use Rattle.gate.proofs.Verdicts.{uncounted, firm-known, short-refused, unsound_refused, known-called}

module _ (g : Gate) (gs ws fs : List ℕ) where
  -- THE LENT TABLES

  pub uncounted_bad : (b : Bool) → b ≡ countable g → not b ≡ true → Judges g gs ws fs (Err Unsound)
  uncounted_bad b p n e = let u = uncounted g gs ws fs (sym p ∙ not-true b n) in unsound_refused g gs ws fs e u.0 u.1

  pub short_bad : (b : Bool) → b ≡ short g gs ws fs → b ≡ true → Judges g gs ws fs (Err ShortTable)
  short_bad b p n e = short-refused g gs ws fs e (sym p ∙ n)

  module _ (b : Bool) (p : b ≡ countable g) (n : not b ≡ false) (a : Bool) (q : a ≡ short g gs ws fs) (m : a ≡ false) where
    -- the test of soundness may be asked
    pub sound_asks : Fitting g gs ws fs
    sound_asks = fitting g gs ws fs (sym p ∙ not-false b n) (sym q ∙ m)

    module _ (s : Bool) (o : s ≡ sound_numbers g gs ws fs) where
      pub unsound_bad : not s ≡ true → Judges g gs ws fs (Err Unsound)
      unsound_bad l e = unsound_refused g gs ws fs e (sym q ∙ m) (sym o ∙ not-true s l)

      pub sound-good : not s ≡ false → Judges g gs ws fs (Ok tt)
      sound-good l = firm-known g gs ws fs (sym q ∙ m) (sym o ∙ not-false s l)

  -- THE CALLS

  module _ (j : Result Unit Refusal) (found : Judges g gs ws fs j) where
    -- the step may be asked
    pub good-known : j ≡ Ok tt → Known g gs ws fs
    good-known p = subst (Judges g gs ws fs) p found

    module _ (e : Event) where
      -- and is the call
      pub good_returns : j ≡ Ok tt → (h : Handed) → h ≡ does (λ t. step t e) g gs ws fs → seen h ≡ seen (called e g gs ws fs)
      good_returns p h q = ap seen (q ∙ sym (known-called g gs ws fs e (good-known p)))

      -- a refusal
      pub bad_returns : (r : Refusal) → j ≡ Err r → (o : Outcome) → o ≡ refusing r g → seen (o, gs, ws, fs) ≡ seen (called e g gs ws fs)
      bad_returns r p o q =
          let c : called e g gs ws fs ≡ unchanged g gs ws fs (Refused r) = subst (Judges g gs ws fs) p found e in
          ap (λ (x : Outcome). seen (x, gs, ws, fs)) q ∙ sym (ap seen c)

    -- WHAT WAS FOUND STAYS TRUE

    -- of known tables, after a step
    pub good_stays : j ≡ Ok tt → (h : Gate) (hs vs es : List ℕ) → Known h hs vs es → Judges h hs vs es j
    good_stays p h hs vs es k = subst (Judges h hs vs es) (sym p) k

    -- of others, which a refusal leaves
    pub bad_stays : (r : Refusal) (o : Outcome) → o ≡ refusing r g → Judges o.gate gs ws fs j
    bad_stays r o q = subst (λ (x : Outcome). Judges x.gate gs ws fs j) (sym q) found

  -- and so does the index of the rows
  pub bad_beside : (r : Refusal) (o : Outcome) → o ≡ refusing r g → (ix : List ℕ) → Beside ws ix g.waiting → Beside ws ix o.gate.waiting
  bad_beside r o q ix b = subst (λ (x : Outcome). Beside ws ix x.gate.waiting) (sym q) b

  -- nothing has moved
  pub bad_stands : (r : Refusal) (o : Outcome) → o ≡ refusing r g → (ix : List ℕ) → stands ix o.answer ws ≡ ws
  unfolding stands
  bad_stands r o q ix = ap (λ (x : Outcome). stands ix x.answer ws) q
