-- `once`: any two outcomes that the promise of a call admits are equal. What the paper shows of an answer is that answer alone, so of a
-- time to wake, and the promise fixes the rest number by number. Assumes nothing.
use Rattle.std.specs.Prelude.{Some, None, Option}
use Prim.Native.Nat.{ℕ}
use mathlib.Core.Path.{◌≡◌, refl, sym, ap, ◌∙◌}
use mathlib.Core.List.{List}
use native.Mathlib.Omega.{arith}
use lib.ListN.{length, get_or}
use Rattle.rules.specs.Answers.{letter_of, Printed, shown, hour}
use Rattle.rules.specs.declared.Event.{Event}
use Rattle.rules.proofs.Judged.{number_of_once}
use Rattle.rules.specs.declared.Gate.{Gate}
use Rattle.rules.specs.declared.Phase.{Phase}
use Rattle.rules.specs.declared.Phase.TheVariants.{Reservation, Weight}
use Rattle.rules.specs.declared.Answer.{Answer}
use Rattle.rules.specs.declared.Answer.TheVariants.{Nothing, Sent, Refused}
use Rattle.table.specs.View.{outcome_of}
use Rattle.gate.specs.Promise.{Lending, numbers, HandedIn, SeenIn, seen_in, called_in, opened_in, seen}

-- ANSWERS

-- a phase is its letter
letter_of_once : (p q : Phase) → letter_of p ≡ letter_of q → p ≡ q
letter_of_once Reservation Reservation h = refl
letter_of_once Reservation Weight h = absurd (omega (arith, h))
letter_of_once Weight Reservation h = absurd (omega (arith, h))
letter_of_once Weight Weight h = refl

-- and that is neither `-` nor `X`
other_letter : (p : Phase) → (letter_of p ≡ 45 → ⊥) × (letter_of p ≡ 88 → ⊥)
other_letter Reservation = (λ h. omega (arith, h), λ h. omega (arith, h))
other_letter Weight = (λ h. omega (arith, h), λ h. omega (arith, h))

-- the value that is shown at place n
value : ℕ → Printed → ℕ
value n p = get_or p.values n 0

-- two answers that the paper shows alike are equal
pub shown_once : (a b : Answer) → shown a ≡ shown b → a ≡ b
unfolding value
shown_once Nothing Nothing h = refl
shown_once Nothing (Sent q k j) h = absurd ((other_letter q).0 (sym (ap Printed.letter h)))
shown_once Nothing (Refused s) h = absurd (omega (arith, ap Printed.letter h))
shown_once (Sent p g i) Nothing h = absurd ((other_letter p).0 (ap Printed.letter h))
shown_once (Sent p g i) (Sent q k j) h =
    λ n. Sent (letter_of_once p q (ap Printed.letter h) n) (ap (value 0) h n) (ap (value 1) h n)
shown_once (Sent p g i) (Refused s) h = absurd ((other_letter p).1 (ap Printed.letter h))
shown_once (Refused r) Nothing h = absurd (omega (arith, ap Printed.letter h))
shown_once (Refused r) (Sent q k j) h = absurd ((other_letter q).1 (sym (ap Printed.letter h)))
shown_once (Refused r) (Refused s) h = ap Refused (number_of_once r s (ap (value 0) h))

-- TIMES TO WAKE

-- two that are shown alike are equal
pub hour_once : (w x : Option ℕ) → hour w ≡ hour x → w ≡ x
hour_once (Some n) (Some m) h = ap (λ (l : List ℕ). Some (get_or l 0 0)) h
hour_once (Some n) None h = absurd (omega (arith, ap length h))
hour_once None (Some m) h = absurd (omega (arith, ap length h))
hour_once None None h = refl

-- OUTCOMES

module _ (v : Lending) where
  -- two outcomes of which a caller sees the same are equal
  pub seen_once_in : (h k : HandedIn v) → seen_in v h ≡ seen_in v k → h ≡ k
  seen_once_in h k e =
      let a = shown_once h.0.answer k.0.answer (ap (λ (s : SeenIn v). s.1) e) in
      let w = hour_once h.0.wake k.0.wake (ap (λ (s : SeenIn v). s.2) e) in
      λ i. (outcome_of (e i).0 (a i) (w i), (e i).3, (e i).4, (e i).5)

  module _ (h k : HandedIn v) (gs : List v.Cell) (ws fs : List ℕ) where
    -- of an event
    pub called_once : (e : Event) (g : Gate) → seen_in v h ≡ seen_in v (called_in v e g gs ws fs) → seen_in v k ≡ seen_in v (called_in v e g gs ws fs) → h ≡ k
    called_once e g p q = seen_once_in h k (p ∙ sym q)

    -- of an opening
    pub opened_once : (d n c rule : ℕ) (ss : List ℕ) → seen_in v h ≡ seen_in v (opened_in v d n c rule ss gs ws fs) → seen_in v k ≡ seen_in v (opened_in v d n c rule ss gs ws fs) → h ≡ k
    opened_once d n c rule ss p q = seen_once_in h k (p ∙ sym q)

-- over numbers
pub seen_once : (h k : HandedIn numbers) → seen h ≡ seen k → h ≡ k
seen_once = seen_once_in numbers
