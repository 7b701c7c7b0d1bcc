-- `once`: any two outcomes that the promise of a call through C admits are equal: the answer's five numbers, the gate's seven, every number of
-- every table. And four numbers are one answer only, the fifth one time to wake, so nothing of an answer is lost on the way. Assumes nothing.
use Rattle.std.specs.Prelude.{Some, None, Option}
use Prim.Native.Nat.{ℕ, ◌≤◌}
use mathlib.Core.Path.{◌≡◌, refl, sym, ap, ◌∙◌}
use mathlib.Core.List.{List}
use native.Mathlib.Omega.{arith}
use Rattle.rules.specs.declared.Flight.{Flight}
use Rattle.rules.specs.declared.Arriving.{Arriving}
use Rattle.rules.specs.declared.Event.TheVariants.{Arrival, Completion, Tick}
use Rattle.rules.proofs.Judged.{number_of_once}
use Rattle.rules.specs.declared.Phase.{Phase}
use Rattle.rules.specs.declared.Phase.TheVariants.{Reservation, Weight}
use Rattle.rules.specs.declared.Answer.{Answer}
use Rattle.rules.specs.declared.Answer.TheVariants.{Nothing, Sent, Refused}
use Rattle.rules.specs.Numbers.{ceiling}
use Rattle.gate.specs.Promise.{called, opened}
use Rattle.gate.specs.declared.Reply.{Reply}
use Rattle.gate.specs.Replies.{kind_of, Four, four_of, fifth_of}
use Rattle.arrays.specs.declared.Site.{Site}
use Rattle.arrays.specs.declared.Ask.{Ask}
use Rattle.arrays.specs.Promise.{asked, begun}
use Rattle.hands.specs.Host.{gate_in, hosted, house_hosted}

-- ANSWERS

-- a phase is its kind
kind_of_once : (p q : Phase) → kind_of p ≡ kind_of q → p ≡ q
kind_of_once Reservation Reservation h = refl
kind_of_once Reservation Weight h = absurd (omega (arith, h))
kind_of_once Weight Reservation h = absurd (omega (arith, h))
kind_of_once Weight Weight h = refl

-- and that is neither 0 nor 3
other_kind : (p : Phase) → (kind_of p ≡ 0 → ⊥) × (kind_of p ≡ 3 → ⊥)
other_kind Reservation = (λ h. omega (arith, h), λ h. omega (arith, h))
other_kind Weight = (λ h. omega (arith, h), λ h. omega (arith, h))

-- the first of four numbers
abbrev kind : Four → ℕ
kind f = f.0

-- two answers that have the same four numbers are equal
pub four_once : (a b : Answer) → four_of a ≡ four_of b → a ≡ b
four_once Nothing Nothing h = refl
four_once Nothing (Sent q k j) h = absurd ((other_kind q).0 (sym (ap kind h)))
four_once Nothing (Refused s) h = absurd (omega (arith, ap kind h))
four_once (Sent p g i) Nothing h = absurd ((other_kind p).0 (ap kind h))
four_once (Sent p g i) (Sent q k j) h = λ n. Sent (kind_of_once p q (ap kind h) n) (h n).1 (h n).2
four_once (Sent p g i) (Refused s) h = absurd ((other_kind p).1 (ap kind h))
four_once (Refused r) Nothing h = absurd (omega (arith, ap kind h))
four_once (Refused r) (Sent q k j) h = absurd ((other_kind q).1 (sym (ap kind h)))
four_once (Refused r) (Refused s) h = ap Refused (number_of_once r s (ap (λ (f : Four). f.3) h))

-- TIMES TO WAKE

-- a time to wake is at most the ceiling, as every one that is told is
abbrev pub Timely : Option ℕ → Type 0
Timely (Some n) = n ≤ ceiling
Timely None = Unit {0}

-- two of them that have the same fifth number are equal
pub fifth_once : (w x : Option ℕ) → Timely w → Timely x → fifth_of w ≡ fifth_of x → w ≡ x
fifth_once (Some n) (Some m) a b h = ap Some h
fifth_once (Some n) None a b h = absurd (omega (arith, h))
fifth_once None (Some m) a b h = absurd (omega (arith, h))
fifth_once None None a b h = refl

-- OUTCOMES

-- what a call hands back through C: the answer, the gate's seven numbers, and the three tables
abbrev pub Back : Type 0
Back = Reply × List ℕ × List ℕ × List ℕ × List ℕ

-- what an equation of a promise admits, once
admits : (s h k : Back) → h ≡ s → k ≡ s → h ≡ k
admits s h k p q = p ∙ sym q

module _ (h k : Back) (seven : List ℕ) where
  -- of an arrival, a completion, a tick and an opening
  pub arrive_once : (a : Arriving) (now : ℕ) (gs ws fs : List ℕ) → h ≡ hosted seven (called (Arrival a now) (gate_in seven) gs ws fs) → k ≡ hosted seven (called (Arrival a now) (gate_in seven) gs ws fs) → h ≡ k
  arrive_once a now gs ws fs = admits (hosted seven (called (Arrival a now) (gate_in seven) gs ws fs)) h k

  pub complete_once : (f : Flight) (now : ℕ) (gs ws fs : List ℕ) → h ≡ hosted seven (called (Completion f now) (gate_in seven) gs ws fs) → k ≡ hosted seven (called (Completion f now) (gate_in seven) gs ws fs) → h ≡ k
  complete_once f now gs ws fs = admits (hosted seven (called (Completion f now) (gate_in seven) gs ws fs)) h k

  pub tick_once : (now : ℕ) (gs ws fs : List ℕ) → h ≡ hosted seven (called (Tick now) (gate_in seven) gs ws fs) → k ≡ hosted seven (called (Tick now) (gate_in seven) gs ws fs) → h ≡ k
  tick_once now gs ws fs = admits (hosted seven (called (Tick now) (gate_in seven) gs ws fs)) h k

  pub open_once : (d n c rule : ℕ) (ss gs ws fs : List ℕ) → h ≡ hosted seven (opened d n c rule ss gs ws fs) → k ≡ hosted seven (opened d n c rule ss gs ws fs) → h ≡ k
  open_once d n c rule ss gs ws fs = admits (hosted seven (opened d n c rule ss gs ws fs)) h k

-- AT ONE OF A HOUSE'S ARRAYS

-- what a call there hands back through C: the counters of all arrays and the phases of this one besides
abbrev pub BackAt : Type 0
BackAt = Reply × List ℕ × List ℕ × List ℕ × List ℕ × List ℕ × List ℕ

module _ (h k : BackAt) (seven : List ℕ) (s : Site) (gs ws fs cs ps : List ℕ) where
  -- of an arrival, a completion and a tick
  pub asked_once : (q : Ask) → h ≡ house_hosted seven (asked s (gate_in seven) gs ws fs cs ps q) → k ≡ house_hosted seven (asked s (gate_in seven) gs ws fs cs ps q) → h ≡ k
  asked_once q x y = x ∙ sym y

  -- of an opening
  pub begun_once : (d n c rule : ℕ) (ss : List ℕ) → h ≡ house_hosted seven (begun s d n c rule ss gs ws fs cs ps) → k ≡ house_hosted seven (begun s d n c rule ss gs ws fs cs ps) → h ≡ k
  begun_once d n c rule ss x y = x ∙ sym y
