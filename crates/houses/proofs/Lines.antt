-- One line more of a history, and one call more at an array: what is counted, and the phases of what is in flight, stay what the history says. Assumes nothing.
use Prim.Native.Nat.{ℕ, suc, ◌*◌, ◌≤◌, ◌<◌, min}
use mathlib.Core.Path.{◌≡◌, refl, sym, ap, ap₂, ◌∙◌}
use mathlib.Core.Bool.{Bool, true, false, not, ◌&&◌, false≢true, and-false}
use mathlib.Core.List.{List, [], ◌∷◌, ◌++◌, map}
use native.Mathlib.Omega.{arith}
use lib.Dec.{eqb}
use lib.ListN.{length}
use borrow.Author.Tests.{eqb-true, eqb-false, eq-eqb, not-true}
use Rattle.lists.specs.Words.{if◌then◌else◌, all}
use Rattle.lists.specs.WordsLaws.{both, join, left_fails, right_fails, eqb_sym, all-each, each_all, map-append}
use Rattle.rules.specs.Numbers.{most_delta}
use Rattle.rules.specs.Answers.{taken}
use Rattle.rules.specs.declared.Answer.{Answer}
use Rattle.rules.specs.declared.Answer.TheVariants.{Nothing, Sent, Refused}
use Rattle.rules.specs.declared.Flight.{Flight}
use Rattle.rules.specs.declared.Refusal.{Refusal}
use Rattle.rules.specs.Tables.{same}
use Rattle.rules.proofs.InFlight.{joined_by}
use Rattle.table.specs.View.{name_is}
use Rattle.gate.proofs.InFlight.{New}
use Rattle.arrays.specs.declared.Asking.{Asking}
use Rattle.arrays.specs.declared.Ask.{Ask}
use Rattle.arrays.specs.declared.Ask.TheVariants.{Arrives, Completes, Ticks}
use Rattle.arrays.specs.Counters.{counter_wide, row_of, counted_all, cleared_row}
use Rattle.arrays.specs.Phases.{phase_number, phase_in, by_reservation, joined}
use Rattle.houses.specs.House.{Deed}
use Rattle.houses.specs.History.{Line, anew, done, sends_it, reserved_in, sent_in, delta_in, rho_in}
use Rattle.arrays.proofs.Rows.{row_among}
use Rattle.houses.proofs.CounterLaws.{pair_at, rows_apart, row-set, row-set_other, one_more_pair, counted_other, counted-own}

-- WHAT IS COUNTED

-- delta and rho of guest g at array a as the history says, K14: "both stop at 65,535"
abbrev pub pair_in : (a g : ℕ) → List Line → ℕ × ℕ
pair_in a g ls = (min most_delta (delta_in a g ls), min most_delta (rho_in a g ls))

-- what a line does to them: they begin anew, or there is one more, of rho too where the request had been sent by reservation
abbrev moved_by : (new finished reserved : Bool) → (delta rho : ℕ) → ℕ × ℕ
moved_by x y z d r = (min most_delta (if x then 0 else if y then suc d else d), min most_delta (if x then 0 else if y && z then suc r else r))

-- delta and rho of a history with one line more
line-moves : (a g : ℕ) (l : Line) (ls : List Line) {x y z : Bool} → anew a g l ≡ x → done g l ≡ y → reserved_in l ls ≡ z
    → pair_in a g (l ∷ ls) ≡ moved_by x y z (delta_in a g ls) (rho_in a g ls)
unfolding delta_in rho_in
line-moves a g l ls p q r = λ i. moved_by (p i) (q i) (r i) (delta_in a g ls) (rho_in a g ls)

-- one more, and then the stop, is the stop and then one more
counted_stops : (z : Bool) (d r : ℕ) → one_more_pair z (min most_delta d, min most_delta r) ≡ moved_by false true z d r
counted_stops true d r =
    let a : min most_delta (suc (min most_delta d)) ≡ min most_delta (suc d) = omega arith in
    let b : min most_delta (suc (min most_delta r)) ≡ min most_delta (suc r) = omega arith in
    λ i. (a i, b i)
counted_stops false d r =
    let a : min most_delta (suc (min most_delta d)) ≡ min most_delta (suc d) = omega arith in
    λ i. (a i, min most_delta r)

-- the counters of m arrays of n guests are what a history says
abbrev pub Counts : (m n : ℕ) → List ℕ → List Line → Type 0
Counts m n cs ls = (a g : ℕ) → a < m → g < n → pair_at cs (row_of n a g) ≡ pair_in a g ls

-- a line of the history: what is asked at array a, and the answer
abbrev pub line_of : (a : ℕ) → Ask → Answer → Line
line_of a k got = record { deed = record { array = a; ask = k }; answer = got }

module _ (m n a : ℕ) (cs : List ℕ) (ls : List Line) (room : m * n * counter_wide ≤ length cs) (counts : Counts m n cs ls) (got : Answer) (took : taken got ≡ true) where
  -- an accepted arrival begins its guest's anew at its array
  pub arrival_counts : (q : Asking) (now : ℕ) → a < m → q.guest < n → Counts m n (cleared_row (row_of n a q.guest) cs) (line_of a (Arrives q now) got ∷ ls)
  arrival_counts q now l k b g i j = go (anew b g x) refl
    where
      x : Line
      x = line_of a (Arrives q now) got

      mine : ℕ
      mine = row_of n a q.guest

      go : (c : Bool) → anew b g x ≡ c → pair_at (cleared_row mine cs) (row_of n b g) ≡ pair_in b g (x ∷ ls)
      go true e =
          let p = both (taken got && eqb a b) (eqb q.guest g) e in
          let z : b ≡ a = sym (eqb-true a b (both (taken got) (eqb a b) p.0).1) in
          let y : g ≡ q.guest = sym (eqb-true q.guest g p.1) in
          (λ t. pair_at (cleared_row mine cs) (row_of n (z t) (y t)))
          ∙ row-set cs mine 0 0 (omega (arith, row_among m n a q.guest l k))
          ∙ sym (line-moves b g x ls e refl refl)
      go false e =
          row-set_other cs mine 0 0 (row_of n b g)
          (λ f. let z = rows_apart n b a g q.guest j k f in false≢true (sym e ∙ join (join took (eq-eqb a b (sym z.0))) (eq-eqb q.guest g (sym z.1))))
          ∙ counts b g i j
          ∙ sym (line-moves b g x ls e (and-false (taken got)) refl)

  -- an accepted completion is one more for its guest at every array; of rho too, where its request was last sent by reservation there
  pub completion_counts : (f : Flight) (now : ℕ) → f.guest < n → Counts m n (counted_all m n f.guest (by_reservation (sent_in a f ls)) cs) (line_of a (Completes f now) got ∷ ls)
  completion_counts f now k b g i j = go (eqb f.guest g) refl
    where
      x : Line
      x = line_of a (Completes f now) got

      z : Bool
      z = by_reservation (sent_in a f ls)

      go : (c : Bool) → eqb f.guest g ≡ c → pair_at (counted_all m n f.guest z cs) (row_of n b g) ≡ pair_in b g (x ∷ ls)
      go true e =
          let y : g ≡ f.guest = sym (eqb-true f.guest g e) in
          ap (λ (w : ℕ). pair_at (counted_all m n f.guest z cs) (row_of n b w)) y
          ∙ counted-own n f.guest z cs k m b i room
          ∙ ap (λ (w : ℕ). one_more_pair z (pair_at cs (row_of n b w))) (sym y)
          ∙ ap (one_more_pair z) (counts b g i j)
          ∙ counted_stops z (delta_in b g ls) (rho_in b g ls)
          ∙ sym (line-moves b g x ls (and-false (taken got && eqb a b)) (join took e) refl)
      go false e =
          counted_other n f.guest z cs k m b g j (λ y. absurd (eqb-false f.guest g e (sym y)))
          ∙ counts b g i j
          ∙ sym (line-moves b g x ls (and-false (taken got && eqb a b)) (right_fails (taken got) e) refl)

  -- a tick counts nothing
  pub tick_counts : (now : ℕ) → Counts m n cs (line_of a (Ticks now) got ∷ ls)
  tick_counts now b g i j =
      counts b g i j ∙ sym (line-moves b g (line_of a (Ticks now) got) ls (and-false (taken got && eqb a b)) (and-false (taken got)) refl)

-- a refused call counts nothing
pub refused_counts : (m n : ℕ) (cs : List ℕ) (ls : List Line) → Counts m n cs ls → (d : Deed) (r : Refusal) → Counts m n cs (record { deed = d; answer = Refused r } ∷ ls)
refused_counts m n cs ls counts d r a g i j = counts a g i j ∙ sym (line-moves a g (record { deed = d; answer = Refused r }) ls refl refl refl)

-- WHAT IS IN FLIGHT

-- the phase by which array a last sent each of them, as the history says
abbrev pub sent_of : (a : ℕ) → List Line → List Flight → List ℕ
sent_of a ls l = map (λ f. sent_in a f ls) l

-- to have the same name is mutual
same_sym : (x y : Flight) → same x y ≡ same y x
same_sym x y = ap₂ ◌&&◌ (eqb_sym x.guest y.guest) (eqb_sym x.id y.id)

-- a line of another array, or one that sends none of them, leaves that
unsent-stay : (a : ℕ) (x : Line) (ls : List Line) (l : List Flight) → all (λ f. not (eqb x.deed.array a && sends_it f x.answer)) l ≡ true → sent_of a (x ∷ ls) l ≡ sent_of a ls l
unfolding sent_in
unsent-stay a x ls [] h = refl
unsent-stay a x ls (f ∷ l) h =
    let c = both (not (eqb x.deed.array a && sends_it f x.answer)) (all (λ f. not (eqb x.deed.array a && sends_it f x.answer)) l) h in
    let e = not-true (eqb x.deed.array a && sends_it f x.answer) c.0 in
    let i = unsent-stay a x ls l c.1 in
    λ t. (if e t then phase_in x.answer else sent_in a f ls) ∷ i t

-- so a line of another array
pub elsewhere_stays : (a : ℕ) (x : Line) (ls : List Line) (l : List Flight) → eqb x.deed.array a ≡ false → sent_of a (x ∷ ls) l ≡ sent_of a ls l
elsewhere_stays a x ls l e = unsent-stay a x ls l (each_all _ l (λ f m. ap not (left_fails (sends_it f x.answer) e)))

-- and a refused call
pub refused_stays : (a : ℕ) (d : Deed) (r : Refusal) (ls : List Line) (l : List Flight) → sent_of a (record { deed = d; answer = Refused r } ∷ ls) l ≡ sent_of a ls l
refused_stays a d r ls l = unsent-stay a (record { deed = d; answer = Refused r }) ls l (each_all _ l (λ f m. ap not (and-false (eqb d.array a))))

-- the phase of what is sent comes last, and the others stay
pub sent_joined : (a : ℕ) (k : Ask) (got : Answer) (ls : List Line) (l : List Flight) → taken got ≡ true → New got l
    → joined got (sent_of a ls l) ≡ sent_of a (line_of a k got ∷ ls) (joined_by got l)
unfolding sent_in
sent_joined a k Nothing ls l t n = sym (unsent-stay a (line_of a k Nothing) ls l (each_all _ l (λ f m. ap not (and-false (eqb a a)))))
sent_joined a k (Sent p g i) ls l t n =
    let x = line_of a k (Sent p g i) in
    let f = name_is g i in
    let mine : eqb a a && same f f ≡ true = join (eq-eqb a a refl) (join (eq-eqb g g refl) (eq-eqb i i refl)) in
    let others : sent_of a (x ∷ ls) l ≡ sent_of a ls l =
    unsent-stay a x ls l (each_all _ l (λ y m. ap not (right_fails (eqb a a) (same_sym y f ∙ not-true (same f y) (all-each (λ b. not (same f b)) l n y m))))) in
    sym
    (map-append (λ y. sent_in a y (x ∷ ls)) l (f ∷ [])
    ∙ (λ t. others t ++ ((if mine t then phase_number p else sent_in a f ls) ∷ [])))
sent_joined a k (Refused r) ls l t n = absurd (false≢true t)
