-- THE LAW OF THE LISTS: tests that hold exactly where the conditions of cases do, pairwise and with the same numbers, give the number of the
-- first case whose condition holds. Facts of a list that is accepted are read by their numbers. Assumes nothing.
use mathlib.Core.Path.{◌≡◌, refl, sym, ap, ◌∙◌}
use mathlib.Core.Bool.{Bool, true, false, false≢true}
use mathlib.Core.List.{List, [], ◌∷◌, ◌++◌, map, Memᴰ}
use mathlib.Core.Logic.{◌↔◌, inl, inr, ⊎_elim}
use Prim.Native.Nat.{ℕ}
use native.Mathlib.Omega.{arith}
use lib.Dec.{eqb}
use Rattle.lists.specs.Words.{if◌then◌else◌}
use Rattle.rules.specs.Answers.{number_of}
use Rattle.rules.specs.Refused.{Case, FirstOf, NoneHolds}
use Rattle.rules.specs.Refusals.{Test, Verdict, accept, refuse, judged, is_accept}
use Rattle.rules.specs.declared.Refusal.{Refusal}
use Rattle.rules.specs.declared.Refusal.TheVariants.{BadSetting, ShortTable, Unsound, UnknownGuest, TimeAboveCeiling, TimeBeforeLast, IdInUse, NoRoom, TagAboveCeiling, NotInFlight, BadMark, BadVersion, HeaderCut, BadEvent, EventCut, AnswersShort, TooManyEvents, BadCost, NoWayBack, BadDelta, RoomShort, NoArray}

-- NUMBERS

-- every refusal
abbrev every : List Refusal
every =
    BadSetting ∷ ShortTable ∷ Unsound ∷ UnknownGuest ∷ TimeAboveCeiling ∷ TimeBeforeLast ∷ IdInUse ∷ NoRoom ∷ TagAboveCeiling ∷ NotInFlight
    ∷ BadMark ∷ BadVersion ∷ HeaderCut ∷ BadEvent ∷ EventCut ∷ AnswersShort ∷ TooManyEvents ∷ BadCost ∷ NoWayBack ∷ BadDelta ∷ RoomShort ∷ NoArray ∷ []

-- the first of some refusals that has number n
abbrev with_number : ℕ → List Refusal → Refusal
with_number n [] = BadSetting
with_number n (r ∷ rs) = if eqb (number_of r) n then r else with_number n rs

found : (r : Refusal) → with_number (number_of r) every ≡ r
found BadSetting = refl
found ShortTable = refl
found Unsound = refl
found UnknownGuest = refl
found TimeAboveCeiling = refl
found TimeBeforeLast = refl
found IdInUse = refl
found NoRoom = refl
found TagAboveCeiling = refl
found NotInFlight = refl
found BadMark = refl
found BadVersion = refl
found HeaderCut = refl
found BadEvent = refl
found EventCut = refl
found AnswersShort = refl
found TooManyEvents = refl
found BadCost = refl
found NoWayBack = refl
found BadDelta = refl
found RoomShort = refl
found NoArray = refl

-- two refusals with one number are the same
pub number_of_once : (r s : Refusal) → number_of r ≡ number_of s → r ≡ s
number_of_once r s e = sym (found r) ∙ ap (λ (n : ℕ). with_number n every) e ∙ found s

-- no refusal has the number 0
pub number_of_some : (r : Refusal) → number_of r ≡ 0 → ⊥
number_of_some r e =
    let p : BadSetting ≡ r = ap (λ (n : ℕ). with_number n every) (sym e) ∙ found r in
    let q : ◌≡◌ {A = ℕ} 1 0 = ap number_of p ∙ e in
    omega (arith, q)

-- the verdict refuses with the paper's number n
abbrev pub Gives : Verdict → ℕ → Type 0
Gives accept n = ⊥
Gives (refuse r) n = number_of r ≡ n

-- LISTS OF TESTS

-- the numbers of a list of tests, in order
abbrev pub numbers : List Test → List ℕ
numbers cs = map (λ c. number_of c.refusal) cs

-- the condition of the first test that has number n; false where none has
abbrev pub condition : ℕ → List Test → Bool
condition n [] = false
condition n (c ∷ cs) = if eqb (number_of c.refusal) n then c.holds else condition n cs

-- the tests behind the first one that has number n
abbrev pub behind : ℕ → List Test → List Test
behind n [] = []
behind n (c ∷ cs) = if eqb (number_of c.refusal) n then cs else behind n cs

-- of a list that is accepted no condition holds
pub passed : (cs : List Test) → is_accept (judged cs) ≡ true → (n : ℕ) → condition n cs ≡ false
passed [] h n = refl
passed (c ∷ cs) h n = go c.holds refl (λ k. passed cs k n)
  where
    go : (b : Bool) → c.holds ≡ b → (is_accept (judged cs) ≡ true → condition n cs ≡ false)
        → (if eqb (number_of c.refusal) n then c.holds else condition n cs) ≡ false
    go true e k = absurd (false≢true (rw e at h))
    go false e k =
        let r = k (rw e at h) in
        rw (e, r) (elim (eqb (number_of c.refusal) n) as (λ b. (if b then false else false) ≡ false) [ true ↦ refl | false ↦ refl ])

-- nor of what stands behind the first test that has number m: so a number that stands twice is told by what stands before it
pub passed-behind : (cs : List Test) → is_accept (judged cs) ≡ true → (m n : ℕ) → condition n (behind m cs) ≡ false
passed-behind cs h m n = passed (behind m cs) (still cs h) n
  where
    still : (cs : List Test) → is_accept (judged cs) ≡ true → is_accept (judged (behind m cs)) ≡ true
    still [] h = refl
    still (c ∷ cs) h = go c.holds refl (still cs)
      where
        go : (b : Bool) → c.holds ≡ b → (is_accept (judged cs) ≡ true → is_accept (judged (behind m cs)) ≡ true)
            → is_accept (judged (if eqb (number_of c.refusal) m then cs else behind m cs)) ≡ true
        go true e k = absurd (false≢true (rw e at h))
        go false e k =
            let here : is_accept (judged cs) ≡ true = rw e at h in
            elim (eqb (number_of c.refusal) m) as (λ b. is_accept (judged (if b then cs else behind m cs)) ≡ true) [ true ↦ here | false ↦ k here ]

-- of two lists of tests, one behind the other: what the first refuses is refused
pub judged_refuse : (xs ys : List Test) (r : Refusal) → judged xs ≡ refuse r → judged (xs ++ ys) ≡ refuse r
judged_refuse [] ys r e = absurd (false≢true (sym (ap is_accept e)))
judged_refuse (x ∷ xs) ys r e = go x.holds (judged_refuse xs ys r) e
  where
    go : (b : Bool) → (judged xs ≡ refuse r → judged (xs ++ ys) ≡ refuse r)
        → (if b then refuse x.refusal else judged xs) ≡ refuse r → (if b then refuse x.refusal else judged (xs ++ ys)) ≡ refuse r
    go true i e = e
    go false i e = i e

-- what it accepts is left to the second
pub judged_accept : (xs ys : List Test) → judged xs ≡ accept → judged (xs ++ ys) ≡ judged ys
judged_accept [] ys e = refl
judged_accept (x ∷ xs) ys e = go x.holds (judged_accept xs ys) e
  where
    go : (b : Bool) → (judged xs ≡ accept → judged (xs ++ ys) ≡ judged ys)
        → (if b then refuse x.refusal else judged xs) ≡ accept → (if b then refuse x.refusal else judged (xs ++ ys)) ≡ judged ys
    go true i e = absurd (false≢true (ap is_accept e))
    go false i e = i e

-- A LIST OF TESTS AND A LIST OF CASES

infixr 1 ◌and◌
-- a test for each case, of one number, which holds exactly where the case's condition does; what tests the rest may take it that the test does not hold
pub data Tested : List Test → List Case → Type 1 where
  end : Tested [] []
  unless : {r : Refusal} {b : Bool} {P : Type 0} {cs : List Test} {ks : List Case} → (b ≡ true) ↔ P → (b ≡ false → Tested cs ks)
      → Tested (record { refusal = r; holds = b } ∷ cs) (record { number = number_of r; condition = P } ∷ ks)

-- a test, and those behind it
pub ◌and◌ : {r : Refusal} {b : Bool} {P : Type 0} {cs : List Test} {ks : List Case} → (b ≡ true) ↔ P → Tested cs ks
    → Tested (record { refusal = r; holds = b } ∷ cs) (record { number = number_of r; condition = P } ∷ ks)
h and k = unless h (λ e. k)

-- the verdict gives the number of the first case whose condition holds
pub judged-first : {cs : List Test} {ks : List Case} → Tested cs ks → (n : ℕ) → Gives (judged cs) n ↔ FirstOf n ks
judged-first end n = (λ g. g, λ p. p)
judged-first (unless {b = true} h k) n = (λ g. inl (g, h.0 refl), λ p. ⊎_elim (λ q. q.0) (λ q. absurd (q.0 (h.0 refl))) p)
judged-first (unless {b = false} h k) n =
    let i = judged-first (k refl) n in
    (λ g. inr (λ p. false≢true (h.1 p), i.0 g), λ p. ⊎_elim (λ q. absurd (false≢true (h.1 q.1))) (λ q. i.1 q.1) p)

-- and accepts where none does
pub judged-none : {cs : List Test} {ks : List Case} → Tested cs ks → (judged cs ≡ accept) ↔ NoneHolds ks
judged-none end = (λ e. tt, λ u. refl)
judged-none (unless {b = true} h k) = (λ e. absurd (false≢true (ap is_accept e)), λ p. absurd (p.0 (h.0 refl)))
judged-none (unless {b = false} h k) = let i = judged-none (k refl) in (λ e. (λ p. false≢true (h.1 p), i.0 e), λ p. i.1 p.1)

-- a number that is given stands in the list
pub listed : (ks : List Case) (n : ℕ) → FirstOf n ks → Memᴰ n (map Case.number ks)
listed [] n p = absurd p
listed (k ∷ ks) n p = ⊎_elim (λ q. Memᴰ.head (sym q.0)) (λ q. Memᴰ.tail (listed ks n q.1)) p
