-- One kind of tag of one guest, walked from its first request to its last: what the walk carries is the least that the next tag may be, and what the next number
-- is.
-- Assumes nothing.
use Prim.Native.Nat.{ℕ, ◌+◌, ◌*◌, ◌<◌}
use mathlib.Core.Path.{◌≡◌, refl, sym, ap, ◌∙◌}
use mathlib.Core.Bool.{Bool, true, false, ◌&&◌, and-true, and_assoc}
use mathlib.Core.List.{List, [], ◌∷◌}
use native.Mathlib.Omega.{arith}
use lib.Dec.{leb, eqb}
use borrow.Author.Tests.{ne_eqb, le-leb}
use Rattle.lists.specs.Words.{all}
use Rattle.lists.specs.WordsLaws.{both}
use Rattle.rules.specs.Tables.{Request}
use Rattle.rules.specs.Sound.{priced, apart, follows, kept}
use Rattle.rules.proofs.Spacings.{cost_some}
use Rattle.entries.specs.Kinds.{passes, ends}

-- the walk by the spacing d: f is the least that the next tag may be, and e what the next number is. A request asks for its cost times d of the next number, and
-- for what is near of that of the next tag
unfoldable pub run : (tag : Request → ℕ) (near : ℕ → ℕ) (d f e : ℕ) → List Request → (next : ℕ) → Bool
run tag near d f e [] n = ends d e n
run tag near d f e (q ∷ l) n = passes d f (tag q) && run tag near d (tag q + near (q.cost * d)) (tag q + q.cost * d) l n

-- what a request asks for, by the spacing d
abbrev pub gap : (d : ℕ) → Request → ℕ
gap d q = q.cost * d

-- of a kind that the guest has, a tag is compared with what the one before asks for
passes_has : (d f x : ℕ) → 0 < d → passes d f x ≡ leb f x
passes_has d f x h = rw (ne_eqb d 0 (λ e. omega arith))

module _ (tag : Request → ℕ) (near : ℕ → ℕ) where
  -- from a request on, the walk is the rule of spacing and the rule of the next number
  run_from : (d f e : ℕ) (q : Request) (l : List Request) (n : ℕ) → 0 < d → all priced (q ∷ l) ≡ true
      → run tag near d f e (q ∷ l) n ≡ (leb f (tag q) && (apart tag (λ p. near (gap d p)) (q ∷ l) && follows tag (gap d) (q ∷ l) n))
  unfolding run
  run_from d f e q [] n h k =
      rw (ne_eqb d 0 (λ e. omega arith), ne_eqb (tag q + gap d q) 0 (λ e. omega (arith, cost_some q.cost d (both (priced q) true k).0 h)))
  run_from d f e q (p ∷ l) n h k =
      ap (λ (b : Bool). b && run tag near d (tag q + near (gap d q)) (tag q + gap d q) (p ∷ l) n) (passes_has d f (tag q) h)
      ∙ ap (λ (b : Bool). leb f (tag q) && b)
      (run_from d (tag q + near (gap d q)) (tag q + gap d q) p l n h (both (priced q) (all priced (p ∷ l)) k).1
      ∙ sym (and_assoc (leb (tag q + near (gap d q)) (tag p)) (apart tag (λ p. near (gap d p)) (p ∷ l)) (follows tag (gap d) (p ∷ l) n)))

  -- the walk of a kind that the guest has
  pub run_has : (d : ℕ) (l : List Request) (n : ℕ) → 0 < d → all priced l ≡ true → run tag near d 0 0 l n ≡ kept true tag (λ p. near (gap d p)) (gap d) l n
  unfolding run kept
  run_has d [] n h k = rw (ne_eqb d 0 (λ e. omega arith))
  run_has d (q ∷ l) n h k = run_from d 0 0 q l n h k ∙ ap (λ (b : Bool). b && (apart tag (λ p. near (gap d p)) (q ∷ l) && follows tag (gap d) (q ∷ l) n)) (le-leb 0 (tag q) (omega arith))

  -- three tests in another order
  swap : (a b d : Bool) → a && (b && d) ≡ (b && (a && d))
  swap true b d = refl
  swap false true d = refl
  swap false false d = refl

  -- with no gap every tag is zero, and the next number
  run_zero : (f e : ℕ) (l : List Request) (n : ℕ) → run tag near 0 f e l n ≡ (eqb n 0 && all (λ q. eqb (tag q) 0) l)
  unfolding run
  run_zero f e [] n = sym (and-true (eqb n 0))
  run_zero f e (q ∷ l) n = ap (λ (b : Bool). eqb (tag q) 0 && b) (run_zero (tag q + near (q.cost * 0)) (tag q + q.cost * 0) l n) ∙ swap (eqb (tag q) 0) (eqb n 0) (all (λ q. eqb (tag q) 0) l)

  -- the walk of a kind that it lacks
  pub run-lacks : (close far : Request → ℕ) (l : List Request) (n : ℕ) → run tag near 0 0 0 l n ≡ kept false tag close far l n
  unfolding kept
  run-lacks close far l n = run_zero 0 0 l n
