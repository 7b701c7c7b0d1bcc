-- What a pass over the numbers of an index leaves, and how one number falls. Assumes nothing.
use Prim.Native.Nat.{ℕ, ◌+◌, ◌-◌, ◌≤◌, ◌<◌}
use mathlib.Core.Path.{◌≡◌, refl, ◌∙◌}
use mathlib.Core.Bool.{Bool, true, false}
use mathlib.Core.List.{List}
use mathlib.Core.Logic.{◌⊎◌, inl, inr, ⊎_elim}
use native.Mathlib.Omega.{arith}
use lib.Dec.{eqb}
use lib.ListN.{length, set}
use lib.Seq.{get_or-set_other, get_or-set_same}
use borrow.Author.Tests.{eqb-true, eqb-false, lt-ltb, le-ltb}
use Rattle.index.specs.Index.{fallen, Rewritten}

-- two numbers are equal or not
pub eq_or_not : (a b : ℕ) → (a ≡ b) ⊎ (a ≡ b → ⊥)
eq_or_not a b = go (eqb a b) refl
  where
    go : (c : Bool) → eqb a b ≡ c → (a ≡ b) ⊎ (a ≡ b → ⊥)
    go true e = inl (eqb-true a b e)
    go false e = inr (eqb-false a b e)

-- a number behind the mark
pub fallen-behind : (mark x : ℕ) → mark < x → fallen mark x ≡ x - 1
unfolding fallen
fallen-behind mark x h = rw (lt-ltb mark x h)

-- another
pub fallen-before : (mark x : ℕ) → x ≤ mark → fallen mark x ≡ x
unfolding fallen
fallen-before mark x h = rw (le-ltb mark x h)

module _ (value : ℕ → ℕ) (xs : List ℕ) (from : ℕ) where
  -- before the first turn
  pub rewritten_none : Rewritten value xs xs from from
  rewritten_none = record { done = λ j h l. absurd (omega (arith, h, l)); front = λ j h. refl; back = λ j h. refl }

  -- one turn more
  pub rewritten_next : {w : List ℕ} {i v : ℕ} → Rewritten value xs w from i → from ≤ i → i < length w → v ≡ value i → Rewritten value xs (set w i v) from (i + 1)
  rewritten_next {w} {i} {v} r low room e =
      record {
        done = λ j h l.
            ⊎_elim
            (λ (q : j ≡ i). rw q (get_or-set_same w i v 0 room ∙ e))
            (λ (q : j ≡ i → ⊥). get_or-set_other w i j v 0 q ∙ r.done j h (omega (arith, l, q)))
            (eq_or_not j i);
        front = λ j h. get_or-set_other w i j v 0 (λ (q : j ≡ i). omega (arith, h, low, q)) ∙ r.front j h;
        back = λ j h. get_or-set_other w i j v 0 (λ (q : j ≡ i). omega (arith, h, q)) ∙ r.back j (omega (arith, h));
      }
