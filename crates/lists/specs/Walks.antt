-- Walks that test each entry of a list, from the last to the first, or each number below a bound, from 0 on: one turn is one step of the definition,
-- and one that fails decides it. Assumes nothing.
use Rattle.std.specs.Prelude.{ℕ, zero, suc, ◌+◌, ◌-◌, ◌≤◌, ◌<◌, ◌≡◌, refl, Bool, true, false, ◌&&◌, List, length, get_or, drop}
use Rattle.std.proofs.Common.{sym, ap, ap₂, ◌∙◌, arith, add-one, drop_of_length-le, drop-cons}
use Rattle.std.proofs.lemmas.Bool.{false≢true}
use Rattle.std.proofs.Math.Bool.{and-false}
use Rattle.lists.specs.Words.{all, below}
use Rattle.lists.specs.WordsLaws.{below_at}

-- ENTRIES

module _ {A : Type 0} (f : A → Bool) (l : List A) (z : A) where
  -- past the end nothing is left to test
  pub all_start : (n : ℕ) → length l ≤ n → all f (drop n l) ≡ true
  all_start n h = rw (drop_of_length-le l {i = n} h)

  -- the entry at place k passes, and so do all behind it: all from k on do
  step : (k : ℕ) → k < length l → f (get_or l k z) ≡ true → all f (drop (suc k) l) ≡ true → all f (drop k l) ≡ true
  step k h e s = rw (drop-cons l k z h, e) s

  -- one turn: the entry before place i passes
  pub all-next : (i : ℕ) → 0 < i → i ≤ length l → f (get_or l (i - 1) z) ≡ true → all f (drop i l) ≡ true → all f (drop (i - 1) l) ≡ true
  all-next zero h m e s = absurd (omega arith)
  all-next (suc k) h m e s = let q : suc k - 1 ≡ k = omega arith in rw q (step k (omega arith) (rw q at e) s)

  -- at the first entry all are tested
  pub all_end : (i : ℕ) → i ≤ 0 → all f (drop i l) ≡ true → true ≡ all f l
  all_end zero h s = sym s
  all_end (suc i) h s = absurd (omega arith)

-- NUMBERS

-- two tests that agree below n
pub below_ext : (n : ℕ) (f g : ℕ → Bool) → ((k : ℕ) → k < n → f k ≡ g k) → below n f ≡ below n g
below_ext zero f g h = refl
below_ext (suc n) f g h = ap₂ ◌&&◌ (h n (omega arith)) (below_ext n f g (λ k l. h k (omega arith)))

-- one turn: one number more passes
pub below_next : (f : ℕ → Bool) (i : ℕ) → f i ≡ true → below i f ≡ true → below (i + 1) f ≡ true
below_next f i e s = rw (add-one, e) s

-- one number fails: not every one passes
pub below_fails : (f : ℕ → Bool) (n i : ℕ) → i < n → f i ≡ false → below n f ≡ false
below_fails f n i h e = go (below n f) refl
  where
    go : (b : Bool) → below n f ≡ b → below n f ≡ false
    go true q = absurd (false≢true (sym e ∙ below_at n f q i h))
    go false q = q

-- three tests at once
pub below-three : (f g h : ℕ → Bool) (n : ℕ) → (below n f && below n g && below n h) ≡ below n (λ k. f k && g k && h k)
below-three f g h zero = refl
below-three f g h (suc n) = mixed (f n) (below n f) (g n) (below n g) (h n) (below n h) ∙ ap (λ (b : Bool). f n && g n && h n && b) (below-three f g h n)
  where
    mixed : (a b c d e r : Bool) → (a && b && (c && d) && (e && r)) ≡ (a && c && e && (b && d && r))
    mixed true true true d true r = refl
    mixed true true true d false r = and-false d
    mixed true true false d e r = refl
    mixed true false true d true r = refl
    mixed true false true d false r = refl
    mixed true false false d e r = refl
    mixed false b c d e r = refl
