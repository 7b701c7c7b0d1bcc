-- The counters of all arrays, row by row: what a row holds once it is set, once a completion was counted, once it begins anew, and that the others stay.
-- Assumes nothing.
use Prim.Native.Nat.{ℕ, zero, suc, ◌+◌, ◌*◌, ◌≤◌, ◌<◌}
use mathlib.Core.Path.{◌≡◌, refl, sym, ap, ◌∙◌}
use mathlib.Core.Bool.{Bool}
use mathlib.Core.List.{List}
use mathlib.Core.Logic.{◌⊎◌, inl, inr, ⊎_elim}
use native.Mathlib.Nat.{mul-le-mul_right}
use native.Mathlib.Omega.{arith}
use lib.ListN.{length, get_or, set, drop, length-set}
use lib.Seq.{get_or-set_same, get_or-set_other, drop-set-lt}
use Rattle.lists.specs.Words.{if◌then◌else◌}
use Rattle.lists.specs.Tab.{lt_or_le}
use Rattle.arrays.specs.Counters.{counter_wide, DELTA, RHO, row_of, counter_at, row_set, one_more, counted_row, counted_all, cleared_row, cleared_all}
use Rattle.arrays.proofs.Rows.{row_among}

-- ROWS

-- rows of different arrays, or of different guests, differ
pub rows_apart : (n a b g x : ℕ) → g < n → x < n → row_of n a g ≡ row_of n b x → (a ≡ b) × (g ≡ x)
rows_apart n a b g x k l e = ⊎_elim (λ p. absurd (omega (arith, mul-le-mul_right n p))) (λ p. ⊎_elim (λ q. absurd (omega (arith, mul-le-mul_right n q))) (λ q. same p q) (lt_or_le b a)) (lt_or_le a b)
  where
    same : b ≤ a → a ≤ b → (a ≡ b) × (g ≡ x)
    same p q =
        let z : a ≡ b = omega arith in
        let y : a * n ≡ b * n = ap (λ (i : ℕ). i * n) z in
        (z, omega arith)

-- delta and rho of a row
abbrev pub pair_at : List ℕ → ℕ → ℕ × ℕ
pair_at cs row = (counter_at cs row DELTA, counter_at cs row RHO)

module _ (cs : List ℕ) (row d r : ℕ) where
  -- the counters are as long as before
  pub length-row-set : length (row_set row d r cs) ≡ length cs
  unfolding row_set
  length-row-set = length-set (set cs (row * counter_wide + DELTA) d) (row * counter_wide + RHO) r ∙ length-set cs (row * counter_wide + DELTA) d

  -- the row that is set
  pub row-set : row * counter_wide + counter_wide ≤ length cs → pair_at (row_set row d r cs) row ≡ (d, r)
  unfolding row_set
  row-set room =
      let a : get_or (set (set cs (row * counter_wide + DELTA) d) (row * counter_wide + RHO) r) (row * counter_wide + DELTA) 0 ≡ d =
      get_or-set_other (set cs (row * counter_wide + DELTA) d) (row * counter_wide + RHO) (row * counter_wide + DELTA) r 0 (λ e. omega arith)
      ∙ get_or-set_same cs (row * counter_wide + DELTA) d 0 (omega arith) in
      let b : get_or (set (set cs (row * counter_wide + DELTA) d) (row * counter_wide + RHO) r) (row * counter_wide + RHO) 0 ≡ r =
      get_or-set_same (set cs (row * counter_wide + DELTA) d) (row * counter_wide + RHO) r 0 (rw (length-set cs (row * counter_wide + DELTA) d) (omega arith)) in
      λ i. (a i, b i)

  -- every other number stays
  row-set_number : (k : ℕ) → (k ≡ row * counter_wide + DELTA → ⊥) → (k ≡ row * counter_wide + RHO → ⊥) → get_or (row_set row d r cs) k 0 ≡ get_or cs k 0
  unfolding row_set
  row-set_number k x y =
      get_or-set_other (set cs (row * counter_wide + DELTA) d) (row * counter_wide + RHO) k r 0 y ∙ get_or-set_other cs (row * counter_wide + DELTA) k d 0 x

  -- so the other rows do
  pub row-set_other : (other : ℕ) → (other ≡ row → ⊥) → pair_at (row_set row d r cs) other ≡ pair_at cs other
  row-set_other other n =
      let a = row-set_number (other * counter_wide + DELTA) (λ e. n (omega arith)) (λ e. omega arith) in
      let b = row-set_number (other * counter_wide + RHO) (λ e. omega arith) (λ e. n (omega arith)) in
      λ i. (a i, b i)

-- A COMPLETION IS COUNTED

-- delta and rho with one more
abbrev pub one_more_pair : (reserved : Bool) → ℕ × ℕ → ℕ × ℕ
one_more_pair r p = (one_more p.0, if r then one_more p.1 else p.1)

module _ (n g : ℕ) (r : Bool) (cs : List ℕ) where
  -- the counters are as long as before
  pub length-counted : (m : ℕ) → length (counted_all m n g r cs) ≡ length cs
  unfolding counted_all
  length-counted zero = refl
  length-counted (suc a) = length-row-set (counted_all a n g r cs) (row_of n a g) _ _ ∙ length-counted a

  module _ (known : g < n) where
    -- a row of another guest, or at an array behind those, stays
    pub counted_other : (m b x : ℕ) → x < n → (x ≡ g → m ≤ b) → pair_at (counted_all m n g r cs) (row_of n b x) ≡ pair_at cs (row_of n b x)
    unfolding counted_all
    counted_other zero b x l h = refl
    counted_other (suc a) b x l h =
        row-set_other (counted_all a n g r cs) (row_of n a g) _ _ (row_of n b x) (λ e. let z = rows_apart n b a x g l known e in omega (arith, z.0, h z.1))
        ∙ counted_other a b x l (λ e. let i = h e in omega arith)

    -- the guest's own rows at those arrays have one more
    pub counted-own : (m b : ℕ) → b < m → m * n * counter_wide ≤ length cs → pair_at (counted_all m n g r cs) (row_of n b g) ≡ one_more_pair r (pair_at cs (row_of n b g))
    unfolding counted_all
    counted-own zero b l room = absurd (omega arith)
    counted-own (suc a) b l room = go (lt_or_le b a) (λ k. counted-own a b k (omega arith))
      where
        before : List ℕ
        before = counted_all a n g r cs

        more : pair_at (counted_row r (row_of n a g) before) (row_of n a g) ≡ one_more_pair r (pair_at cs (row_of n a g))
        more =
            row-set before (row_of n a g) _ _ (rw (length-counted a) (omega (arith, row_among (suc a) n a g (omega arith) known)))
            ∙ ap (one_more_pair r) (counted_other a a g known (λ e. omega arith))

        go : (b < a) ⊎ (a ≤ b) → (b < a → pair_at before (row_of n b g) ≡ one_more_pair r (pair_at cs (row_of n b g)))
            → pair_at (counted_row r (row_of n a g) before) (row_of n b g) ≡ one_more_pair r (pair_at cs (row_of n b g))
        go (inl k) i = row-set_other before (row_of n a g) _ _ (row_of n b g) (λ e. let z = rows_apart n b a g g known known e in omega (arith, z.0)) ∙ i k
        go (inr k) i = let z : a ≡ b = omega arith in ap (λ (c : ℕ). pair_at (counted_row r (row_of n a g) before) (row_of n c g)) (sym z) ∙ more ∙ ap (λ (c : ℕ). one_more_pair r (pair_at cs (row_of n c g))) z

-- ROWS BEGIN ANEW

module _ (n a : ℕ) (cs : List ℕ) where
  -- the counters are as long as before
  pub length_cleared : (m : ℕ) → length (cleared_all n a m cs) ≡ length cs
  unfolding cleared_all
  length_cleared zero = refl
  length_cleared (suc m) = length-row-set (cleared_all n a m cs) (row_of n a m) 0 0 ∙ length_cleared m

  -- a row of a guest behind those, or at another array, stays
  pub cleared_other : (m : ℕ) → m ≤ n → (b x : ℕ) → x < n → (b ≡ a → m ≤ x) → pair_at (cleared_all n a m cs) (row_of n b x) ≡ pair_at cs (row_of n b x)
  unfolding cleared_all
  cleared_other zero k b x l h = refl
  cleared_other (suc m) k b x l h =
      row-set_other (cleared_all n a m cs) (row_of n a m) 0 0 (row_of n b x) (λ e. let z = rows_apart n b a x m l k e in omega (arith, z.1, h z.0))
      ∙ cleared_other m (omega arith) b x l (λ e. let i = h e in omega arith)

  -- the rows of those guests at the array hold 0
  pub cleared_own : (m : ℕ) → m ≤ n → suc a * n * counter_wide ≤ length cs → (x : ℕ) → x < m → pair_at (cleared_all n a m cs) (row_of n a x) ≡ (0, 0)
  unfolding cleared_all
  cleared_own zero k room x l = absurd (omega arith)
  cleared_own (suc m) k room x l = go (lt_or_le x m) (λ i. cleared_own m (omega arith) room x i)
    where
      before : List ℕ
      before = cleared_all n a m cs

      go : (x < m) ⊎ (m ≤ x) → (x < m → pair_at before (row_of n a x) ≡ (0, 0)) → pair_at (cleared_row (row_of n a m) before) (row_of n a x) ≡ (0, 0)
      go (inl j) i = row-set_other before (row_of n a m) 0 0 (row_of n a x) (λ e. omega (arith, e)) ∙ i j
      go (inr j) i =
          let z : m ≡ x = omega arith in
          ap (λ (c : ℕ). pair_at (cleared_row (row_of n a m) before) (row_of n a c)) (sym z)
          ∙ row-set before (row_of n a m) 0 0 (rw (length_cleared m) (omega (arith, row_among (suc a) n a m (omega arith) k)))

-- WHAT STANDS BEYOND the rows of m arrays of n guests

-- a row that is set among those
pub row-set_beyond : (most row d r : ℕ) (cs : List ℕ) → row < most → drop (most * counter_wide) (row_set row d r cs) ≡ drop (most * counter_wide) cs
unfolding row_set
row-set_beyond most row d r cs l =
    drop-set-lt (most * counter_wide) (set cs (row * counter_wide + DELTA) d) (row * counter_wide + RHO) r (omega arith)
    ∙ drop-set-lt (most * counter_wide) cs (row * counter_wide + DELTA) d (omega arith)

-- a completion
pub counted_beyond : (most n g : ℕ) (r : Bool) (cs : List ℕ) → g < n → (m : ℕ) → m ≤ most → drop (most * n * counter_wide) (counted_all m n g r cs) ≡ drop (most * n * counter_wide) cs
unfolding counted_all
counted_beyond most n g r cs known zero l = refl
counted_beyond most n g r cs known (suc a) l =
    row-set_beyond (most * n) (row_of n a g) _ _ (counted_all a n g r cs) (row_among most n a g l known) ∙ counted_beyond most n g r cs known a (omega arith)

-- rows that begin anew
pub cleared_beyond : (most n a : ℕ) (cs : List ℕ) → a < most → (m : ℕ) → m ≤ n → drop (most * n * counter_wide) (cleared_all n a m cs) ≡ drop (most * n * counter_wide) cs
unfolding cleared_all
cleared_beyond most n a cs there zero l = refl
cleared_beyond most n a cs there (suc m) l =
    row-set_beyond (most * n) (row_of n a m) 0 0 (cleared_all n a m cs) (row_among most n a m there l) ∙ cleared_beyond most n a cs there m (omega arith)
