-- What the functions over the counters keep, turn by turn. Assumes nothing.
use Prim.Native.Nat.{ℕ, suc, ◌+◌, ◌*◌, ◌≤◌, ◌<◌}
use mathlib.Core.Path.{◌≡◌, refl, ap, ◌∙◌}
use mathlib.Core.Bool.{Bool, true, false}
use mathlib.Core.List.{List}
use native.Mathlib.Omega.{arith}
use native.Mathlib.Nat.{mul-le-mul_right, suc-mul}
use native.Mathlib.Numerals.{add-one}
use Rattle.arrays.specs.Counters.{counter_wide, DELTA, RHO, row_of, counter_at, one_more, row_set, counted_row, counted_all, cleared_row, cleared_all}

-- ROWS

-- the row of a guest at an array is one of all rows
pub row_among : (m n a g : ℕ) → a < m → g < n → row_of n a g < m * n
row_among m n a g h k = omega (arith, mul-le-mul_right n h)

-- so it stands in a list that is long enough for all
pub row_inside : (m n a g l : ℕ) → a < m → g < n → m * n * counter_wide ≤ l → row_of n a g * counter_wide + counter_wide ≤ l
row_inside m n a g l h k room = omega (arith, row_among m n a g h k)

-- and so do the rows of all guests at an array
pub rows_inside : (m n a l : ℕ) → a < m → m * n * counter_wide ≤ l → (a * n + n) * counter_wide ≤ l
rows_inside m n a l h room =
    let most : suc a * n ≤ m * n = mul-le-mul_right n h in
    omega (arith, most, suc-mul a n)

-- one more of delta and of rho
pub counted_both : (cs ws : List ℕ) (row a b d r : ℕ) (reserved : Bool) → a ≡ counter_at cs row DELTA → d ≡ one_more a → b ≡ counter_at cs row RHO → r ≡ one_more b → reserved ≡ true
    → ws ≡ row_set row d r cs → ws ≡ counted_row reserved row cs
counted_both cs ws row a b d r reserved p q s t e h = rw e (h ∙ (λ i. row_set row ((q ∙ ap one_more p) i) ((t ∙ ap one_more s) i) cs))

-- one more of delta alone
pub counted-one : (cs ws : List ℕ) (row a b d : ℕ) (reserved : Bool) → a ≡ counter_at cs row DELTA → d ≡ one_more a → b ≡ counter_at cs row RHO → reserved ≡ false
    → ws ≡ row_set row d b cs → ws ≡ counted_row reserved row cs
counted-one cs ws row a b d reserved p q s e h = rw e (h ∙ (λ i. row_set row ((q ∙ ap one_more p) i) (s i) cs))

-- LOOPS

-- before the first array
pub counted_none : (n g : ℕ) (r : Bool) (cs : List ℕ) → cs ≡ counted_all 0 n g r cs
unfolding counted_all
counted_none n g r cs = refl

-- one array more
pub counted_next : (a n g : ℕ) (r : Bool) (cs ws vs : List ℕ) → ws ≡ counted_all a n g r cs → vs ≡ counted_row r (row_of n a g) ws → vs ≡ counted_all (a + 1) n g r cs
unfolding counted_all
counted_next a n g r cs ws vs e h = rw add-one (h ∙ ap (counted_row r (row_of n a g)) e)

-- before the first guest
pub cleared_none : (n a : ℕ) (cs : List ℕ) → cs ≡ cleared_all n a 0 cs
unfolding cleared_all
cleared_none n a cs = refl

-- one guest more
pub cleared_next : (n a m : ℕ) (cs ws vs : List ℕ) → ws ≡ cleared_all n a m cs → vs ≡ cleared_row (row_of n a m) ws → vs ≡ cleared_all n a (m + 1) cs
unfolding cleared_all
cleared_next n a m cs ws vs e h = rw add-one (h ∙ ap (cleared_row (row_of n a m)) e)
