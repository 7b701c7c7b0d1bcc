-- What the spacings are bounded by, a cost times a spacing too, and that a kind of tag which a guest lacks has none. Assumes nothing.
use mathlib.Core.Path.{◌≡◌}
use mathlib.Core.Bool.{true, false}
use Prim.Native.Nat.{ℕ, zero, suc, ◌≤◌, ◌<◌, ◌+◌, ◌-◌, ◌*◌}
use native.Mathlib.Omega.{arith}
use native.Mathlib.Nat.{div-le_self, le-div_iff_mul-le, div-lt_iff_lt-mul, mul-le-mul, mul-zero}
use lib.Dec.{ltb, leb}
use borrow.Author.Tests.{ltb-false, leb-true}
use Rattle.lists.specs.WordsLaws.{both}
use Rattle.rules.specs.Numbers.{second, most_cost, down, up}
use Rattle.rules.specs.Sound.{fair}

-- a spacing rounded down is at most a second
pub down_le : (n : ℕ) → down n ≤ second
unfolding down
down_le n = div-le_self second n

-- and so is one rounded up
pub up_le : (n : ℕ) → up n ≤ second
unfolding up
up_le zero = omega arith
up_le (suc n) = omega (arith, (div-lt_iff_lt-mul {k = suc n} {x = second + suc n - 1} {y = suc second} (omega arith)).1 (omega arith))

-- what is not above 0 is 0
pub zero_is : (n : ℕ) → ltb 0 n ≡ false → n ≡ 0
zero_is n e = omega (arith, ltb-false 0 n e)

-- a spacing that a guest has is not 0
pub down-some : (n : ℕ) → 0 < n → n ≤ 1000000 → 0 < down n
unfolding down
down-some n h l = (le-div_iff_mul-le {k = n} {x = 1} {y = second} h).1 (omega arith)

-- and neither is the one rounded up
pub up-some : (n : ℕ) → 0 < n → 0 < up n
unfolding up
up-some n h = (le-div_iff_mul-le {k = n} {x = 1} {y = second + n - 1} h).1 (omega arith)

-- a spacing that a guest lacks is 0
pub no_down : (n : ℕ) → ltb 0 n ≡ false → down n ≡ 0
unfolding down
no_down n e = rw (zero_is n e)

-- and so is the one rounded up
pub no_up : (n : ℕ) → ltb 0 n ≡ false → up n ≡ 0
unfolding up
no_up n e = rw (zero_is n e)

-- a cost is from 1 to 64
pub fair_is : (c : ℕ) → fair c ≡ true → (1 ≤ c) × (c ≤ most_cost)
unfolding fair
fair_is c h = let p = both (leb 1 c) (leb c most_cost) h in (leb-true 1 c p.0, leb-true c most_cost p.1)

-- a cost times a spacing is at most 64 seconds
pub cost_le : (c d : ℕ) → c ≤ most_cost → d ≤ second → c * d ≤ most_cost * second
cost_le c d h k = mul-le-mul h k

-- it is 0 where the guest lacks the kind
pub cost_none : (c d : ℕ) → d ≡ 0 → c * d ≡ 0
cost_none c d e = rw e (mul-zero c)

-- but not where the guest has it
pub cost_some : (c d : ℕ) → fair c ≡ true → 0 < d → 0 < c * d
cost_some c d h k = omega (arith, mul-le-mul {n₁ = 1} {m₁ = 1} {n₂ = c} {m₂ = d} (fair_is c h).0 k)

-- nor less than the spacing
pub cost_once : (c d : ℕ) → fair c ≡ true → d ≤ c * d
cost_once c d h = omega (arith, mul-le-mul {n₁ = 1} {m₁ = d} {n₂ = c} {m₂ = d} (fair_is c h).0 (omega arith))
