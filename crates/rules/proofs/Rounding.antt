-- "So a reservation is never shortened by rounding and a limit never stretched", and neither spacing is off by a whole nanosecond. Assumes
-- nothing.
use Prim.Native.Nat.{ℕ, ◌+◌, ◌-◌, ◌*◌, ◌/◌, ◌≤◌, ◌<◌}
use native.Mathlib.Omega.{arith}
use native.Mathlib.Nat.{mul-div-le, lt-mul-div-succ, mul-add, mul-one}
use Rattle.rules.specs.Numbers.{second, down, up}
use Rattle.rules.specs.Tables.{Settings, rplain, lplain}

-- what lies n past n times a quotient lies past what was divided
past : (x n : ℕ) → 0 < n → x < n * (x / n) + n
past x n h = omega (arith, lt-mul-div-succ x {b = n} h, mul-add n (x / n) 1, mul-one n)

-- "a reservation is never shortened by rounding": r spacings of a reservation r fit in a second
pub never_shortened : (s : Settings) → s.reservation * rplain s ≤ second
unfolding down
never_shortened s = mul-div-le second s.reservation

-- "a limit never stretched": l spacings of a limit l fill a second
pub never_stretched : (s : Settings) → 0 < s.limit → second ≤ s.limit * lplain s
unfolding up
never_stretched s h = omega (arith, past (second + s.limit - 1) s.limit h)

-- it is the largest such spacing: with one nanosecond more, r of them pass a second
pub reservation_tight : (s : Settings) → 0 < s.reservation → second < s.reservation * (rplain s + 1)
unfolding down
reservation_tight s h = lt-mul-div-succ second h

-- it is the smallest such spacing: with one nanosecond less, l of them fall short of a second
pub limit_tight : (s : Settings) → 0 < s.limit → s.limit * lplain s < second + s.limit
unfolding up
limit_tight s h = omega (arith, mul-div-le (second + s.limit - 1) s.limit)
