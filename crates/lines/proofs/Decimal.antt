-- The fewest digits that the kit's `io::decimal` writes are the digits of a line; and what a line's digits say: they read back as the number,
-- and none but 0 begins with a zero. Assumes nothing.
use Prim.Native.Nat.{ℕ, zero, suc, ◌+◌, ◌*◌, ◌-◌, ◌/◌, ◌%◌, ◌^◌, ◌≤◌, ◌<◌}
use mathlib.Core.Path.{◌≡◌, refl, sym, ap, ◌∙◌}
use mathlib.Core.Bool.{Bool, true, false}
use mathlib.Core.List.{List, [], ◌∷◌, ◌++◌, append-nil}
use native.Mathlib.Omega.{arith}
use native.Mathlib.Nat.{pow-suc, pow-le-pow_right, one-le-pow, le_of_suc-le-suc, not-suc-le-zero, mod-eq_of_lt}
use native.Mathlib.Decide.{dec_le}
use lib.Dec.{lit<, ltb}
use lib.ListN.{get_or, drop}
use borrow.Author.Tests.{lt-ltb, le-ltb, ltb-false}
use Rattle.io.specs.Digits.{last_digits, IsDigitCount}
use Rattle.lists.specs.Words.{if◌then◌else◌}
use Rattle.lines.specs.Line.{decimal_in, decimal_of, refused_with}

-- AS MANY AS `io` WRITES

one : (n : ℕ) → n < 10 → last_digits 10 1 n ≡ (48 + n) ∷ []
one n h = rw (mod-eq_of_lt h, lt-ltb n 10 h)

same : (f k n : ℕ) → k ≤ f → n < 10 ^ suc k → (0 < k → 10 ^ k ≤ n) → last_digits 10 (suc k) n ≡ decimal_in f n
unfolding decimal_in
same zero zero n l h g = one n h
same (suc f) zero n l h g = rw (lt-ltb n 10 h) (one n h)
same zero (suc k) n l h g = absurd (not-suc-le-zero l)
same (suc f) (suc k) n l h g =
    let a : 10 ^ suc k ≡ 10 ^ k * 10 = pow-suc 10 k in
    let b : 10 ^ suc (suc k) ≡ 10 ^ suc k * 10 = pow-suc 10 (suc k) in
    let p : 1 ≤ 10 ^ k = one-le-pow k 10 (lit< tt) in
    let q : 10 ^ suc k ≤ n = g (omega arith) in
    let m : n % 10 < 10 = omega arith in
    let i : last_digits 10 (suc k) (n / 10) ≡ decimal_in f (n / 10) = same f k (n / 10) (le_of_suc-le-suc l) (omega arith) (λ _. omega arith) in
    rw (le-ltb n 10 (omega arith), lt-ltb (n % 10) 10 m, i)

-- a number of 64 bits has at most twenty digits
pub few : (r n : ℕ) → IsDigitCount 10 1 n r → n < 2 ^ 64 → r ≤ 20
few r n e h = go (dec_le r 20)
  where
    go : Dec (r ≤ 20) → r ≤ 20
    go (yes l) = l
    go (no l) = let d : 20 ≤ r - 1 = omega arith in let p : 10 ^ 20 ≤ 10 ^ (r - 1) = pow-le-pow_right (lit< tt) d in let q : 10 ^ (r - 1) ≤ n = e.2 (omega arith) in omega arith

-- a power of ten lies above its exponent
above : (k : ℕ) → k < 10 ^ k
above zero = lit< tt
above (suc k) = let i = above k in let a : 10 ^ suc k ≡ 10 ^ k * 10 = pow-suc 10 k in omega arith

pub decimal_is : (r n : ℕ) → IsDigitCount 10 1 n r → last_digits 10 r n ≡ decimal_of n
decimal_is zero n e = absurd (not-suc-le-zero e.0)
decimal_is (suc k) n e = same n k n (fits (dec_le 1 k)) e.1 high
  where
    high : 0 < k → 10 ^ k ≤ n
    high h = let q : suc k - 1 ≡ k = omega arith in rw q at (e.2 (omega arith))

    fits : Dec (1 ≤ k) → k ≤ n
    fits (yes l) = omega (arith, above k, high l)
    fits (no l) = omega arith

-- WHAT THE DIGITS SAY

-- the number that digits read as, behind the digits of n
abbrev pub read_back : ℕ → List ℕ → ℕ
read_back n [] = n
read_back n (d ∷ ds) = read_back (n * 10 + (d - 48)) ds

read-append : (n : ℕ) (xs ys : List ℕ) → read_back n (xs ++ ys) ≡ read_back (read_back n xs) ys
read-append n [] ys = refl
read-append n (x ∷ xs) ys = read-append (n * 10 + (x - 48)) xs ys

last : (n : ℕ) → n / 10 * 10 + (48 + n % 10 - 48) ≡ n
last n = omega arith

back_in : (f n : ℕ) → n ≤ f → read_back 0 (decimal_in f n) ≡ n
unfolding decimal_in
back_in zero n h = omega arith
back_in (suc f) n h = go (ltb n 10) refl (λ l. back_in f (n / 10) l)
  where
    go : (b : Bool) → ltb n 10 ≡ b → (n / 10 ≤ f → read_back 0 (decimal_in f (n / 10)) ≡ n / 10) → read_back 0 (if ltb n 10 then (48 + n) ∷ [] else decimal_in f (n / 10) ++ ((48 + n % 10) ∷ [])) ≡ n
    go true e i = rw e (omega arith)
    go false e i =
        let l : 10 ≤ n = ltb-false n 10 e in
        rw e (read-append 0 (decimal_in f (n / 10)) ((48 + n % 10) ∷ []) ∙ ap (λ (k : ℕ). k * 10 + (48 + n % 10 - 48)) (i (omega arith)) ∙ last n)

-- the digits of n read back as n
pub decimal_back : (n : ℕ) → read_back 0 (decimal_of n) ≡ n
decimal_back n = back_in n n (omega arith)

-- so a line `trace refused` has one number only
pub refused_once : (m n : ℕ) → refused_with m ≡ refused_with n → m ≡ n
refused_once m n e = omega (arith, sym (tens m) ∙ ap (λ (l : List ℕ). read_back 0 (drop 14 l)) e ∙ tens n)
  where
    tens : (k : ℕ) → read_back 0 (drop 14 (refused_with k)) ≡ k * 10
    tens k = read-append 0 (decimal_of k ++ []) (10 ∷ []) ∙ rw (append-nil, decimal_back) (omega arith)

head_append : (xs ys : List ℕ) → 48 < get_or xs 0 0 → 48 < get_or (xs ++ ys) 0 0
head_append [] ys h = absurd (omega arith)
head_append (x ∷ xs) ys h = h

leads_in : (f n : ℕ) → 0 < n → n ≤ f → 48 < get_or (decimal_in f n) 0 0
unfolding decimal_in
leads_in zero n h l = omega arith
leads_in (suc f) n h l = go (ltb n 10) refl (λ m k. leads_in f (n / 10) m k)
  where
    go : (b : Bool) → ltb n 10 ≡ b → (0 < n / 10 → n / 10 ≤ f → 48 < get_or (decimal_in f (n / 10)) 0 0) → 48 < get_or (if ltb n 10 then (48 + n) ∷ [] else decimal_in f (n / 10) ++ ((48 + n % 10) ∷ [])) 0 0
    go true e i = rw e (omega arith)
    go false e i = let m : 10 ≤ n = ltb-false n 10 e in rw e (head_append (decimal_in f (n / 10)) ((48 + n % 10) ∷ []) (i (omega arith) (omega arith)))

-- "without leading zeros": the first digit of a number above 0 is above `0`
pub decimal_leads : (n : ℕ) → 0 < n → 48 < get_or (decimal_of n) 0 0
decimal_leads n h = leads_in n n h (omega arith)
