-- How many guests a walk has yet to see, by its marks: where there are none it may end. Marks are those of a list, or the bits of one number.
-- Assumes nothing.
use Rattle.std.specs.Prelude.{ℕ, zero, suc, ◌+◌, ◌-◌, ◌*◌, ◌/◌, ◌%◌, ◌^◌, ◌≤◌, ◌<◌, ◌≡◌, refl, Bool, true, false, List, eqb, ltb, length, get_or, set, if◌then◌else◌}
use Rattle.std.proofs.Common.{sym, ap, ◌∙◌, subst, arith, mod-lt, pow-suc, pow_pos, pow-add, get_or-set_other, get_or-set_same, eqb-true, ltb-true, ltb-false}
use Rattle.std.proofs.Math.Nat.{div-eq_of_lt, div_self, mul-mod_left}
use Rattle.std.specs.Int.Bits.{bit_or, or_zero_r}
use Rattle.std.proofs.lemmas.Nat.{or_lt, or_shr, or_mod, shl-shr}
use Rattle.std.proofs.Math.Pow.{pow-lt}
use Rattle.std.proofs.lemmas.Bool.{eqb-false}
use Rattle.walks.specs.Lifted.{or_above}

-- a guest's bit in the number
abbrev pub bit_of : (seen g : ℕ) → ℕ
bit_of seen g = seen / 2 ^ g % 2

-- a guest's mark in a list, as a bit
abbrev pub mark_in : List Bool → (g : ℕ) → ℕ
mark_in seen g = if get_or seen g false then 1 else 0

-- guest g has its mark after, and the others are as before
pub record Marked (before : ℕ → ℕ) (g : ℕ) (after : ℕ → ℕ) : Type 0 where
  pub own : after g ≡ 1
  pub others : (k : ℕ) → (k ≡ g → ⊥) → after k ≡ before k

-- a mark is put in a list
pub marked_set : (seen : List Bool) (g : ℕ) → g < length seen → Marked (mark_in seen) g (mark_in (set seen g true))
marked_set seen g long =
    record {
      own = ap (λ (b : Bool). if b then 1 else 0) (get_or-set_same seen g true false long);
      others = λ k other. ap (λ (b : Bool). if b then 1 else 0) (get_or-set_other seen g k true false other);
    }

-- 0 has no bit
pub none-set : (g : ℕ) → bit_of 0 g ≡ 0
none-set g = ap (λ (x : ℕ). x % 2) (div-eq_of_lt (pow_pos g))

-- a bit of two numbers that are joined
bit_or_lem : (a b k : ℕ) → bit_of (bit_or a b) k ≡ bit_or (bit_of a k) (bit_of b k)
bit_or_lem a b k = ap (λ (x : ℕ). x % 2) (or_shr a b k) ∙ or_mod (a / 2 ^ k) (b / 2 ^ k) 1

-- the only bit of a power of 2
power_own : (g : ℕ) → bit_of (2 ^ g) g ≡ 1
power_own g = ap (λ (x : ℕ). x % 2) (div_self (pow_pos g))

-- a power of two has no other bit
power_others : (g k : ℕ) → (k ≡ g → ⊥) → bit_of (2 ^ g) k ≡ 0
power_others g k other = go (ltb g k) refl
  where
    go : (b : Bool) → ltb g k ≡ b → bit_of (2 ^ g) k ≡ 0
    go true e = ap (λ (x : ℕ). x % 2) (div-eq_of_lt (pow-lt (ltb-true g k e)))
    go false e =
        let d = g - k - 1 in
        let apart : g ≡ suc d + k = omega (arith, ltb-false g k e, other) in
        let power : 2 ^ g ≡ 2 ^ suc d * 2 ^ k = ap (λ (x : ℕ). 2 ^ x) apart ∙ pow-add 2 (suc d) k in
        ap (λ (x : ℕ). x / 2 ^ k % 2) power ∙ ap (λ (x : ℕ). x % 2) (shl-shr (2 ^ suc d) k) ∙ ap (λ (x : ℕ). x % 2) (pow-suc 2 d) ∙ mul-mod_left (2 ^ d) 2

-- a guest's bit is set
pub marked_or : (seen g : ℕ) → Marked (bit_of seen) g (bit_of (bit_or seen (2 ^ g)))
marked_or seen g =
    record {
      own =
          let own = power_own g in
          let low = or_lt 1 (bit_of seen g) (bit_of (2 ^ g) g) (mod-lt (seen / 2 ^ g) (pow_pos 1)) (mod-lt (2 ^ g / 2 ^ g) (pow_pos 1)) in
          omega (arith, bit_or_lem seen (2 ^ g) g, low, own, or_above (bit_of seen g) (bit_of (2 ^ g) g));
      others = λ k other. bit_or_lem seen (2 ^ g) k ∙ ap (bit_or (bit_of seen k)) (power_others g k other) ∙ or_zero_r (bit_of seen k);
    }

-- 1 for a mark that is missing
abbrev lone : ℕ → ℕ
lone mark = if eqb mark 0 then 1 else 0

-- how many of the first n guests have no mark
unfoldable pub unseen : (seen : ℕ → ℕ) (n : ℕ) → ℕ
unseen seen zero = 0
unseen seen (suc n) = lone (seen n) + unseen seen n

-- at most 1 for each
lone_most : (mark : ℕ) → lone mark ≤ 1
lone_most mark = elim (eqb mark 0) as (λ b. (if b then 1 else 0) ≤ 1) [ true ↦ omega arith | false ↦ omega arith ]

-- so no more than there are guests
pub unseen_most : (seen : ℕ → ℕ) (n : ℕ) → unseen seen n ≤ n
unfolding unseen
unseen_most seen zero = omega arith
unseen_most seen (suc n) = omega (arith, unseen_most seen n, lone_most (seen n))

-- a guest without a mark is one of them
pub unseen-some : (seen : ℕ → ℕ) (n g : ℕ) → g < n → seen g ≡ 0 → 1 ≤ unseen seen n
unfolding unseen
unseen-some seen zero g h e = absurd (omega (arith, h))
unseen-some seen (suc n) g h e = go (λ l. unseen-some seen n g l e) (eqb g n) refl
  where
    go : (g < n → 1 ≤ unseen seen n) → (b : Bool) → eqb g n ≡ b → 1 ≤ lone (seen n) + unseen seen n
    go again true f =
        let one : lone (seen n) ≡ 1 = ap lone (ap seen (sym (eqb-true g n f)) ∙ e) in
        omega (arith, one)
    go again false f = omega (arith, again (omega (arith, h, eqb-false g n f)))

-- marks that are the same
unseen_same : (seen seen' : ℕ → ℕ) (n : ℕ) → ((k : ℕ) → k < n → seen' k ≡ seen k) → unseen seen' n ≡ unseen seen n
unfolding unseen
unseen_same seen seen' zero h = refl
unseen_same seen seen' (suc n) h =
    let mark : lone (seen' n) ≡ lone (seen n) = ap lone (h n (omega arith)) in
    omega (arith, mark, unseen_same seen seen' n (λ k l. h k (omega (arith, l))))

-- a guest that gets its mark is one less
pub unseen-mark : (seen seen' : ℕ → ℕ) (n g : ℕ) → Marked seen g seen' → g < n → seen g ≡ 0 → unseen seen' n + 1 ≡ unseen seen n
unfolding unseen
unseen-mark seen seen' zero g m h e = absurd (omega (arith, h))
unseen-mark seen seen' (suc n) g m h e = go (λ l. unseen-mark seen seen' n g m l e) (eqb g n) refl
  where
    go : (g < n → unseen seen' n + 1 ≡ unseen seen n) → (b : Bool) → eqb g n ≡ b → lone (seen' n) + unseen seen' n + 1 ≡ lone (seen n) + unseen seen n
    go again true f =
        let same = eqb-true g n f in
        let before : lone (seen n) ≡ 1 = ap lone (ap seen (sym same) ∙ e) in
        let after : lone (seen' n) ≡ 0 = ap lone (ap seen' (sym same) ∙ m.own) in
        omega (arith, before, after, unseen_same seen seen' n (λ k l. m.others k (λ (q : k ≡ g). omega (arith, l, q, same))))
    go again false f =
        let mark : lone (seen' n) ≡ lone (seen n) = ap lone (m.others n (λ (k : n ≡ g). eqb-false g n f (sym k))) in
        omega (arith, mark, again (omega (arith, h, eqb-false g n f)))

-- one that had it already makes no difference
pub unseen-again : (seen seen' : ℕ → ℕ) (n g : ℕ) → Marked seen g seen' → seen g ≡ 1 → unseen seen' n ≡ unseen seen n
unseen-again seen seen' n g m e = unseen_same seen seen' n (λ k l. go k (eqb k g) refl)
  where
    go : (k : ℕ) → (b : Bool) → eqb k g ≡ b → seen' k ≡ seen k
    go k true f = let same = eqb-true k g f in ap seen' same ∙ m.own ∙ sym e ∙ ap seen (sym same)
    go k false f = m.others k (eqb-false k g f)

-- what each row that is left keeps holds behind the last of count rows; n are left
pub kept-to-end : (P : ℕ → Type 0) (count : ℕ) → ((row : ℕ) → row < count → P row → P (row + 1)) → (n row : ℕ) → n + row ≡ count → P row → P count
kept-to-end P count keep zero row e p = subst P (omega (arith, e)) p
kept-to-end P count keep (suc n) row e p = kept-to-end P count keep n (row + 1) (omega (arith, e)) (keep row (omega (arith, e)) p)
