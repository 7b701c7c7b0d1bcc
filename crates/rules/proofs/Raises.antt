-- Document 02, K14, in plain facts: what becomes of a next number that is raised, that one and one leave it, and where it does not fall. Assumes nothing.
use mathlib.Core.Path.{◌≡◌, refl, sym, ap, ◌∙◌}
use mathlib.Core.Bool.{true}
use mathlib.Core.Logic.{⊎_elim}
use Prim.Native.Nat.{ℕ, zero, suc, ◌≤◌, ◌-◌, ◌*◌}
use native.Mathlib.Omega.{arith}
use native.Mathlib.Nat.{mul-le-mul, zero-mul, one-mul, suc-mul}
use lib.Dec.{leb, eqb}
use borrow.Author.Tests.{leb-true, eqb-true}
use Rattle.lists.specs.WordsLaws.{both}
use Rattle.lists.specs.Tab.{lt_or_le}
use Rattle.rules.specs.Numbers.{second, most_delta, within, raised_by}
use Rattle.rules.specs.Tables.{Guest, rplain, lplain, splain}
use Rattle.rules.specs.Sound.{spread}
use Rattle.rules.specs.Events.{Arriving, raised}
use Rattle.rules.specs.Arrived.{Raised}

-- a delta is at least 1
pub spread-some : (delta rho : ℕ) → spread delta rho ≡ true → 1 ≤ delta
unfolding spread
spread-some delta rho h =
    let p = both (within 1 most_delta delta) (leb rho delta) h in
    leb-true 1 delta (both (leb 1 delta) (leb delta most_delta) p.0).0

-- and at most 65,535, and a rho likewise
pub spread_most : (delta rho : ℕ) → spread delta rho ≡ true → (delta ≤ most_delta) × (rho ≤ most_delta)
unfolding spread
spread_most delta rho h =
    let p = both (within 1 most_delta delta) (leb rho delta) h in
    let d = leb-true delta most_delta (both (leb 1 delta) (leb delta most_delta) p.0).1 in
    (d, omega (arith, leb-true rho delta p.1))

-- so many spacings are at most 65,535 seconds
pub counts_le : (count d : ℕ) → count ≤ most_delta → d ≤ second → count * d ≤ most_delta * second
counts_le count d h k = mul-le-mul h k

-- A next number that is raised for a delta, or for a rho that is not 0, does not fall,
pub raised_above : (count d n : ℕ) → 1 ≤ count → n ≤ raised_by count d n
raised_above count d n h = omega (arith, mul-le-mul {n₁ = 1} {m₁ = d} {n₂ = count} {m₂ = d} h (omega arith))

-- what is computed is the number described,
pub raised_is : (count d n : ℕ) → Raised count d n (raised_by count d n)
raised_is zero d n = record { up_by = λ h. omega arith; falls = λ e h. omega (arith, zero-mul d); cut_off = λ e h. omega (arith, zero-mul d) }
raised_is (suc c) d n = record { up_by = λ h. let z : (suc c - 1) * d ≡ c * d = ap (◌* d) (omega arith) in omega (arith, suc-mul c d); falls = λ e h. absurd (omega arith); cut_off = λ e h. absurd (omega arith) }

-- and no other number is.
pub raised_once : (count d n m : ℕ) → Raised count d n m → m ≡ raised_by count d n
raised_once zero d n m x =
    let k = raised_is zero d n in
    ⊎_elim (λ l. x.cut_off refl (omega arith) ∙ sym (k.cut_off refl (omega arith))) (λ l. omega (arith, x.falls refl l, k.falls refl l)) (lt_or_le n d)
raised_once (suc c) d n m x = x.up_by (omega arith) ∙ sym ((raised_is (suc c) d n).up_by (omega arith))

-- For a count of 1 it stays,
pub raised-one : (count d n : ℕ) → eqb count 1 ≡ true → raised_by count d n ≡ n
raised-one count d n e = let z : count * d ≡ d = ap (◌* d) (eqb-true count 1 e) ∙ one-mul d in omega arith

-- and so one and one leave a guest as it is.
pub one-leaves : (a : Arriving) (h : Guest) → eqb a.delta 1 ≡ true → eqb a.rho 1 ≡ true → raised a h ≡ h
unfolding raised
one-leaves a h d r =
    λ i. record {
      settings = h.settings;
      rnext = raised-one a.rho (rplain h.settings) h.rnext r i;
      lnext = raised-one a.delta (lplain h.settings) h.lnext d i;
      snext = raised-one a.delta (splain h.settings) h.snext d i;
    }
