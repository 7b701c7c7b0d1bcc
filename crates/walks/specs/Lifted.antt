-- A tag that does not count is lifted past every bound by a bit that is joined to it. Assumes nothing.
use Rattle.std.specs.Prelude.{ℕ, ◌+◌, ◌*◌, ◌/◌, ◌%◌, ◌^◌, ◌≤◌, ◌<◌, ◌≡◌, refl, Bool, true, false, ◌&&◌, eqb, ltb, leb, if◌then◌else◌}
use Rattle.std.proofs.Common.{◌∙◌, arith, eqb-true, ltb-true, ltb-false, lt-ltb, le-ltb, le-leb}
use Rattle.std.specs.Int.Bits.{bit_or, bit_and, or_zero_r, or_add_and}
use Rattle.std.proofs.lemmas.Nat.{or_lt, and_le_l, and_le_r}
use Rattle.std.proofs.lemmas.Nat.Bits.{and_high}
use Rattle.std.proofs.lemmas.Bool.{eqb-false, lt-leb}
use Rattle.rules.specs.Numbers.{ceiling}
use Rattle.walks.specs.Walks.{Counts}

-- what is joined to a number makes it no smaller than itself
pub or_above : (a b : ℕ) → b ≤ bit_or a b
or_above a b = omega (arith, or_add_and a b, and_le_l a b)

-- and no smaller than the other
or_both : (a b : ℕ) → a ≤ bit_or a b
or_both a b = omega (arith, or_add_and a b, and_le_r a b)

-- the bit of a tag that is past a limit: the tag has it, or what is left of the limit, wrapped, has it
pub after_bit : (limit tag w : ℕ) → limit ≤ ceiling → tag < 2 ^ 64 → w < 2 ^ 64 → (w + tag) % 2 ^ 64 ≡ limit → bit_and (bit_or tag w) 9223372036854775808 ≡ (if ltb limit tag then 9223372036854775808 else 0)
after_bit limit tag w low fits wide wraps = and_high (bit_or tag w) 1 63 ∙ go (ltb limit tag) refl
  where
    go : (b : Bool) → ltb limit tag ≡ b → (bit_or tag w / 2 ^ 63 % 2 ^ 1) * 2 ^ 63 ≡ (if b then 9223372036854775808 else 0)
    go true e = omega (arith, low, fits, wide, wraps, ltb-true limit tag e, or_lt 64 tag w fits wide, or_above tag w, or_both tag w)
    go false e = omega (arith, low, fits, wide, wraps, ltb-false limit tag e, or_lt 63 tag w (omega (arith, low, ltb-false limit tag e)) (omega (arith, low, fits, wide, wraps, ltb-false limit tag e)))

-- a tag that a test lifts by a bit past the ceiling
pub open_lifted : (tag ltag time bit : ℕ) {x : ℕ} → x ≡ (if ltb time ltag then bit else 0) → ceiling < bit → Counts (leb ltag time) tag (bit_or tag x)
open_lifted tag ltag time bit {x} e h = go (ltb time ltag) refl e
  where
    go : (b : Bool) → ltb time ltag ≡ b → x ≡ (if b then bit else 0) → Counts (leb ltag time) tag (bit_or tag x)
    go true f q = rw (lt-leb ltag time (ltb-true time ltag f)) (omega (arith, h, q, or_above tag x))
    go false f q = rw (le-leb ltag time (ltb-false time ltag f), q) (or_zero_r tag)

-- one that either of two tests lifts
pub due_lifted : (reservation tag ltag latest bit : ℕ) {x y : ℕ} → x ≡ (if eqb reservation 0 then bit else 0) → y ≡ (if ltb latest ltag then bit else 0) → ceiling < bit
    → Counts (ltb 0 reservation && leb ltag latest) tag (bit_or tag (bit_or x y))
due_lifted reservation tag ltag latest bit {x} {y} e f h = go (eqb reservation 0) refl (ltb latest ltag) refl e f
  where
    go : (b : Bool) → eqb reservation 0 ≡ b → (c : Bool) → ltb latest ltag ≡ c → x ≡ (if b then bit else 0) → y ≡ (if c then bit else 0)
        → Counts (ltb 0 reservation && leb ltag latest) tag (bit_or tag (bit_or x y))
    go true p c q i j = rw (le-ltb 0 reservation (omega (arith, eqb-true reservation 0 p))) (omega (arith, h, i, or_both x y, or_above tag (bit_or x y)))
    go false p true q i j =
        rw (lt-ltb 0 reservation (omega (arith, eqb-false reservation 0 p)), lt-leb ltag latest (ltb-true latest ltag q)) (omega (arith, h, j, or_above x y, or_above tag (bit_or x y)))
    go false p false q i j =
        rw (lt-ltb 0 reservation (omega (arith, eqb-false reservation 0 p)), le-leb ltag latest (ltb-false latest ltag q), i, j) (or_zero_r tag)
