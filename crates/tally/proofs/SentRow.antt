-- The six numbers that a send changes are read and stored one by one: they are those of the definition. Assumes nothing.
use Rattle.std.proofs.Common.{◌≡◌, ℕ, ◌+◌, ◌*◌, ◌/◌, ◌%◌, ◌^◌, ◌<◌, max, Bool, true, false, not, if◌then◌else◌, List, set, get_or, ◌∙◌, refl, get_or-set_other, arith}
use Rattle.std.specs.Bool.{FalseIff}
use Rattle.std.specs.Int.{from_bool}
use Rattle.lists.specs.Stores.{stores}
use Rattle.rules.specs.declared.Phase.{Phase}
use Rattle.rules.specs.declared.Phase.TheVariants.{Reservation, Weight}
use Rattle.tally.specs.Columns.{LOWER, figure_at}
use Rattle.tally.specs.Notes.{sent_at, sent_for}

-- what is carried past 64 bits
pub carried : (b : Bool) (m n : ℕ) → m < 2 ^ 64 → n < 2 ^ 64 → FalseIff b (m + n < 2 ^ 64) → from_bool b ≡ (m + n) / 2 ^ 64
carried true m n h k f = omega (arith, h, k, f)
carried false m n h k f = omega (arith, f)

module _ (g wait : ℕ) (fg : List ℕ) where
  -- once the first of the six are stored
  abbrev one : ℕ → List ℕ
  one r = set fg (g * 8 + 2) (get_or fg (g * 8 + 2) 0 + r)

  abbrev two : ℕ → ℕ → List ℕ
  two r w = set (one r) (g * 8 + 3) (get_or fg (g * 8 + 3) 0 + w)

  abbrev three : ℕ → ℕ → ℕ → List ℕ
  three r w a = set (two r w) (g * 8 + 4) (get_or fg (g * 8 + 4) 0 + a)

  abbrev four : ℕ → ℕ → ℕ → ℕ → List ℕ
  four r w a u = set (three r w a) (g * 8 + 5) (get_or fg (g * 8 + 5) 0 + u)

  abbrev five : ℕ → ℕ → ℕ → ℕ → ℕ → List ℕ
  five r w a u l = set (four r w a u) (g * 8 + 6) l

  -- what is read of a number that is not stored yet
  read3 : (r : ℕ) → get_or (one r) (g * 8 + 3) 0 ≡ get_or fg (g * 8 + 3) 0
  read3 r = get_or-set_other fg (g * 8 + 2) (g * 8 + 3) _ 0 (λ e. omega (arith, e))

  read4 : (r w : ℕ) → get_or (two r w) (g * 8 + 4) 0 ≡ get_or fg (g * 8 + 4) 0
  read4 r w = get_or-set_other (one r) (g * 8 + 3) (g * 8 + 4) _ 0 (λ e. omega (arith, e)) ∙ get_or-set_other fg (g * 8 + 2) (g * 8 + 4) _ 0 (λ e. omega (arith, e))

  read5 : (r w a : ℕ) → get_or (three r w a) (g * 8 + 5) 0 ≡ get_or fg (g * 8 + 5) 0
  read5 r w a =
      get_or-set_other (two r w) (g * 8 + 4) (g * 8 + 5) _ 0 (λ e. omega (arith, e))
      ∙ get_or-set_other (one r) (g * 8 + 3) (g * 8 + 5) _ 0 (λ e. omega (arith, e)) ∙ get_or-set_other fg (g * 8 + 2) (g * 8 + 5) _ 0 (λ e. omega (arith, e))

  read7 : (r w a u l : ℕ) → get_or (five r w a u l) (g * 8 + 7) 0 ≡ get_or fg (g * 8 + 7) 0
  read7 r w a u l =
      get_or-set_other (four r w a u) (g * 8 + 6) (g * 8 + 7) _ 0 (λ e. omega (arith, e))
      ∙ get_or-set_other (three r w a) (g * 8 + 5) (g * 8 + 7) _ 0 (λ e. omega (arith, e))
      ∙ get_or-set_other (two r w) (g * 8 + 4) (g * 8 + 7) _ 0 (λ e. omega (arith, e))
      ∙ get_or-set_other (one r) (g * 8 + 3) (g * 8 + 7) _ 0 (λ e. omega (arith, e)) ∙ get_or-set_other fg (g * 8 + 2) (g * 8 + 7) _ 0 (λ e. omega (arith, e))

  -- each is read in the list as the one before left it
  pub sent_is : (r w a u l m : ℕ) (xs ys zs vs us : List ℕ)
      → xs ≡ one r → ys ≡ set xs (g * 8 + 3) (get_or xs (g * 8 + 3) 0 + w) → zs ≡ set ys (g * 8 + 4) (get_or ys (g * 8 + 4) 0 + a)
      → vs ≡ set zs (g * 8 + 5) (get_or zs (g * 8 + 5) 0 + u) → us ≡ set vs (g * 8 + 6) l → m ≡ max (get_or us (g * 8 + 7) 0) wait
      → u ≡ (figure_at fg g LOWER + wait) / 2 ^ 64 → l ≡ (figure_at fg g LOWER + wait) % 2 ^ 64 → set us (g * 8 + 7) m ≡ sent_at g r w a wait fg
  unfolding stores
  sent_is r w a u l m xs ys zs vs us x y z v q e k h =
      let y2 : ys ≡ two r w = y ∙ rw (x, read3 r) refl in
      let z2 : zs ≡ three r w a = z ∙ rw (y2, read4 r w) refl in
      let v2 : vs ≡ four r w a u = v ∙ rw (z2, read5 r w a) refl in
      let u2 : us ≡ five r w a u l = q ∙ rw v2 refl in
      rw (e, u2, read7 r w a u l, k, h) refl

flag : (b : Bool) → from_bool b ≡ if b then 1 else 0
flag true = refl
flag false = refl

-- what the flags of a send by reservation come to
pub reserved_is : (p : Phase) (g wait : ℕ) (fg : List ℕ) (ahead m f : Bool) (r w a : ℕ) → r ≡ from_bool m → w ≡ from_bool (not m) → a ≡ from_bool f → p ≡ Reservation → m ≡ true → f ≡ ahead
    → sent_at g r w a wait fg ≡ sent_for p g ahead wait fg
unfolding stores
reserved_is p g wait fg ahead m f r w a x y z e t k = rw (e, x, y, z, t, k, flag ahead) refl

-- and those of one by weight
pub weighed_is : (p : Phase) (g wait : ℕ) (fg : List ℕ) (ahead m f : Bool) (r w a : ℕ) → r ≡ from_bool m → w ≡ from_bool (not m) → a ≡ from_bool f → p ≡ Weight → m ≡ false → f ≡ false
    → sent_at g r w a wait fg ≡ sent_for p g ahead wait fg
unfolding stores
weighed_is p g wait fg ahead m f r w a x y z e t k = rw (e, x, y, z, t, k) refl
