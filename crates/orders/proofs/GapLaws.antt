-- The gaps between tags of one kind: none too large, 0 just where the guest lacks the kind, and those of the guests with something waiting in a list. Assumes nothing.
use Prim.Native.Nat.{ℕ, ◌≤◌, ◌<◌}
use mathlib.Core.Path.{◌≡◌, refl, sym, ap, ◌∙◌}
use mathlib.Core.Bool.{Bool, true, false}
use mathlib.Core.List.{List}
use native.Mathlib.Omega.{arith}
use lib.Dec.{eqb}
use lib.ListN.{length, get_or, set, replicate, length-set, length-replicate, get_or-replicate}
use lib.Seq.{get_or-set_same, get_or-set_other}
use borrow.Author.Tests.{eqb-true, eqb-false, ne_eqb, le-ltb}
use Rattle.lists.specs.Words.{if◌then◌else◌}
use Rattle.rules.specs.Numbers.{second, down, up}
use Rattle.rules.proofs.Spacings.{down_le, up_le, no_down, no_up, down-some, up-some}
use Rattle.table.specs.Columns.{most_guests}
use Rattle.entries.specs.Kinds.{gap_of, near_of, Gaps}

-- no gap is above a second
pub gap-low : (kind n : ℕ) → gap_of kind n ≤ second
gap-low kind n = elim (eqb kind 1) as (λ b. (if b then up n else down n) ≤ second) [ true ↦ up_le n | false ↦ down_le n ]

-- the next tag keeps no more of a distance than there is
pub near-low : (kind x : ℕ) → near_of kind x ≤ x
near-low kind x = elim (eqb kind 0) as (λ b. (if b then 0 else x) ≤ x) [ true ↦ omega arith | false ↦ omega arith ]

-- a gap is 0 just where the setting is
pub gap-none : (kind n : ℕ) → n ≤ 1000000 → eqb (gap_of kind n) 0 ≡ eqb n 0
gap-none kind n l = go (eqb n 0) refl (eqb kind 1)
  where
    some : (d : ℕ) → 0 < d → eqb n 0 ≡ false → eqb d 0 ≡ eqb n 0
    some d h e = ne_eqb d 0 (λ (z : d ≡ 0). omega (arith, z, h)) ∙ sym e

    go : (b : Bool) → eqb n 0 ≡ b → (c : Bool) → eqb (if c then up n else down n) 0 ≡ eqb n 0
    go true e true = ap (λ (m : ℕ). eqb m 0) (no_up n (le-ltb 0 n (omega (arith, eqb-true n 0 e)))) ∙ sym e
    go true e false = ap (λ (m : ℕ). eqb m 0) (no_down n (le-ltb 0 n (omega (arith, eqb-true n 0 e)))) ∙ sym e
    go false e true = some (up n) (up-some n (omega (arith, eqb-false n 0 e))) e
    go false e false = some (down n) (down-some n (omega (arith, eqb-false n 0 e)) l) e

-- before the first request no guest has a floor
pub gaps_start : (gap : ℕ → ℕ) (known : ℕ) → known ≤ most_guests → Gaps gap known (replicate most_guests 0) (replicate most_guests 0)
gaps_start gap known few =
    record { long = length-replicate {A = ℕ} most_guests 0; same = λ g h d. absurd (d (get_or-replicate {A = ℕ} most_guests g 0 0 (omega (arith, h, few)))) }

module _ (gap : ℕ → ℕ) (known : ℕ) (gaps floors : List ℕ) (s : Gaps gap known gaps floors) (g v : ℕ) (few : known ≤ most_guests) (low : g < known) where
  -- a guest with a floor gets another
  pub gaps_kept : (get_or floors g 0 ≡ 0 → ⊥) → Gaps gap known gaps (set floors g v)
  gaps_kept d = record { long = s.long; same = λ h k e. go h k e (eqb h g) refl }
    where
      go : (h : ℕ) → h < known → (get_or (set floors g v) h 0 ≡ 0 → ⊥) → (b : Bool) → eqb h g ≡ b → get_or gaps h 0 ≡ gap h
      go h k e true f = rw (eqb-true h g f) (s.same g low d)
      go h k e false f = s.same h k (λ z. e (get_or-set_other floors g h v 0 (eqb-false h g f) ∙ z))

  -- a guest gets its gap and a floor
  pub gaps_next : (x : ℕ) → x ≡ gap g → Gaps gap known (set gaps g x) (set floors g v)
  gaps_next x e = record { long = length-set gaps g x ∙ s.long; same = λ h k d. go h k d (eqb h g) refl }
    where
      go : (h : ℕ) → h < known → (get_or (set floors g v) h 0 ≡ 0 → ⊥) → (b : Bool) → eqb h g ≡ b → get_or (set gaps g x) h 0 ≡ gap h
      go h k d true f = rw (eqb-true h g f) (get_or-set_same gaps g x 0 (omega (arith, low, few, s.long)) ∙ e)
      go h k d false f = get_or-set_other gaps g h x 0 (eqb-false h g f) ∙ s.same h k (λ z. d (get_or-set_other floors g h v 0 (eqb-false h g f) ∙ z))

-- where a floor of any size may stand, the gap does
pub gap-told : (gap : ℕ → ℕ) (known : ℕ) (gaps floors : List ℕ) (g : ℕ) → length floors ≡ most_guests → known ≤ most_guests → g < known → ((v : ℕ) → Gaps gap known gaps (set floors g v)) → get_or gaps g 0 ≡ gap g
gap-told gap known gaps floors g long few low s =
    (s 1).same g low (λ z. let one : get_or (set floors g 1) g 0 ≡ 1 = get_or-set_same floors g 1 0 (omega (arith, long, few, low)) in omega (arith, z, one))
