-- The pass that lowers the reservation tags of a guest: what one turn reads and leaves, what follows the last of them, and that nothing drops without a
-- reservation.
-- Assumes nothing.
use Rattle.std.specs.Prelude.{ℕ, zero, suc, ◌+◌, ◌-◌, ◌*◌, ◌≤◌, ◌<◌, ◌≡◌, refl, Bool, true, false, List, eqb, set}
use Rattle.std.proofs.Common.{sym, ap, ◌∙◌, arith, mul-zero, add-one, eqb-true}
use Rattle.std.proofs.lemmas.List.{set-get_or}
use Rattle.lists.specs.Stores.{stores, stores_other, stores-next}
use Rattle.lists.specs.Lines.{whether}
use Rattle.rules.specs.Numbers.{ceiling, most_cost, down}
use Rattle.table.specs.Columns.{RESERVATION, RNEXT, guest_wide, GUEST, COST, RTAG, waiting_wide, guest_at, waiting_at}
use Rattle.drops.specs.declared.Fall.{Fall}
use Rattle.drops.specs.Fall.{Falls}
use Rattle.moves.specs.Moves.{fall_of, next_dropped, tag_dropped, tags_dropped, last_past, Unreserved}

-- w is xs after i turns
module _ (g d : ℕ) (xs w : List ℕ) (i : ℕ) (e : w ≡ tags_dropped g d xs i) where
  -- row i is as it was
  pub read : (j : ℕ) → waiting_at w i j ≡ waiting_at xs i j
  read j = ap (λ (ws : List ℕ). waiting_at ws i j) e ∙ stores_other (λ k. k * waiting_wide + RTAG) (tag_dropped g d xs) xs i (i * waiting_wide + j) (λ k m f. omega arith)

  -- so what follows it does not wrap
  pub past_fits : (waiting_at xs i RTAG ≤ ceiling) × (waiting_at xs i COST ≤ most_cost) → (q : ℕ) → q ≡ tag_dropped g d w i → (q ≤ ceiling) × (waiting_at w i COST ≤ most_cost)
  past_fits h q f =
      let was : q ≡ tag_dropped g d xs i = f ∙ rw (read GUEST, read RTAG) in
      let low : tag_dropped g d xs i ≤ waiting_at xs i RTAG = go (eqb (waiting_at xs i GUEST) g) in
      (omega (arith, h.0), omega (arith, h.1, read COST))
    where
      go : (b : Bool) → whether b (waiting_at xs i RTAG - d) (waiting_at xs i RTAG) ≤ waiting_at xs i RTAG
      go true = omega arith
      go false = omega arith

  -- and the store of turn i makes one turn more
  pub lower-next : (q : ℕ) → q ≡ tag_dropped g d w i → set w (i * waiting_wide + RTAG) q ≡ tags_dropped g d xs (i + 1)
  lower-next q f =
      stores-next (λ k. k * waiting_wide + RTAG) (tag_dropped g d xs) xs w i (i * waiting_wide + RTAG) q e refl
      (f ∙ rw (read GUEST, read RTAG))

  -- and what follows the last is one turn further too
  pub past_next : (s next n q : ℕ) → q ≡ tag_dropped g d w i → n ≡ whether (eqb (waiting_at w i GUEST) g) (q + waiting_at w i COST * s) (last_past g d s next xs i)
      → n ≡ last_past g d s next xs (i + 1)
  past_next s next n q f h =
      let was : q ≡ tag_dropped g d xs i = f ∙ rw (read GUEST, read RTAG) in
      h ∙ rw (add-one i, read GUEST, read COST) (go (eqb (waiting_at xs i GUEST) g) was)
    where
      go : (b : Bool) → q ≡ whether b (waiting_at xs i RTAG - d) (waiting_at xs i RTAG)
          → whether b (q + waiting_at xs i COST * s) (last_past g d s next xs i) ≡ whether b (waiting_at xs i RTAG - d + waiting_at xs i COST * s) (last_past g d s next xs i)
      go true e = ap (λ (x : ℕ). x + waiting_at xs i COST * s) e
      go false e = refl

-- a tag dropped by nothing
same_tag : (b : Bool) (x : ℕ) → whether b (x - 0) x ≡ x
same_tag true x = omega arith
same_tag false x = refl

-- dropped by nothing, every tag is as it was
same-tags : (g : ℕ) (ws : List ℕ) (n : ℕ) → ws ≡ tags_dropped g 0 ws n
unfolding stores
same-tags g ws zero = refl
same-tags g ws (suc n) =
    sym
    (ap (λ (vs : List ℕ). set vs (n * waiting_wide + RTAG) (tag_dropped g 0 ws n)) (sym (same-tags g ws n))
    ∙ ap (set ws (n * waiting_wide + RTAG)) (same_tag (eqb (waiting_at ws n GUEST) g) (waiting_at ws n RTAG))
    ∙ set-get_or ws (n * waiting_wide + RTAG) 0)

-- without a reservation nothing drops
module _ (g c : ℕ) (gs : List ℕ) (none : guest_at gs g RESERVATION ≡ 0) where
  -- its spacing is 0, and so is any number of them
  no_spacing : down (guest_at gs g RESERVATION) ≡ 0
  unfolding down
  no_spacing = rw none

  -- a guest without a reservation has no fall
  nothing : fall_of g c gs ≡ 0
  nothing = ap (c *◌) no_spacing ∙ mul-zero c

  -- what follows is 0, for tags that are 0
  past_none : (ws : List ℕ) (n : ℕ) → ((k : ℕ) → k < n → waiting_at ws k GUEST ≡ g → waiting_at ws k RTAG ≡ 0) → last_past g 0 0 0 ws n ≡ 0
  past_none ws zero h = refl
  past_none ws (suc n) h = go (eqb (waiting_at ws n GUEST) g) refl (past_none ws n (λ k l. h k (omega arith)))
    where
      go : (b : Bool) → eqb (waiting_at ws n GUEST) g ≡ b → last_past g 0 0 0 ws n ≡ 0
          → whether b (waiting_at ws n RTAG - 0 + waiting_at ws n COST * 0) (last_past g 0 0 0 ws n) ≡ 0
      go true e i = omega (arith, h n (omega arith) (eqb-true (waiting_at ws n GUEST) g e), mul-zero (waiting_at ws n COST))
      go false e i = i

  -- so its next number is as it was
  pub no_next-dropped : (ws : List ℕ) (n : ℕ) → Unreserved g n gs ws → gs ≡ next_dropped g c n ws gs
  no_next-dropped ws n zeros =
      let z = zeros none in
      let is : last_past g (fall_of g c gs) (down (guest_at gs g RESERVATION)) (guest_at gs g RNEXT - fall_of g c gs) ws n ≡ guest_at gs g RNEXT =
      ap (λ (d : ℕ). last_past g d (down (guest_at gs g RESERVATION)) (guest_at gs g RNEXT - d) ws n) nothing
      ∙ ap (λ (s : ℕ). last_past g 0 s (guest_at gs g RNEXT - 0) ws n) no_spacing
      ∙ ap (λ (m : ℕ). last_past g 0 0 m ws n) (omega (arith, z.0))
      ∙ past_none ws n z.1 ∙ sym z.0
      in
      sym (ap (set gs (g * guest_wide + RNEXT)) is ∙ set-get_or gs (g * guest_wide + RNEXT) 0)

  -- and so are the tags
  pub no_tags-dropped : (ws : List ℕ) (n : ℕ) → ws ≡ tags_dropped g (fall_of g c gs) ws n
  no_tags-dropped ws n = same-tags g ws n ∙ ap (λ (d : ℕ). tags_dropped g d ws n) (sym nothing)

-- by the numbers of the code, s the spacing, m the next number dropped alike and r what follows the last tag, the tables are those of the drop
pub dropped_is : (g c n : ℕ) (gs ws : List ℕ) {w : List ℕ} {s m r : ℕ} → s ≡ down (guest_at gs g RESERVATION) → m ≡ guest_at gs g RNEXT - c * s
    → w ≡ tags_dropped g (c * s) ws n → r ≡ last_past g (c * s) s m ws n → (set gs (g * guest_wide + RNEXT) r ≡ next_dropped g c n ws gs) × (w ≡ tags_dropped g (fall_of g c gs) ws n)
dropped_is g c n gs ws {w} {s} {m} {r} e f h l = (
  ap (set gs (g * guest_wide + RNEXT))
      (l ∙ ap (λ (x : ℕ). last_past g (c * s) s x ws n) f ∙ ap (λ (x : ℕ). last_past g (c * x) x (guest_at gs g RNEXT - c * x) ws n) e),
  h ∙ ap (λ (x : ℕ). tags_dropped g (c * x) ws n) e,
)

-- the same by the fall of the guest
pub fallen_is : (g c n : ℕ) (gs ws : List ℕ) {w : List ℕ} {r : ℕ} {f : Fall} → Falls g c gs f
    → w ≡ tags_dropped g f.by ws n → r ≡ last_past g f.by f.spacing f.next ws n → (set gs (g * guest_wide + RNEXT) r ≡ next_dropped g c n ws gs) × (w ≡ tags_dropped g (fall_of g c gs) ws n)
fallen_is g c n gs ws {f = f} h e l =
    dropped_is g c n gs ws h.spacing (h.next ∙ ap (λ (x : ℕ). guest_at gs g RNEXT - x) h.by)
    (e ∙ ap (λ (x : ℕ). tags_dropped g x ws n) h.by) (l ∙ ap (λ (x : ℕ). last_past g x f.spacing f.next ws n) h.by)
