-- One walk over the requests: what is left of the test of every guest still comes to the same. The gap of a guest that has a floor stands in the list.
use Prim.Native.Nat.{ℕ, ◌+◌, ◌*◌, ◌≤◌, ◌<◌}
use mathlib.Core.Path.{◌≡◌, sym, ap, subst, ◌∙◌}
use mathlib.Core.Bool.{Bool}
use mathlib.Core.List.{List}
use native.Mathlib.Omega.{arith}
use lib.ListN.{get_or, set}
use Rattle.rules.specs.Numbers.{ceiling, second, most_cost}
use Rattle.table.specs.Columns.{SHARES, GUEST, RTAG, COST, most_guests, waiting_at}
use Rattle.entries.specs.Kinds.{passes, gap_at, near_of, Gaps, Tested}
use Rattle.orders.proofs.GapLaws.{near-low, gaps_start, gaps_kept, gaps_next, gap-told}
use Rattle.orders.proofs.RowFacts.{guest-known, tag-low}
use Rattle.orders.proofs.OneKind.{Walked, walk_start, gap-fits, kind_fails, kind-next, kind-ends}
use Rattle.orders.proofs.is_kept.Goals as goal
use Rattle.orders.proofs.is_kept.Goals.{then-floor-eq0, else-floor-eq0}

pub loop-i-init : goal.loop-i-init
loop-i-init c =
    let a = c.args in
    let few = c.requires.0.few in
    (walk_start a.guests.now a.known a.waiting.now a.count a.kind few, gaps_start (gap_at a.guests.now a.kind) a.known few)

-- A TURN of the loop, at the row of one request
module _ (gs : List ℕ) (known : ℕ) (ws : List ℕ) (count kind : ℕ) (p : Tested gs known ws count × (kind ≤ SHARES)) (row : ℕ) (here : row < count) where
  -- its guest, its tag of the kind, and its cost times the guest's gap
  abbrev guest : ℕ
  guest = waiting_at ws row GUEST

  abbrev tag : ℕ
  tag = waiting_at ws row (RTAG + kind)

  abbrev far : ℕ
  far = waiting_at ws row COST * gap_at gs kind guest

  -- the guest exists,
  there : guest < known
  there = guest-known gs known ws count p.0 row here

  -- so the arrays have a place for it
  low : guest < most_guests
  low = omega (arith, there, p.0.few)

  -- and its tag fits
  tag_fits : tag ≤ ceiling
  tag_fits = tag-low gs known ws count p.0 kind row p.1 here

  module _ (lows floors gaps : List ℕ) (s : Walked gs known ws count kind lows floors row × Gaps (gap_at gs kind) known gaps floors) where
    -- what the request asks for fits
    far-fits : far ≤ most_cost * second
    far-fits = gap-fits gs known ws count p.0 kind p.1 lows floors row s.0 here

    -- whatever the next floor of the row's guest, the list has its gap: where the gap was read,
    took : (now : List ℕ) (x : ℕ) → now ≡ set gaps guest x → x ≡ gap_at gs kind guest → (v : ℕ) → Gaps (gap_at gs kind) known now (set floors guest v)
    took now x e h v = subst (λ (l : List ℕ). Gaps (gap_at gs kind) known l (set floors guest v)) (sym e) (gaps_next (gap_at gs kind) known gaps floors s.1 guest v p.0.few there x h)

    -- and where it stood there
    left : (now : List ℕ) → now ≡ gaps → (get_or floors guest 0 ≡ 0 → ⊥) → (v : ℕ) → Gaps (gap_at gs kind) known now (set floors guest v)
    left now e h v = subst (λ (l : List ℕ). Gaps (gap_at gs kind) known l (set floors guest v)) (sym e) (gaps_kept (gap_at gs kind) known gaps floors s.1 guest v p.0.few there h)

    module _ (now : List ℕ) (told : (v : ℕ) → Gaps (gap_at gs kind) known now (set floors guest v)) where
      -- so the gap that is read is the guest's
      gap_is : get_or now guest 0 ≡ gap_at gs kind guest
      gap_is = gap-told (gap_at gs kind) known now floors guest s.0.long p.0.few there told

      -- and what the request asks for, as the code computes it
      far-is : waiting_at ws row COST * get_or now guest 0 ≡ far
      far-is = ap (waiting_at ws row COST *◌) gap_is

      -- the test of the code, with the guest's gap
      same_test : (b : Bool) → b ≡ passes (get_or now guest 0) (get_or lows guest 0) tag → b ≡ passes (gap_at gs kind guest) (get_or lows guest 0) tag
      same_test b e = e ∙ ap (λ (d : ℕ). passes d (get_or lows guest 0) tag) gap_is

      -- what the next tag keeps of it
      near-is : (x : ℕ) → x ≡ near_of kind (waiting_at ws row COST * get_or now guest 0) → x ≡ near_of kind far
      near-is x e = e ∙ ap (near_of kind) far-is

pub offset_bounds-floors-g : goal.offset_bounds-floors-g
offset_bounds-floors-g c =
    omega (arith, low c.args.guests.now c.args.known c.args.waiting.now c.args.count c.args.kind c.requires c.loop-i.i c.loop-i-test.true)

pub bounds-floors-g : goal.bounds-floors-g
bounds-floors-g c =
    omega (arith, low c.args.guests.now c.args.known c.args.waiting.now c.args.count c.args.kind c.requires c.loop-i.i c.loop-i-test.true)

pub overflow_mul-g : goal.overflow_mul-g
overflow_mul-g c =
    omega (arith, low c.args.guests.now c.args.known c.args.waiting.now c.args.count c.args.kind c.requires c.loop-i.i c.loop-i-test.true)

pub overflow_add-g-then-floor-eq0 : goal.overflow_add-g-then-floor-eq0
overflow_add-g-then-floor-eq0 c =
    omega (arith, low c.args.guests.now c.args.known c.args.waiting.now c.args.count c.args.kind c.requires c.loop-i.i c.loop-i-test.true, c.requires.1)

pub offset_bounds-guests-g : goal.offset_bounds-guests-g
offset_bounds-guests-g c =
    omega (arith, low c.args.guests.now c.args.known c.args.waiting.now c.args.count c.args.kind c.requires c.loop-i.i c.loop-i-test.true, c.requires.1)

pub bounds-guests-g : goal.bounds-guests-g
bounds-guests-g c =
    omega (arith, there c.args.guests.now c.args.known c.args.waiting.now c.args.count c.args.kind c.requires c.loop-i.i c.loop-i-test.true, c.requires.0.guest_room, c.requires.1)

pub offset_bounds-gaps-g : goal.offset_bounds-gaps-g
offset_bounds-gaps-g c =
    omega (arith, low c.args.guests.now c.args.known c.args.waiting.now c.args.count c.args.kind c.requires c.loop-i.i c.loop-i-test.true)

pub bounds-gaps-g : goal.bounds-gaps-g
bounds-gaps-g c =
    omega (arith, low c.args.guests.now c.args.known c.args.waiting.now c.args.count c.args.kind c.requires c.loop-i.i c.loop-i-test.true, c.loop-i.invariant.1.long)

pub offset_bounds-gaps-g-in-loop-i : goal.offset_bounds-gaps-g-in-loop-i
offset_bounds-gaps-g-in-loop-i c =
    omega (arith, low c.args.guests.now c.args.known c.args.waiting.now c.args.count c.args.kind c.requires c.loop-i.i c.loop-i-test.true)

pub bounds-gaps-g-in-loop-i : goal.bounds-gaps-g-in-loop-i
bounds-gaps-g-in-loop-i c =
    let told : (v : ℕ) → Gaps (gap_at c.args.guests.now c.args.kind) c.args.known c.if-floor-eq0.gaps (set c.loop-i.floors (waiting_at c.args.waiting.now c.loop-i.i GUEST) v) = elim c.if-floor-eq0.branch [
      | then-floor-eq0 w ↦ took c.args.guests.now c.args.known c.args.waiting.now c.args.count c.args.kind c.requires c.loop-i.i c.loop-i-test.true c.loop-i.lows c.loop-i.floors c.loop-i.gaps c.loop-i.invariant _ _ w.gaps-is w.gap_of.ensures
      | else-floor-eq0 w ↦ left c.args.guests.now c.args.known c.args.waiting.now c.args.count c.args.kind c.requires c.loop-i.i c.loop-i-test.true c.loop-i.lows c.loop-i.floors c.loop-i.gaps c.loop-i.invariant _ w.gaps-is w.if-floor-eq0.false
    ] in
    omega (arith, low c.args.guests.now c.args.known c.args.waiting.now c.args.count c.args.kind c.requires c.loop-i.i c.loop-i-test.true, (told 0).long)

pub offset_bounds-lows-g : goal.offset_bounds-lows-g
offset_bounds-lows-g c =
    omega (arith, low c.args.guests.now c.args.known c.args.waiting.now c.args.count c.args.kind c.requires c.loop-i.i c.loop-i-test.true)

pub bounds-lows-g : goal.bounds-lows-g
bounds-lows-g c =
    omega (arith, low c.args.guests.now c.args.known c.args.waiting.now c.args.count c.args.kind c.requires c.loop-i.i c.loop-i-test.true, c.loop-i.invariant.0.low_long)

pub returns-then-not-is_passed : goal.returns-then-not-is_passed
returns-then-not-is_passed c =
    let told : (v : ℕ) → Gaps (gap_at c.args.guests.now c.args.kind) c.args.known c.if-floor-eq0.gaps (set c.loop-i.floors (waiting_at c.args.waiting.now c.loop-i.i GUEST) v) = elim c.if-floor-eq0.branch [
      | then-floor-eq0 w ↦ took c.args.guests.now c.args.known c.args.waiting.now c.args.count c.args.kind c.requires c.loop-i.i c.loop-i-test.true c.loop-i.lows c.loop-i.floors c.loop-i.gaps c.loop-i.invariant _ _ w.gaps-is w.gap_of.ensures
      | else-floor-eq0 w ↦ left c.args.guests.now c.args.known c.args.waiting.now c.args.count c.args.kind c.requires c.loop-i.i c.loop-i-test.true c.loop-i.lows c.loop-i.floors c.loop-i.gaps c.loop-i.invariant _ w.gaps-is w.if-floor-eq0.false
    ] in
    sym (kind_fails c.args.guests.now c.args.known c.args.waiting.now c.args.count c.requires.0 c.args.kind c.requires.1 c.loop-i.lows c.loop-i.floors c.loop-i.i c.loop-i.invariant.0 c.loop-i-test.true (sym (same_test c.args.guests.now c.args.known c.args.waiting.now c.args.count c.args.kind c.requires c.loop-i.i c.loop-i-test.true c.loop-i.lows c.loop-i.floors c.loop-i.gaps c.loop-i.invariant c.if-floor-eq0.gaps told _ c.is_passed.ensures) ∙ c.if-not-is_passed.true))

pub overflow_mul-distance : goal.overflow_mul-distance
overflow_mul-distance c =
    let told : (v : ℕ) → Gaps (gap_at c.args.guests.now c.args.kind) c.args.known c.if-floor-eq0.gaps (set c.loop-i.floors (waiting_at c.args.waiting.now c.loop-i.i GUEST) v) = elim c.if-floor-eq0.branch [
      | then-floor-eq0 w ↦ took c.args.guests.now c.args.known c.args.waiting.now c.args.count c.args.kind c.requires c.loop-i.i c.loop-i-test.true c.loop-i.lows c.loop-i.floors c.loop-i.gaps c.loop-i.invariant _ _ w.gaps-is w.gap_of.ensures
      | else-floor-eq0 w ↦ left c.args.guests.now c.args.known c.args.waiting.now c.args.count c.args.kind c.requires c.loop-i.i c.loop-i-test.true c.loop-i.lows c.loop-i.floors c.loop-i.gaps c.loop-i.invariant _ w.gaps-is w.if-floor-eq0.false
    ] in
    omega (arith, far-is c.args.guests.now c.args.known c.args.waiting.now c.args.count c.args.kind c.requires c.loop-i.i c.loop-i-test.true c.loop-i.lows c.loop-i.floors c.loop-i.gaps c.loop-i.invariant c.if-floor-eq0.gaps told, far-fits c.args.guests.now c.args.known c.args.waiting.now c.args.count c.args.kind c.requires c.loop-i.i c.loop-i-test.true c.loop-i.lows c.loop-i.floors c.loop-i.gaps c.loop-i.invariant)

pub overflow_add-floors : goal.overflow_add-floors
overflow_add-floors c =
    let told : (v : ℕ) → Gaps (gap_at c.args.guests.now c.args.kind) c.args.known c.if-floor-eq0.gaps (set c.loop-i.floors (waiting_at c.args.waiting.now c.loop-i.i GUEST) v) = elim c.if-floor-eq0.branch [
      | then-floor-eq0 w ↦ took c.args.guests.now c.args.known c.args.waiting.now c.args.count c.args.kind c.requires c.loop-i.i c.loop-i-test.true c.loop-i.lows c.loop-i.floors c.loop-i.gaps c.loop-i.invariant _ _ w.gaps-is w.gap_of.ensures
      | else-floor-eq0 w ↦ left c.args.guests.now c.args.known c.args.waiting.now c.args.count c.args.kind c.requires c.loop-i.i c.loop-i-test.true c.loop-i.lows c.loop-i.floors c.loop-i.gaps c.loop-i.invariant _ w.gaps-is w.if-floor-eq0.false
    ] in
    omega (arith, far-is c.args.guests.now c.args.known c.args.waiting.now c.args.count c.args.kind c.requires c.loop-i.i c.loop-i-test.true c.loop-i.lows c.loop-i.floors c.loop-i.gaps c.loop-i.invariant c.if-floor-eq0.gaps told, far-fits c.args.guests.now c.args.known c.args.waiting.now c.args.count c.args.kind c.requires c.loop-i.i c.loop-i-test.true c.loop-i.lows c.loop-i.floors c.loop-i.gaps c.loop-i.invariant, tag_fits c.args.guests.now c.args.known c.args.waiting.now c.args.count c.args.kind c.requires c.loop-i.i c.loop-i-test.true)

pub offset_bounds-floors-g-in-loop-i : goal.offset_bounds-floors-g-in-loop-i
offset_bounds-floors-g-in-loop-i c =
    omega (arith, low c.args.guests.now c.args.known c.args.waiting.now c.args.count c.args.kind c.requires c.loop-i.i c.loop-i-test.true)

pub bounds-floors-g-in-loop-i : goal.bounds-floors-g-in-loop-i
bounds-floors-g-in-loop-i c =
    omega (arith, low c.args.guests.now c.args.known c.args.waiting.now c.args.count c.args.kind c.requires c.loop-i.i c.loop-i-test.true, c.loop-i.invariant.0.long)

pub overflow_add-lows : goal.overflow_add-lows
overflow_add-lows c =
    let told : (v : ℕ) → Gaps (gap_at c.args.guests.now c.args.kind) c.args.known c.if-floor-eq0.gaps (set c.loop-i.floors (waiting_at c.args.waiting.now c.loop-i.i GUEST) v) = elim c.if-floor-eq0.branch [
      | then-floor-eq0 w ↦ took c.args.guests.now c.args.known c.args.waiting.now c.args.count c.args.kind c.requires c.loop-i.i c.loop-i-test.true c.loop-i.lows c.loop-i.floors c.loop-i.gaps c.loop-i.invariant _ _ w.gaps-is w.gap_of.ensures
      | else-floor-eq0 w ↦ left c.args.guests.now c.args.known c.args.waiting.now c.args.count c.args.kind c.requires c.loop-i.i c.loop-i-test.true c.loop-i.lows c.loop-i.floors c.loop-i.gaps c.loop-i.invariant _ w.gaps-is w.if-floor-eq0.false
    ] in
    omega (arith, near-is c.args.guests.now c.args.known c.args.waiting.now c.args.count c.args.kind c.requires c.loop-i.i c.loop-i-test.true c.loop-i.lows c.loop-i.floors c.loop-i.gaps c.loop-i.invariant c.if-floor-eq0.gaps told _ c.near_of.ensures, near-low c.args.kind (far c.args.guests.now c.args.known c.args.waiting.now c.args.count c.args.kind c.requires c.loop-i.i c.loop-i-test.true), far-fits c.args.guests.now c.args.known c.args.waiting.now c.args.count c.args.kind c.requires c.loop-i.i c.loop-i-test.true c.loop-i.lows c.loop-i.floors c.loop-i.gaps c.loop-i.invariant, tag_fits c.args.guests.now c.args.known c.args.waiting.now c.args.count c.args.kind c.requires c.loop-i.i c.loop-i-test.true)

pub offset_bounds-lows-g-in-loop-i : goal.offset_bounds-lows-g-in-loop-i
offset_bounds-lows-g-in-loop-i c =
    omega (arith, low c.args.guests.now c.args.known c.args.waiting.now c.args.count c.args.kind c.requires c.loop-i.i c.loop-i-test.true)

pub bounds-lows-g-in-loop-i : goal.bounds-lows-g-in-loop-i
bounds-lows-g-in-loop-i c =
    omega (arith, low c.args.guests.now c.args.known c.args.waiting.now c.args.count c.args.kind c.requires c.loop-i.i c.loop-i-test.true, c.loop-i.invariant.0.low_long)

pub loop-i-preserved : goal.loop-i-preserved
loop-i-preserved c =
    let told : (v : ℕ) → Gaps (gap_at c.args.guests.now c.args.kind) c.args.known c.if-floor-eq0.gaps (set c.loop-i.floors (waiting_at c.args.waiting.now c.loop-i.i GUEST) v) = elim c.if-floor-eq0.branch [
      | then-floor-eq0 w ↦ took c.args.guests.now c.args.known c.args.waiting.now c.args.count c.args.kind c.requires c.loop-i.i c.loop-i-test.true c.loop-i.lows c.loop-i.floors c.loop-i.gaps c.loop-i.invariant _ _ w.gaps-is w.gap_of.ensures
      | else-floor-eq0 w ↦ left c.args.guests.now c.args.known c.args.waiting.now c.args.count c.args.kind c.requires c.loop-i.i c.loop-i-test.true c.loop-i.lows c.loop-i.floors c.loop-i.gaps c.loop-i.invariant _ w.gaps-is w.if-floor-eq0.false
    ] in (
      kind-next c.args.guests.now c.args.known c.args.waiting.now c.args.count c.requires.0 c.args.kind c.requires.1 c.loop-i.lows c.loop-i.floors c.loop-i.i c.loop-i.invariant.0 c.loop-i-test.true _ _ (sym (same_test c.args.guests.now c.args.known c.args.waiting.now c.args.count c.args.kind c.requires c.loop-i.i c.loop-i-test.true c.loop-i.lows c.loop-i.floors c.loop-i.gaps c.loop-i.invariant c.if-floor-eq0.gaps told _ c.is_passed.ensures) ∙ c.if-not-is_passed.false)
          (ap (tag c.args.guests.now c.args.known c.args.waiting.now c.args.count c.args.kind c.requires c.loop-i.i c.loop-i-test.true +◌) (near-is c.args.guests.now c.args.known c.args.waiting.now c.args.count c.args.kind c.requires c.loop-i.i c.loop-i-test.true c.loop-i.lows c.loop-i.floors c.loop-i.gaps c.loop-i.invariant c.if-floor-eq0.gaps told _ c.near_of.ensures)) (ap (tag c.args.guests.now c.args.known c.args.waiting.now c.args.count c.args.kind c.requires c.loop-i.i c.loop-i-test.true +◌) (far-is c.args.guests.now c.args.known c.args.waiting.now c.args.count c.args.kind c.requires c.loop-i.i c.loop-i-test.true c.loop-i.lows c.loop-i.floors c.loop-i.gaps c.loop-i.invariant c.if-floor-eq0.gaps told)),
      told _,
    )

pub all_end-requires : goal.all_end-requires
all_end-requires c =
    let p = c.requires in
    (p.0.few, p.0.guest_room, p.1)

pub returns : goal.returns
returns c =
    let s = c.loop-i in
    let a = c.args in
    c.all_end.ensures ∙ kind-ends a.guests.now a.known a.waiting.now a.count c.requires.0 a.kind c.requires.1 s.lows s.floors s.i s.invariant.0 c.loop-i-test.false
