-- The walk over the requests decides the order of one kind of every guest. Assumes nothing.
use Prim.Native.Nat.{ℕ, zero, suc, ◌+◌, ◌*◌, ◌≤◌, ◌<◌}
use mathlib.Core.Path.{◌≡◌, refl, sym, ap, ◌∙◌, subst}
use mathlib.Core.Bool.{Bool, true, false, ◌&&◌, true≢false}
use mathlib.Core.List.{List, []}
use native.Mathlib.Omega.{arith}
use lib.Dec.{ltb, leb, eqb}
use lib.ListN.{length, get_or, set, replicate}
use borrow.Author.Tests.{ltb-true}
use Rattle.lists.specs.Words.{if◌then◌else◌, all, below}
use Rattle.lists.specs.WordsLaws.{both_all, all_filter}
use Rattle.lists.specs.Walks.{below_ext, below_fails, below-three}
use Rattle.lists.specs.RowsLaws.{row-at, length-rows}
use Rattle.rules.specs.Numbers.{second, most_cost, idle_bound, down, up}
use Rattle.rules.specs.Tables.{Request, owner, of, mine}
use Rattle.rules.specs.declared.Guest.{Guest}
use Rattle.rules.specs.Sound.{lawful, priced, kept, orderly}
use Rattle.rules.proofs.Spacings.{no_down, no_up, cost_le, down-some, up-some}
use Rattle.table.specs.Columns.{RESERVATION, LIMIT, SHARES, GUEST, COST, RTAG, most_guests, guest_at, waiting_at}
use Rattle.table.specs.View.{guest_form, request_form, guests_of, waiting_of}
use Rattle.entries.specs.Kinds.{passes, ends, gap_of, near_of, gap_at, next_at, ends_at, kept_of, kept_all, Tested}
use Rattle.orders.proofs.Chains.{gap, run, run_has, run-lacks}
use Rattle.orders.proofs.Floors.{whole, Floors, floors_start, floors_fail, floors_next, floors_end}
use Rattle.orders.proofs.GapLaws.{gap-low, gap-none}
use Rattle.orders.proofs.RowFacts.{tag_of, tag_is, owner_is, cost_is, in_range, guest-known, setting_low, cost_low}

-- the order of every guest is that of each kind
pub orderly_kinds : (gs : List ℕ) (known : ℕ) (ws : List ℕ) (count : ℕ) → (below known (kept_all gs known ws count RESERVATION) && below known (kept_all gs known ws count LIMIT) && below known (kept_all gs known ws count SHARES)) ≡ below known (λ g. orderly (owner (guests_of gs known) g) (mine g (waiting_of ws count)))
unfolding orderly
orderly_kinds gs known ws count = below-three (kept_all gs known ws count RESERVATION) (kept_all gs known ws count LIMIT) (kept_all gs known ws count SHARES) known

-- a guest has a kind where its gap is not 0
has_is : (tag : Request → ℕ) (near : ℕ → ℕ) (has : Bool) (d n : ℕ) (l : List Request) → all priced l ≡ true → (has ≡ true → 0 < d) → (has ≡ false → d ≡ 0)
    → kept has tag (λ q. near (gap d q)) (gap d) l n ≡ run tag near d 0 0 l n
has_is tag near true d n l f p z = sym (run_has tag near d l n (p refl) f)
has_is tag near false d n l f p z = sym (run-lacks tag near (λ q. near (gap d q)) (gap d) l n) ∙ ap (λ (x : ℕ). run tag near x 0 0 l n) (sym (z refl))

-- where the walk over the requests of every guest stands before request i
abbrev pub Walked : (gs : List ℕ) (known : ℕ) (ws : List ℕ) (count kind : ℕ) (lows floors : List ℕ) (i : ℕ) → Type 0
Walked gs known ws count kind lows floors i = Floors (tag_of kind) (near_of kind) (waiting_of ws count) (gap_at gs kind) (next_at gs kind) known lows floors i

-- before the first request
pub walk_start : (gs : List ℕ) (known : ℕ) (ws : List ℕ) (count kind : ℕ) → known ≤ most_guests → Walked gs known ws count kind (replicate most_guests 0) (replicate most_guests 0) 0
walk_start gs known ws count kind few = floors_start (tag_of kind) (near_of kind) (waiting_of ws count) (gap_at gs kind) (next_at gs kind) known few

module _ (gs : List ℕ) (known : ℕ) (ws : List ℕ) (count : ℕ) (t : Tested gs known ws count) where
  -- the order of a guest's tags of a kind is the walk over them
  kept_is : (kind g : ℕ) → kind ≤ SHARES → g < known → (l : List Request) → all priced l ≡ true → run (tag_of kind) (near_of kind) (gap_of kind (guest_at gs g kind)) 0 0 l (next_at gs kind g) ≡ kept_of kind (owner (guests_of gs known) g) l
  kept_is zero g k h l f =
      let n = guest_at gs g RESERVATION in
      sym
      (ap (λ (o : Guest). kept_of RESERVATION o l) (row-at guest_form gs known g h)
      ∙ has_is (tag_of RESERVATION) (near_of RESERVATION) (ltb 0 n) (down n) (next_at gs RESERVATION g) l f (λ e. down-some n (ltb-true 0 n e) (in_range gs known ws count t g h).reservations) (no_down n))
  kept_is (suc zero) g k h l f =
      let n = guest_at gs g LIMIT in
      sym
      (ap (λ (o : Guest). kept_of LIMIT o l) (row-at guest_form gs known g h)
      ∙ has_is (tag_of LIMIT) (near_of LIMIT) (ltb 0 n) (up n) (next_at gs LIMIT g) l f (λ e. up-some n (ltb-true 0 n e)) (no_up n))
  kept_is (suc (suc zero)) g k h l f =
      let n = guest_at gs g SHARES in
      let r = in_range gs known ws count t g h in
      sym
      (ap (λ (o : Guest). kept_of SHARES o l) (row-at guest_form gs known g h)
      ∙ has_is (tag_of SHARES) (near_of SHARES) true (down n) (next_at gs SHARES g) l f (λ e. down-some n r.share_count.0 r.share_count.1) (λ e. absurd (true≢false e)))
  kept_is (suc (suc (suc n))) g k h l f = absurd (omega arith)

  module _ (kind : ℕ) (three : kind ≤ SHARES) where
    -- what the walk comes to is the order of the guest's kind
    whole_is : (g : ℕ) → g < known → whole (tag_of kind) (near_of kind) (waiting_of ws count) (gap_at gs kind) (next_at gs kind) known g ≡ kept_all gs known ws count kind g
    whole_is g h =
        kept_is kind g three h (mine g (waiting_of ws count)) (all_filter priced (of g) (waiting_of ws count) (both_all lawful priced (waiting_of ws count) t.is_fit).1)

    -- whether a guest has the kind its setting says as its gap does
    ends_is : (g f n : ℕ) → g < known → ends (guest_at gs g kind) f n ≡ ends (gap_at gs kind g) f n
    ends_is g f n h =
        ap (λ (b : Bool). if b then eqb n 0 else (if eqb f 0 then leb n idle_bound else eqb n f))
        (sym (gap-none kind (guest_at gs g kind) (setting_low gs known ws count t kind g three h)))

    -- after the last request the next numbers decide
    pub kind-ends : (lows floors : List ℕ) (i : ℕ) → Walked gs known ws count kind lows floors i → count ≤ i → below known (ends_at gs kind floors) ≡ below known (kept_all gs known ws count kind)
    kind-ends lows floors i s h =
        below_ext known (ends_at gs kind floors) (kept_all gs known ws count kind)
        (λ g k. ends_is g (get_or floors g 0) (next_at gs kind g) k ∙ floors_end (tag_of kind) (near_of kind) (waiting_of ws count) (gap_at gs kind) (next_at gs kind) known lows floors i s (omega (arith, length-rows request_form ws count)) g k ∙ whole_is g k)

    -- one turn, at the numbers that the code reads
    module _ (lows floors : List ℕ) (i : ℕ) (s : Walked gs known ws count kind lows floors i) (here : i < count) where
      abbrev z : Request
      z = request_form.read []

      abbrev q : Request
      q = get_or (waiting_of ws count) i z

      abbrev g : ℕ
      g = waiting_at ws i GUEST

      abbrev x : ℕ
      x = waiting_at ws i (RTAG + kind)

      abbrev c : ℕ
      c = waiting_at ws i COST

      -- the row is one of those that wait
      inside : i < length (waiting_of ws count)
      inside = omega (arith, length-rows request_form ws count)

      -- the guest of the row exists
      there : q.guest < known
      there = rw (owner_is ws count i here) (guest-known gs known ws count t i here)

      -- the test of the code is that of the request
      same_test : (b : Bool) → passes (gap_at gs kind g) (get_or lows g 0) x ≡ b → passes (gap_at gs kind q.guest) (get_or lows q.guest 0) (tag_of kind q) ≡ b
      same_test b e = rw (tag_is ws count kind i three here, owner_is ws count i here) e

      -- what the request asks for is no large number
      pub gap-fits : c * gap_at gs kind g ≤ most_cost * second
      gap-fits = cost_le c (gap_at gs kind g) (cost_low gs known ws count t i here) (gap-low kind (guest_at gs g kind))

      -- a tag that does not pass
      pub kind_fails : passes (gap_at gs kind g) (get_or lows g 0) x ≡ false → below known (kept_all gs known ws count kind) ≡ false
      kind_fails e =
          below_fails (kept_all gs known ws count kind) known q.guest there
          (sym (whole_is q.guest there) ∙ floors_fail (tag_of kind) (near_of kind) (waiting_of ws count) (gap_at gs kind) (next_at gs kind) known z lows floors i s inside there (same_test false e))

      -- a tag that does
      pub kind-next : (u v : ℕ) → passes (gap_at gs kind g) (get_or lows g 0) x ≡ true → u ≡ x + near_of kind (c * gap_at gs kind g) → v ≡ x + c * gap_at gs kind g
          → Walked gs known ws count kind (set lows g u) (set floors g v) (i + 1)
      kind-next u v e d f =
          subst (λ (o : ℕ). Walked gs known ws count kind (set lows o u) (set floors o v) (i + 1)) (owner_is ws count i here)
          (floors_next (tag_of kind) (near_of kind) (waiting_of ws count) (gap_at gs kind) (next_at gs kind) known z lows floors i s inside u v t.few there (same_test true e)
          (d ∙ sym (rw (tag_is ws count kind i three here, owner_is ws count i here, cost_is ws count i here)))
          (f ∙ sym (rw (tag_is ws count kind i three here, owner_is ws count i here, cost_is ws count i here))))
