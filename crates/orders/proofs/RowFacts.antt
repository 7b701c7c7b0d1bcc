-- What the tests before that of order say of each row: settings are small, guests exist, tags are at most the ceiling. Assumes nothing.
use Prim.Native.Nat.{ℕ, zero, suc, ◌+◌, ◌≤◌, ◌<◌}
use mathlib.Core.Path.{◌≡◌, sym, ap, ◌∙◌}
use mathlib.Core.Bool.{true}
use mathlib.Core.List.{List, []}
use native.Mathlib.Omega.{arith}
use lib.Dec.{ltb}
use lib.ListN.{get_or}
use borrow.Author.Tests.{ltb-true}
use Rattle.lists.specs.WordsLaws.{both, all-at}
use Rattle.lists.specs.RowsLaws.{row-at, length-rows}
use Rattle.rules.specs.Numbers.{ceiling, most_cost}
use Rattle.rules.specs.Tables.{Request, name}
use Rattle.rules.specs.Sound.{lawful, priced}
use Rattle.rules.specs.Refused.{Good}
use Rattle.rules.proofs.Facts.{Lawful, lawful_is}
use Rattle.rules.proofs.Spacings.{fair_is}
use Rattle.rules.proofs.Conditions.{settled-good}
use Rattle.table.specs.Columns.{RESERVATION, LIMIT, SHARES, CREDIT, GUEST, ID, COST, RTAG, guest_at, waiting_at}
use Rattle.table.specs.View.{guest_form, request_form, guests_of, waiting_of}
use Rattle.entries.specs.Tests.{settings_are, settled_guest, named, fits}
use Rattle.entries.specs.Kinds.{Tested}

-- the tag of a kind of a request
abbrev pub tag_of : ℕ → Request → ℕ
tag_of k q = get_or (request_form.line q) (RTAG + k) 0

-- a tag of a lawful request
lawful-tag : (kind : ℕ) (q : Request) → Lawful q → kind ≤ SHARES → tag_of kind q ≤ ceiling
lawful-tag zero q s k = s.reservation
lawful-tag (suc zero) q s k = s.limit
lawful-tag (suc (suc zero)) q s k = s.share
lawful-tag (suc (suc (suc n))) q s k = absurd (omega arith)

-- the number read of a row is the tag of its request
pub tag_is : (ws : List ℕ) (count kind i : ℕ) → kind ≤ SHARES → i < count → tag_of kind (get_or (waiting_of ws count) i (request_form.read [])) ≡ waiting_at ws i (RTAG + kind)
tag_is ws count zero i k h = ap (tag_of RESERVATION) (row-at request_form ws count i h)
tag_is ws count (suc zero) i k h = ap (tag_of LIMIT) (row-at request_form ws count i h)
tag_is ws count (suc (suc zero)) i k h = ap (tag_of SHARES) (row-at request_form ws count i h)
tag_is ws count (suc (suc (suc n))) i k h = absurd (omega arith)

-- and so is its guest
pub owner_is : (ws : List ℕ) (count i : ℕ) → i < count → (get_or (waiting_of ws count) i (request_form.read [])).guest ≡ waiting_at ws i GUEST
owner_is ws count i h = ap Request.guest (row-at request_form ws count i h)

-- and its cost
pub cost_is : (ws : List ℕ) (count i : ℕ) → i < count → (get_or (waiting_of ws count) i (request_form.read [])).cost ≡ waiting_at ws i COST
cost_is ws count i h = ap Request.cost (row-at request_form ws count i h)

module _ (gs : List ℕ) (known : ℕ) (ws : List ℕ) (count : ℕ) (t : Tested gs known ws count) where
  -- a guest's settings lie in their ranges
  pub in_range : (g : ℕ) → g < known → Good (settings_are (guest_at gs g RESERVATION) (guest_at gs g LIMIT) (guest_at gs g SHARES) (guest_at gs g CREDIT))
  in_range g h =
      (settled-good (settings_are (guest_at gs g RESERVATION) (guest_at gs g LIMIT) (guest_at gs g SHARES) (guest_at gs g CREDIT))).0
      (sym (ap settled_guest (row-at guest_form gs known g h)) ∙ all-at settled_guest (guests_of gs known) (guest_form.read []) t.is_settled g (omega (arith, length-rows guest_form gs known)))

  -- each is small
  pub setting_low : (kind g : ℕ) → kind ≤ SHARES → g < known → guest_at gs g kind ≤ 1000000
  setting_low zero g k h = (in_range g h).reservations
  setting_low (suc zero) g k h = (in_range g h).limits
  setting_low (suc (suc zero)) g k h = (in_range g h).share_count.1
  setting_low (suc (suc (suc n))) g k h = absurd (omega arith)

  -- a request's guest exists
  pub guest-known : (i : ℕ) → i < count → waiting_at ws i GUEST < known
  guest-known i h =
      ltb-true (waiting_at ws i GUEST) known
      (both (ltb (waiting_at ws i GUEST) known) (ltb (waiting_at ws i ID) 4294967296)
      (sym (ap (λ (q : Request). named known (name q)) (row-at request_form ws count i h)) ∙ all-at (λ q. named known (name q)) (waiting_of ws count) (request_form.read []) t.is_named i (omega (arith, length-rows request_form ws count)))
      ).0

  -- what is tested of it alone
  fit : (i : ℕ) → i < count → (lawful (get_or (waiting_of ws count) i (request_form.read [])) ≡ true) × (priced (get_or (waiting_of ws count) i (request_form.read [])) ≡ true)
  fit i h =
      let q = get_or (waiting_of ws count) i (request_form.read []) in
      both (lawful q) (priced q) (all-at fits (waiting_of ws count) (request_form.read []) t.is_fit i (omega (arith, length-rows request_form ws count)))

  -- its tags are at most the ceiling
  pub tag-low : (kind i : ℕ) → kind ≤ SHARES → i < count → waiting_at ws i (RTAG + kind) ≤ ceiling
  tag-low kind i k h =
      let q = get_or (waiting_of ws count) i (request_form.read []) in
      let s = lawful_is q (fit i h).0 in
      rw (tag_is ws count kind i k h) at (lawful-tag kind q s k)

  -- and its cost at most 64
  pub cost_low : (i : ℕ) → i < count → waiting_at ws i COST ≤ most_cost
  cost_low i h =
      let q = get_or (waiting_of ws count) i (request_form.read []) in
      rw (cost_is ws count i h) at (fair_is q.cost (fit i h).1).1
