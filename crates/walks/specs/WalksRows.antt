-- What a row's numbers say of its request: whether it is due, whether it is open, and whether it has a name.
-- Assumes nothing.
use Rattle.std.specs.Prelude.{ℕ, ◌+◌, ◌*◌, ◌≤◌, ◌<◌, ◌≡◌, Bool, true, false, not, ◌&&◌, List, eqb, length, get_or, Some, None}
use Rattle.std.proofs.Common.{sym, ◌∙◌, arith, le-leb, leb-true, eq-eqb, ne_eqb}
use Rattle.std.proofs.Math.Path.{ap}
use Rattle.std.proofs.Math.Bool.{and-false}
use Rattle.std.proofs.Math.Dec.{ltb, leb}
use Rattle.lists.specs.RowsLaws.{row-at, length-rows}
use Rattle.lists.specs.WordsLaws.{both, join, places_all, place_not, without_at}
use Rattle.rules.specs.Tables.{Request, settings_of, same}
use Rattle.rules.specs.declared.Guest.{Guest}
use Rattle.rules.specs.Choice.{due_at}
use Rattle.rules.specs.Chosen.{at}
use Rattle.table.specs.Columns.{RESERVATION, GUEST, ID, RTAG, LTAG, STAG, waiting_wide, guest_at, waiting_at, flight_at}
use Rattle.table.specs.View.{guest_form, request_form, flight_form, guests_of, waiting_of, flights_of, name_is, nameless}
use Rattle.walks.specs.Walks.{Owned, Rising, Finds}

-- the test of the reservation phase, with the guests' settings read from the lent guest table and the latest limit tag that passes
abbrev pub due_in : List ℕ → (known time latest : ℕ) → Request → Bool
due_in gs known time latest q = due_at (settings_of (guests_of gs known) q) time q && leb q.ltag latest

-- the test of the weight phase, where an unlimited guest's limit tags are 0
abbrev pub open_in : (time : ℕ) → Request → Bool
open_in time q = leb q.ltag time

-- THE WAITING ROWS

-- where row k begins at `from`, its number j stands j places on
pub row_from : (ws : List ℕ) {from : ℕ} (k j : ℕ) → from ≡ k * waiting_wide → get_or ws (from + j) 0 ≡ waiting_at ws k j
row_from ws k j e = ap (λ (i : ℕ). get_or ws (i + j) 0) e

module _ (ws : List ℕ) (count k : ℕ) (here : k < count) where
  -- a request's reservation tag is a number of its row
  pub rtag_at_lem : (at (waiting_of ws count) k).rtag ≡ waiting_at ws k RTAG
  rtag_at_lem = ap Request.rtag (row-at request_form ws count k here)

  -- and its share tag
  pub stag_at : (at (waiting_of ws count) k).stag ≡ waiting_at ws k STAG
  stag_at = ap Request.stag (row-at request_form ws count k here)

  -- its limit tag too, so its number says whether the request is open
  pub open_at : (time : ℕ) → leb (at (waiting_of ws count) k).ltag time ≡ leb (waiting_at ws k LTAG) time
  open_at time = ap (λ (q : Request). leb q.ltag time) (row-at request_form ws count k here)

  -- a limit tag at or before the time
  pub open_is : (time : ℕ) → waiting_at ws k LTAG ≤ time → leb (at (waiting_of ws count) k).ltag time ≡ true
  open_is time l = open_at time ∙ le-leb (waiting_at ws k LTAG) time l

  module _ (gs : List ℕ) (known time latest : ℕ) (owned : Owned ws count known) where
    -- the row's guest and tags, and the guest's reservation, say whether the request is due
    pub due-at : due_in gs known time latest (at (waiting_of ws count) k) ≡ (ltb 0 (guest_at gs (waiting_at ws k GUEST) RESERVATION) && leb (waiting_at ws k RTAG) time && leb (waiting_at ws k LTAG) latest)
    unfolding due_at
    due-at =
        ap (due_in gs known time latest) (row-at request_form ws count k here)
        ∙ ap (λ (h : Guest). ltb 0 h.settings.reservation && leb (waiting_at ws k RTAG) time && leb (waiting_at ws k LTAG) latest) (row-at guest_form gs known (waiting_at ws k GUEST) (owned k here))

    -- what it says that a request is due
    pub due_parts : due_in gs known time latest (at (waiting_of ws count) k) ≡ true
        → (ltb 0 (guest_at gs (waiting_at ws k GUEST) RESERVATION) ≡ true) × (waiting_at ws k RTAG ≤ time) × (waiting_at ws k LTAG ≤ latest)
    due_parts e =
        let c = both (ltb 0 (guest_at gs (waiting_at ws k GUEST) RESERVATION) && leb (waiting_at ws k RTAG) time) (leb (waiting_at ws k LTAG) latest) (sym due-at ∙ e) in
        let d = both (ltb 0 (guest_at gs (waiting_at ws k GUEST) RESERVATION)) (leb (waiting_at ws k RTAG) time) c.0 in
        (d.0, leb-true (waiting_at ws k RTAG) time d.1, leb-true (waiting_at ws k LTAG) latest c.1)

    -- and the way back
    pub due_is : ltb 0 (guest_at gs (waiting_at ws k GUEST) RESERVATION) ≡ true → waiting_at ws k RTAG ≤ time → waiting_at ws k LTAG ≤ latest → due_in gs known time latest (at (waiting_of ws count) k) ≡ true
    due_is h r l = due-at ∙ join (join h (le-leb (waiting_at ws k RTAG) time r)) (le-leb (waiting_at ws k LTAG) latest l)

    -- what is due has a tag below the walk's first bound
    pub due-tag : due_in gs known time latest (at (waiting_of ws count) k) ≡ true → (at (waiting_of ws count) k).rtag < time + 1
    due-tag e = omega (arith, rtag_at_lem, (due_parts e).1)

-- ROWS OF ONE GUEST

module _ (ws : List ℕ) (count : ℕ) where
  -- a request is due only where an earlier one of its guest is, whose tag is no larger
  pub due-behind : (gs : List ℕ) (known time latest : ℕ) → Owned ws count known → Rising ws count → (j k : ℕ) → j < k → k < count → waiting_at ws j GUEST ≡ waiting_at ws k GUEST
      → due_in gs known time latest (at (waiting_of ws count) k) ≡ true
      → (due_in gs known time latest (at (waiting_of ws count) j) ≡ true) × ((at (waiting_of ws count) j).rtag ≤ (at (waiting_of ws count) k).rtag)
  due-behind gs known time latest owned rising j k l h e d =
      let c = due_parts ws count k h gs known time latest owned d in
      let r = rising j k l h e in
      let i : j < count = omega arith in (
        due_is ws count j i gs known time latest owned (rw e c.0) (omega (arith, r.0, c.1)) (omega (arith, r.1, c.2)),
        omega (arith, r.0, rtag_at_lem ws count j i, rtag_at_lem ws count k h),
      )

  -- a request is open only where an earlier one of its guest is, whose share tag is no larger
  pub open_behind : (time : ℕ) → Rising ws count → (j k : ℕ) → j < k → k < count → waiting_at ws j GUEST ≡ waiting_at ws k GUEST
      → open_in time (at (waiting_of ws count) k) ≡ true → (open_in time (at (waiting_of ws count) j) ≡ true) × ((at (waiting_of ws count) j).stag ≤ (at (waiting_of ws count) k).stag)
  open_behind time rising j k l h e d =
      let r = rising j k l h e in
      let i : j < count = omega arith in
      let z = leb-true (waiting_at ws k LTAG) time (sym (open_at ws count k h time) ∙ d) in
      (open_is ws count j i time (omega (arith, r.1)), omega (arith, r.2, stag_at ws count j i, stag_at ws count k h))

-- THE ROWS IN FLIGHT

-- no row before k has this name
abbrev pub NoneBefore : List ℕ → (count g i k : ℕ) → Type 0
NoneBefore fs count g i k = (j : ℕ) → j < k → same (name_is g i) (get_or (flights_of fs count) j nameless) ≡ false

module _ (fs : List ℕ) (count g i : ℕ) where
  module _ (k : ℕ) (here : k < count) where
    -- the row's two numbers say whether it has this name
    same_at : same (name_is g i) (get_or (flights_of fs count) k nameless) ≡ (eqb g (flight_at fs k GUEST) && eqb i (flight_at fs k ID))
    same_at = ap (same (name_is g i)) (row-at flight_form fs count k here)

    -- another guest's
    pub not_guest : (flight_at fs k GUEST ≡ g → ⊥) → same (name_is g i) (get_or (flights_of fs count) k nameless) ≡ false
    not_guest d = rw (same_at, ne_eqb g (flight_at fs k GUEST) (λ e. d (sym e)))

    -- another id
    pub not_id : (flight_at fs k ID ≡ i → ⊥) → same (name_is g i) (get_or (flights_of fs count) k nameless) ≡ false
    not_id d = rw (same_at, ne_eqb i (flight_at fs k ID) (λ e. d (sym e))) (and-false (eqb g (flight_at fs k GUEST)))

    -- the first row of this name is found
    pub finds-at : flight_at fs k GUEST ≡ g → flight_at fs k ID ≡ i → NoneBefore fs count g i k → Finds (name_is g i) (flights_of fs count) (Some k)
    finds-at e f before = (inside, place_not (λ b. not (same (name_is g i) b)) (flights_of fs count) nameless k inside (rw has), without_at (same (name_is g i)) (flights_of fs count) nameless k inside has before)
      where
        inside : k < length (flights_of fs count)
        inside = omega (arith, length-rows flight_form fs count)

        has : same (name_is g i) (get_or (flights_of fs count) k nameless) ≡ true
        has = rw (same_at, eq-eqb g (flight_at fs k GUEST) (sym e), eq-eqb i (flight_at fs k ID) (sym f))

  -- no row has this name
  pub finds_nothing : NoneBefore fs count g i count → Finds (name_is g i) (flights_of fs count) None
  finds_nothing before =
      places_all (λ b. not (same (name_is g i) b)) (flights_of fs count) nameless (λ j h. rw (before j (omega (arith, length-rows flight_form fs count))))
