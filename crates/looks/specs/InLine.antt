-- The walk of the choice, one for both phases: what it holds after some rows, what looking at a row makes of that, and that a row which stands behind an
-- earlier one of its guest makes nothing of it. Assumes nothing.
use Rattle.std.specs.Prelude.{◌≡◌, ℕ, zero, suc, ◌+◌, ◌-◌, ◌*◌, ◌<◌, ◌≤◌, Bool, true, false, ◌&&◌, ltb, List, nat_le, nat_lt, slice_index, refl}
use Rattle.std.proofs.Common.{sym, ◌∙◌, subst, arith, leb-true, le-leb}
use Rattle.std.proofs.lemmas.Bool.{false≢true}
use Rattle.lists.specs.WordsLaws.{both, join}
use Rattle.lists.specs.RowsLaws.{length-rows}
use Rattle.rules.specs.Numbers.{ceiling}
use Rattle.rules.specs.Tables.{Request}
use Rattle.rules.specs.Chosen.{at}
use Rattle.table.specs.Columns.{RESERVATION, GUEST, RTAG, LTAG, STAG, waiting_wide, guest_at, waiting_at}
use Rattle.table.specs.View.{request_form, waiting_of}
use Rattle.looks.specs.declared.Best.{Best}
use Rattle.walks.specs.Walks.{Picks, Owned, Rising, SharesFit, Counts, place_in}
use Rattle.walks.specs.Marks.{Stood}
use Rattle.walks.specs.WalksLaws.{walk_behind, Told, told-start, told-take, told_pass, told_picks}
use Rattle.walks.specs.WalksRows.{due_in, open_in, row_from, rtag_at_lem, stag_at, due_parts, due_is, due-tag, open_at, open_is, due-behind, open_behind}

-- a tag that counts is below a bound that is not past the ceiling, or one that does not count is not
counted-below : (b : Bool) {tag t bound : ℕ} → Counts b tag t → t < bound → bound ≤ ceiling + 1 → (b ≡ true) × (t ≡ tag)
counted-below true c l h = (refl, c)
counted-below false c l h = absurd (omega (arith, c))

-- where it counts it is the tag
counted_is : (b : Bool) {tag t : ℕ} → Counts b tag t → b ≡ true → t ≡ tag
counted_is true c e = c
counted_is false c e = absurd (false≢true e)

-- every row from i up to row e stands behind an earlier one of its guest
pub record Behind (ws : List ℕ) (i e : ℕ) : Type 0 where
  pub ahead : i ≤ e
  pub each : (j : ℕ) → i ≤ j → j < e → Stood ws j (waiting_at ws j GUEST)

-- what each phase would send of the first `row` rows, and the bounds
pub record Passed (gs ws : List ℕ) (known count time latest row : ℕ) (b : Best) : Type 0 where
  pub by_tag : Told (due_in gs known time latest) Request.rtag (waiting_of ws count) (time + 1) count row b.first b.soonest
  pub by_share : Told (open_in time) Request.stag (waiting_of ws count) (ceiling + 1) count row b.spare b.smallest

module _ (gs ws : List ℕ) (known count time latest : ℕ) where
  -- before the first row
  pub passed_none : Passed gs ws known count time latest 0 (record { first = count * waiting_wide; soonest = time + 1; spare = count * waiting_wide; smallest = ceiling + 1 })
  passed_none = record { by_tag = told-start; by_share = told-start }

  module _ {row from : ℕ} {b : Best} (l : Passed gs ws known count time latest row b) (begins : from ≡ row * waiting_wide) (here : row < count) where
    -- what the code tests of the row, beside its reservation tag
    abbrev passes_here : Bool
    passes_here = nat_lt 0 (guest_at gs (slice_index ws (from + GUEST)) RESERVATION) && nat_le (slice_index ws (from + LTAG)) latest

    -- the row's reservation tag counts and is below the bound: it is due, and taken
    pub due-take : Owned ws count known → time ≤ ceiling → {t : ℕ} → Counts passes_here (slice_index ws (from + RTAG)) t → t < b.soonest
        → Told (due_in gs known time latest) Request.rtag (waiting_of ws count) (time + 1) count (row + 1) from t
    due-take owned early {t} c low =
        let k = counted-below passes_here c low (omega (arith, l.by_tag.walk.low)) in
        let p = both (nat_lt 0 (guest_at gs (slice_index ws (from + GUEST)) RESERVATION)) (nat_le (slice_index ws (from + LTAG)) latest) k.0 in
        let tag = row_from ws row RTAG begins in
        let has : ltb 0 (guest_at gs (waiting_at ws row GUEST) RESERVATION) ≡ true = rw (row_from ws row GUEST begins) at p.0 in
        let within = leb-true (slice_index ws (from + LTAG)) latest p.1 in
        told-take l.by_tag begins
        (due_is ws count row here gs known time latest owned has (omega (arith, low, tag, k.1, l.by_tag.walk.low)) (omega (arith, within, row_from ws row LTAG begins)))
        (rtag_at_lem ws count row here ∙ sym tag ∙ sym k.1) low

    -- else it is no due row with a smaller tag
    pub due_pass : Owned ws count known → {t : ℕ} → Counts passes_here (slice_index ws (from + RTAG)) t → b.soonest ≤ t
        → Told (due_in gs known time latest) Request.rtag (waiting_of ws count) (time + 1) count (row + 1) b.first b.soonest
    due_pass owned {t} c high = told_pass l.by_tag go
      where
        go : due_in gs known time latest (at (waiting_of ws count) row) ≡ true → b.soonest ≤ (at (waiting_of ws count) row).rtag
        go o =
            let p = due_parts ws count row here gs known time latest owned o in
            let has : ltb 0 (guest_at gs (slice_index ws (from + GUEST)) RESERVATION) ≡ true = rw (row_from ws row GUEST begins) p.0 in
            let within = le-leb (slice_index ws (from + LTAG)) latest (omega (arith, p.2, row_from ws row LTAG begins)) in
            omega (arith, high, counted_is passes_here c (join has within), rtag_at_lem ws count row here, row_from ws row RTAG begins)

    -- the row's share tag counts and is below the bound: it is open, and taken
    pub open_take : {t : ℕ} → Counts (nat_le (slice_index ws (from + LTAG)) time) (slice_index ws (from + STAG)) t → t < b.smallest
        → Told (open_in time) Request.stag (waiting_of ws count) (ceiling + 1) count (row + 1) from t
    open_take {t} c low =
        let k = counted-below (nat_le (slice_index ws (from + LTAG)) time) c low l.by_share.walk.low in
        let within = leb-true (slice_index ws (from + LTAG)) time k.0 in
        told-take l.by_share begins (open_is ws count row here time (omega (arith, within, row_from ws row LTAG begins)))
        (stag_at ws count row here ∙ sym (row_from ws row STAG begins) ∙ sym k.1) low

    -- else it is no open row with a smaller tag
    pub open_pass : {t : ℕ} → Counts (nat_le (slice_index ws (from + LTAG)) time) (slice_index ws (from + STAG)) t → b.smallest ≤ t
        → Told (open_in time) Request.stag (waiting_of ws count) (ceiling + 1) count (row + 1) b.spare b.smallest
    open_pass {t} c high = told_pass l.by_share go
      where
        go : open_in time (at (waiting_of ws count) row) ≡ true → b.smallest ≤ (at (waiting_of ws count) row).stag
        go o =
            let z = leb-true (waiting_at ws row LTAG) time (sym (open_at ws count row here time) ∙ o) in
            let h = le-leb (slice_index ws (from + LTAG)) time (omega (arith, z, row_from ws row LTAG begins)) in
            omega (arith, high, counted_is (nat_le (slice_index ws (from + LTAG)) time) c h, stag_at ws count row here, row_from ws row STAG begins)

  module _ (owned : Owned ws count known) (rising : Rising ws count) where
    -- a row behind an earlier one of its guest is passed, and changes nothing
    passed-behind : {row : ℕ} {b : Best} → Passed gs ws known count time latest row b → row < count → Stood ws row (waiting_at ws row GUEST) → Passed gs ws known count time latest (row + 1) b
    passed-behind {row} l here s =
        record {
          by_tag = told_pass l.by_tag (walk_behind l.by_tag.walk s.place s.before (due-behind ws count gs known time latest owned rising s.place row s.before here s.own));
          by_share = told_pass l.by_share (walk_behind l.by_share.walk s.place s.before (open_behind ws count time rising s.place row s.before here s.own));
        }

    -- so are all such rows up to another
    pub passed-all : {i e : ℕ} {b : Best} → Passed gs ws known count time latest i b → Behind ws i e → e ≤ count → Passed gs ws known count time latest e b
    passed-all {i} {e} {b} l s inside = go (e - i) i (omega (arith, s.ahead)) (omega arith) l
      where
        go : (n row : ℕ) → row + n ≡ e → i ≤ row → Passed gs ws known count time latest row b → Passed gs ws known count time latest e b
        go zero row q h k = subst (λ (x : ℕ). Passed gs ws known count time latest x b) (omega (arith, q)) k
        go (suc n) row q h k = go n (row + 1) (omega (arith, q)) (omega (arith, h)) (passed-behind k (omega (arith, q, inside)) (s.each row h (omega (arith, q))))

  -- behind the last row
  module _ {b : Best} (l : Passed gs ws known count time latest count b) where
    -- the walk answers what the reservation phase picks
    pub passed-due : Owned ws count known → Picks (due_in gs known time latest) Request.rtag (waiting_of ws count) (place_in b.first (count * waiting_wide))
    passed-due owned = told_picks (length-rows request_form ws count) l.by_tag (λ j h. due-tag ws count j h gs known time latest owned)

    -- and what the weight phase picks
    pub passed_open : SharesFit ws count → Picks (open_in time) Request.stag (waiting_of ws count) (place_in b.spare (count * waiting_wide))
    passed_open fit = told_picks (length-rows request_form ws count) l.by_share (λ j h _. omega (arith, stag_at ws count j h, fit j h))
