-- The walk for the time to wake: what it holds after some rows, where only the first row of each guest is looked at. Assumes nothing.
use Rattle.std.specs.Prelude.{ℕ, ◌+◌, ◌-◌, ◌≤◌, ◌<◌, max, min, ◌≡◌, refl, Bool, true, false, List, map, ◌⊎◌, ltb, eqb, get_or, set, replicate, if◌then◌else◌}
use Rattle.std.proofs.Common.{sym, ap, ◌∙◌, inl, inr, arith, lt-ltb, le-ltb, eq-eqb, ne_eqb, ltb-true, ltb-false}
use Rattle.lists.specs.Words.{lowest}
use Rattle.lists.specs.WordsLaws.{lowest-of, lowest_under}
use Rattle.lists.specs.RowsLaws.{row-at, length-rows}
use Rattle.rules.specs.Numbers.{ceiling}
use Rattle.rules.specs.Tables.{Request}
use Rattle.rules.specs.declared.Guest.{Guest}
use Rattle.rules.specs.Chosen.{blank, at}
use Rattle.table.specs.Columns.{RESERVATION, GUEST, RTAG, LTAG, most_guests, guest_at, waiting_at}
use Rattle.table.specs.View.{guest_form, request_form, guests_of, waiting_of}
use Rattle.walks.specs.Walks.{Owned, Rising, LimitsFit, ready_by, ready_under, ready_by_tag}
use Rattle.walks.specs.WalksLaws.{Holds, Walk, walk_start, walk_take, walk_pass, walk_behind}
use Rattle.walks.specs.Unseen.{mark_in, unseen, unseen-some, kept-to-end}
use Rattle.walks.specs.Marks.{Stood, Marks, marks_start, marks_later, marks_mark}

-- the limit tag, where it is no later than the reservation tag
pub ready_limited : (r a l : ℕ) → l ≤ a → l ≡ ready_by r a l
unfolding ready_by
ready_limited r a l h = elim (ltb 0 r) as (λ b. l ≡ (if b then min l a else l)) [ true ↦ omega arith | false ↦ refl ]

-- else the reservation tag, where there is a reservation
pub ready_reserved : (r a l : ℕ) → a < l → 0 < r → a ≡ ready_by r a l
unfolding ready_by
ready_reserved r a l h k = rw (lt-ltb 0 r k) (omega arith)

-- and where there is none, the limit tag
pub ready_unreserved : (r a l : ℕ) → r ≤ 0 → l ≡ ready_by r a l
unfolding ready_by
ready_unreserved r a l k = rw (le-ltb 0 r k)

-- under rule 2 the limit tag alone
pub ready_2 : (rule r a l : ℕ) → rule ≡ 2 → l ≡ ready_under rule r a l
unfolding ready_under
ready_2 rule r a l e = rw (eq-eqb rule 2 e)

-- under another as under rule 1
pub ready_1 : (rule r a l : ℕ) → (rule ≡ 2 → ⊥) → ready_by r a l ≡ ready_under rule r a l
unfolding ready_under
ready_1 rule r a l d = rw (ne_eqb rule 2 d)

-- it is never past the limit tag
pub ready_limit : (rule r a l : ℕ) → ready_under rule r a l ≤ l
unfolding ready_by ready_under
ready_limit rule r a l = go (eqb rule 2) (ltb 0 r)
  where
    go : (b c : Bool) → (if b then l else (if c then min l a else l)) ≤ l
    go true c = omega arith
    go false true = omega arith
    go false false = omega arith

-- no tag that is larger makes it earlier
pub ready_rises : (rule r a b l m : ℕ) → a ≤ b → l ≤ m → ready_under rule r a l ≤ ready_under rule r b m
unfolding ready_by ready_under
ready_rises rule r a b l m h k = go (eqb rule 2) (ltb 0 r)
  where
    go : (x c : Bool) → (if x then l else (if c then min l a else l)) ≤ (if x then m else (if c then min m b else m))
    go true c = k
    go false true = omega arith
    go false false = k

-- every request is looked at
abbrev every : Request → Bool
every q = true

-- the walk with `row` rows passed: the marks, and the smallest time of these rows, which is not reached yet
pub record InReady (gs ws : List ℕ) (known count time rule : ℕ) (seen : List Bool) (first row : ℕ) : Type 0 where
  pub marks : Marks ws row seen
  pub ahead : time < first
  pub place : ℕ
  pub walk : Walk every (ready_by_tag rule (guests_of gs known)) (waiting_of ws count) (ceiling + 1) count row place first

module _ (gs ws : List ℕ) (known count time rule : ℕ) where
  -- from when on a request could go
  abbrev tag : Request → ℕ
  tag = ready_by_tag rule (guests_of gs known)

  -- the waiting requests
  abbrev rows : List Request
  rows = waiting_of ws count

  -- a row's numbers, and its guest's, say from when on its request could go
  pub ready_row : Owned ws count known → (k : ℕ) → k < count → tag (at rows k) ≡ ready_under rule (guest_at gs (waiting_at ws k GUEST) RESERVATION) (waiting_at ws k RTAG) (waiting_at ws k LTAG)
  ready_row owned k here =
      ap tag (row-at request_form ws count k here)
      ∙ ap (λ (h : Guest). ready_under rule h.settings.reservation (waiting_at ws k RTAG) (waiting_at ws k LTAG)) (row-at guest_form gs known (waiting_at ws k GUEST) (owned k here))

  -- before the first row
  pub ready_start : time ≤ ceiling → InReady gs ws known count time rule (replicate most_guests false) (ceiling + 1) 0
  ready_start h = record { marks = marks_start ws; ahead = omega arith; place = count; walk = walk_start }

  module _ {seen : List Bool} {first row : ℕ} (l : InReady gs ws known count time rule seen first row) (here : row < count) (owned : Owned ws count known) where
    -- from when on the row's request could go, as the code reads it
    module _ (r : ℕ) (read : r ≡ ready_under rule (guest_at gs (waiting_at ws row GUEST) RESERVATION) (waiting_at ws row RTAG) (waiting_at ws row LTAG)) where
      -- that is what the definition says of the request
      is_ready : tag (at rows row) ≡ r
      is_ready = ready_row owned row here ∙ sym read

      -- now: that is the time to wake
      pub ready_now : r ≤ time → time ≡ max time (lowest (map tag rows))
      ready_now h = omega (arith, is_ready, lowest_under tag rows blank row (omega (arith, here, length-rows request_form ws count)))

      -- later: the smaller of its time and of those before it
      pub ready_next : time < r → (first' : ℕ) → first' ≡ min first r → InReady gs ws known count time rule (set seen (waiting_at ws row GUEST) true) first' (row + 1)
      ready_next h first' e = go (ltb r first) refl
        where
          go : (b : Bool) → ltb r first ≡ b → InReady gs ws known count time rule (set seen (waiting_at ws row GUEST) true) first' (row + 1)
          go true q =
              let low = ltb-true r first q in
              let same : r ≡ first' = omega (arith, e, low) in
              record { marks = marks_mark ws row seen l.marks; ahead = omega (arith, h, same); place = row; walk = rw (← same) (walk_take l.walk refl is_ready low) }
          go false q =
              let low = ltb-false r first q in
              let same : first ≡ first' = omega (arith, e, low) in
              record { marks = marks_mark ws row seen l.marks; ahead = omega (arith, l.ahead, same); place = l.place; walk = rw (← same) (walk_pass l.walk (λ o. omega (arith, is_ready))) }

    -- a row whose guest is marked stands behind an earlier one
    pub ready_skip : known ≤ most_guests → Rising ws count → get_or seen (waiting_at ws row GUEST) false ≡ true → InReady gs ws known count time rule seen first (row + 1)
    ready_skip few rising marked =
        let s : Stood ws row (waiting_at ws row GUEST) = l.marks.stood (waiting_at ws row GUEST) (omega (arith, owned row here)) marked in
        let up = rising s.place row s.before here s.own in
        let before : s.place < count = omega (arith, s.before, here) in
        let low : tag (at rows s.place) ≤ tag (at rows row) =
        rw (ready_row owned s.place before, ready_row owned row here, s.own) (ready_rises _ _ _ _ _ _ up.0 up.1) in
        record { marks = marks_later ws row seen l.marks; ahead = l.ahead; place = l.place; walk = walk_pass l.walk (walk_behind l.walk s.place s.before (λ o. (refl, low))) }

  -- where every guest is marked, the rows that are left change nothing: the walk may end
  pub ready_rest : {seen : List Bool} {first row : ℕ} → InReady gs ws known count time rule seen first row → row ≤ count
      → Owned ws count known → known ≤ most_guests → Rising ws count → unseen (mark_in seen) known ≡ 0 → InReady gs ws known count time rule seen first count
  ready_rest {seen} {first} {row} l inside owned few rising none =
      kept-to-end (InReady gs ws known count time rule seen first) count
      (λ at more k. ready_skip k more owned few rising (marked (waiting_at ws at GUEST) (owned at more) (get_or seen (waiting_at ws at GUEST) false) refl))
      (count - row) row (omega (arith, inside)) l
    where
      marked : (g : ℕ) → g < known → (b : Bool) → get_or seen g false ≡ b → b ≡ true
      marked g h true e = refl
      marked g h false e = absurd (omega (arith, none, unseen-some (mark_in seen) known g h (rw e refl)))

  -- behind the last row it holds the time to wake
  pub ready_end : {seen : List Bool} {first row : ℕ} → InReady gs ws known count time rule seen first row → row ≡ count → 0 < count → Owned ws count known → LimitsFit ws count
      → first ≡ max time (lowest (map tag rows))
  ready_end {seen} {first} {row} l done some owned fit =
      let size = length-rows request_form ws count in
      let (i, h, e) = lowest-of tag rows blank (omega arith) in
      go i (omega arith) e l.walk.held
    where
      go : (i : ℕ) → i < count → tag (at rows i) ≡ lowest (map tag rows) → ((l.place ≡ count) × (first ≡ ceiling + 1)) ⊎ Holds every tag rows row l.place first → first ≡ max time (lowest (map tag rows))
      go i h e (inl n) =
          absurd (omega (arith, l.walk.above i (omega arith) refl, ready_row owned i h, fit i h, ready_limit rule (guest_at gs (waiting_at ws i GUEST) RESERVATION) (waiting_at ws i RTAG) (waiting_at ws i LTAG), n.1))
      go i h e (inr k) =
          omega (arith, l.walk.above i (omega arith) refl, k.tagged, l.ahead, lowest_under tag rows blank l.place (omega (arith, k.passed, length-rows request_form ws count)))
