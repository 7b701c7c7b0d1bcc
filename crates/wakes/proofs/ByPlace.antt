-- Laws of the walk for the time to wake, told by the place where a row's numbers begin: they stand beside those by rows, which the code cites. Assumes nothing.
use Rattle.std.specs.Prelude.{ℕ, ◌+◌, ◌-◌, ◌*◌, ◌≤◌, ◌<◌, max, min, ◌≡◌, refl, Bool, true, false, List, map, ◌⊎◌, ltb, eqb, get_or, set, replicate, if◌then◌else◌}
use Rattle.std.proofs.Common.{sym, ap, ◌∙◌, inl, inr, arith, lt-ltb, le-ltb, eq-eqb, ne_eqb}
use Rattle.lists.specs.Words.{lowest}
use Rattle.lists.specs.WordsLaws.{lowest-of, lowest_under}
use Rattle.lists.specs.RowsLaws.{row-at, length-rows}
use Rattle.rules.specs.Numbers.{ceiling}
use Rattle.rules.specs.Tables.{Request}
use Rattle.rules.specs.declared.Guest.{Guest}
use Rattle.rules.specs.Chosen.{blank, at}
use Rattle.table.specs.Columns.{RESERVATION, GUEST, RTAG, LTAG, waiting_wide, most_guests, guest_at, waiting_at}
use Rattle.table.specs.View.{guest_form, request_form, guests_of, waiting_of}
use Rattle.walks.specs.Walks.{Owned, Rising, LimitsFit, ready_by, ready_under, ready_by_tag}
use Rattle.walks.specs.WalksLaws.{Holds, Walk, walk_start, walk_take, walk_pass, walk_behind}
use Rattle.walks.specs.WalksRows.{row_from}
use Rattle.walks.specs.Unseen.{unseen, unseen-some}
use Rattle.walks.specs.Marks.{Stood}
use Rattle.walks.proofs.ByPlace.{Marks, marks_start, marks_later, marks_mark, mark_in, kept-to-end}
use Rattle.wakes.specs.Ready.{ready_limit, ready_rises}

-- every request is looked at
abbrev every : Request → Bool
every q = true

-- the walk at the row whose numbers begin at `from`: the marks, and the smallest time of the rows passed, which is not reached yet
pub record InReady (gs ws : List ℕ) (known count time rule : ℕ) (seen : List ℕ) (first from : ℕ) : Type 0 where
  pub row : ℕ
  pub begins : from ≡ row * waiting_wide
  pub inside : row ≤ count
  pub marks : Marks ws row seen
  pub ahead : time < first
  pub place : ℕ
  pub walk : Walk every (ready_by_tag rule (guests_of gs known)) (waiting_of ws count) (ceiling + 1) count row place first

module _ (gs ws : List ℕ) (known count time rule : ℕ) where
  -- from when on a request could go
  abbrev tag : Request → ℕ
  tag = ready_by_tag rule (guests_of gs known)

  -- the waiting requests
  abbrev rows : List Request
  rows = waiting_of ws count

  -- a row's numbers, and its guest's, say from when on its request could go
  pub ready_row : Owned ws count known → (k : ℕ) → k < count → tag (at rows k) ≡ ready_under rule (guest_at gs (waiting_at ws k GUEST) RESERVATION) (waiting_at ws k RTAG) (waiting_at ws k LTAG)
  ready_row owned k here =
      ap tag (row-at request_form ws count k here)
      ∙ ap (λ (h : Guest). ready_under rule h.settings.reservation (waiting_at ws k RTAG) (waiting_at ws k LTAG)) (row-at guest_form gs known (waiting_at ws k GUEST) (owned k here))

  -- before the first row
  pub ready_start : time ≤ ceiling → InReady gs ws known count time rule (replicate most_guests 0) (ceiling + 1) 0
  ready_start h = record { row = 0; begins = refl; inside = omega arith; marks = marks_start ws; ahead = omega arith; place = count; walk = walk_start }

  module _ {seen : List ℕ} {first from : ℕ} (l : InReady gs ws known count time rule seen first from) (more : from < count * waiting_wide) (owned : Owned ws count known) where
    -- the row is one of them
    here : l.row < count
    here = omega (arith, l.begins)

    -- its first number is its guest
    guest-here : get_or ws (from + GUEST) 0 ≡ waiting_at ws l.row GUEST
    guest-here = row_from ws l.row GUEST l.begins

    -- the guest of the row exists
    pub ready_known : get_or ws (from + GUEST) 0 < known
    ready_known = omega (arith, guest-here, owned l.row here)

    -- from when on the row's request could go, as the code reads it
    module _ (r : ℕ) (read : r ≡ ready_under rule (guest_at gs (get_or ws (from + GUEST) 0) RESERVATION) (get_or ws (from + RTAG) 0) (get_or ws (from + LTAG) 0)) where
      -- that is what the definition says of the request
      is_ready : tag (at rows l.row) ≡ r
      is_ready =
          ready_row owned l.row here
          ∙ (λ i. ready_under rule (guest_at gs (sym guest-here i) RESERVATION) (sym (row_from ws l.row RTAG l.begins) i) (sym (row_from ws l.row LTAG l.begins) i))
          ∙ sym read

      -- now: that is the time to wake
      pub ready_now : r ≤ time → time ≡ max time (lowest (map tag rows))
      ready_now h = omega (arith, is_ready, lowest_under tag rows blank l.row (omega (arith, here, length-rows request_form ws count)))

      -- earlier than those before it
      pub ready_take : time < r → r < first → InReady gs ws known count time rule (set seen (get_or ws (from + GUEST) 0) 1) r (from + waiting_wide)
      ready_take h k =
          record {
            row = l.row + 1;
            begins = omega (arith, l.begins);
            inside = omega (arith, here);
            marks = rw guest-here (marks_mark ws l.row seen l.marks);
            ahead = h;
            place = l.row;
            walk = walk_take l.walk refl is_ready k;
          }

      -- no earlier
      pub ready_pass : first ≤ r → InReady gs ws known count time rule (set seen (get_or ws (from + GUEST) 0) 1) first (from + waiting_wide)
      ready_pass k =
          record {
            row = l.row + 1;
            begins = omega (arith, l.begins);
            inside = omega (arith, here);
            marks = rw guest-here (marks_mark ws l.row seen l.marks);
            ahead = l.ahead;
            place = l.place;
            walk = walk_pass l.walk (λ o. omega (arith, is_ready));
          }

    -- a row whose guest is marked stands behind an earlier one
    pub ready_skip : known ≤ most_guests → Rising ws count → (get_or seen (get_or ws (from + GUEST) 0) 0 ≡ 0 → ⊥) → InReady gs ws known count time rule seen first (from + waiting_wide)
    ready_skip few rising marked =
        let g = waiting_at ws l.row GUEST in
        let s : Stood ws l.row g = l.marks.stood g (omega (arith, owned l.row here)) (λ z. marked (ap (λ (k : ℕ). get_or seen k 0) guest-here ∙ z)) in
        let up = rising s.place l.row s.before here s.own in
        let before : s.place < count = omega (arith, s.before, here) in
        let low : tag (at rows s.place) ≤ tag (at rows l.row) =
        rw (ready_row owned s.place before, ready_row owned l.row here, s.own) (ready_rises _ _ _ _ _ _ up.0 up.1) in
        record {
          row = l.row + 1;
          begins = omega (arith, l.begins);
          inside = omega (arith, here);
          marks = marks_later ws l.row seen l.marks;
          ahead = l.ahead;
          place = l.place;
          walk = walk_pass l.walk (walk_behind l.walk s.place s.before (λ o. (refl, low)));
        }

  -- where every guest is marked, the rows that are left change nothing: the walk may end
  pub ready_rest : {seen : List ℕ} {first from : ℕ} → InReady gs ws known count time rule seen first from
      → Owned ws count known → known ≤ most_guests → Rising ws count → unseen (mark_in seen) known ≡ 0 → InReady gs ws known count time rule seen first (count * waiting_wide)
  ready_rest {seen} {first} {from} l owned few rising none =
      kept-to-end (InReady gs ws known count time rule seen first) count
      (λ at more k. ready_skip k more owned few rising (λ z. omega (arith, none, unseen-some (mark_in seen) known (get_or ws (at + GUEST) 0) (ready_known k more owned) z)))
      (count - l.row) from (omega (arith, l.begins, l.inside)) l

  -- behind the last row it holds the time to wake
  pub ready_end : {seen : List ℕ} {first from : ℕ} → InReady gs ws known count time rule seen first from → count * waiting_wide ≤ from → 0 < count → Owned ws count known → LimitsFit ws count
      → first ≡ max time (lowest (map tag rows))
  ready_end {seen} {first} {from} l done some owned fit =
      let size = length-rows request_form ws count in
      let (i, h, e) = lowest-of tag rows blank (omega arith) in
      go (omega (arith, l.begins, l.inside)) i (omega arith) e l.walk.held
    where
      go : l.row ≡ count → (i : ℕ) → i < count → tag (at rows i) ≡ lowest (map tag rows) → ((l.place ≡ count) × (first ≡ ceiling + 1)) ⊎ Holds every tag rows l.row l.place first → first ≡ max time (lowest (map tag rows))
      go q i h e (inl n) =
          absurd (omega (arith, l.walk.above i (omega arith) refl, ready_row owned i h, fit i h, ready_limit rule (guest_at gs (waiting_at ws i GUEST) RESERVATION) (waiting_at ws i RTAG) (waiting_at ws i LTAG), n.1))
      go q i h e (inr k) =
          omega (arith, l.walk.above i (omega arith) refl, k.tagged, l.ahead, lowest_under tag rows blank l.place (omega (arith, k.passed, length-rows request_form ws count)))
