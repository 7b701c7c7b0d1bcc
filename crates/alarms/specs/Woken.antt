-- The time to wake, guest by guest: what is held after some guests, where the first row of each is looked at. Assumes nothing.
use Rattle.std.specs.Prelude.{ℕ, ◌+◌, ◌≤◌, ◌<◌, min, max, ◌≡◌, refl, Bool, true, false, List, map, ◌⊎◌, ltb}
use Rattle.std.proofs.Common.{sym, ap, ◌∙◌, inl, inr, arith, ltb-true, ltb-false}
use Rattle.lists.specs.Words.{lowest}
use Rattle.lists.specs.WordsLaws.{lowest-of, lowest_under}
use Rattle.lists.specs.RowsLaws.{length-rows}
use Rattle.rules.specs.Numbers.{ceiling}
use Rattle.rules.specs.Tables.{Request}
use Rattle.rules.specs.Chosen.{blank, at}
use Rattle.table.specs.Columns.{RESERVATION, GUEST, RTAG, LTAG, guest_at, waiting_at}
use Rattle.table.specs.View.{request_form, guests_of, waiting_of}
use Rattle.walks.specs.Walks.{Owned, Rising, LimitsFit, ready_under, ready_by_tag}
use Rattle.wakes.specs.Ready.{ready_row, ready_limit, ready_rises}
use Rattle.index.specs.Index.{owner_of, NoRow, Head}
use Rattle.seeks.specs.Reads.{head_first, rising_on, guests_more}

-- the smallest time of the rows of the guests before g, which is not reached yet, or one past the ceiling
pub record Woken (gs ws : List ℕ) (known count time rule g first : ℕ) : Type 0 where
  pub ahead : time < first
  pub low : (k : ℕ) → k < count → owner_of ws k < g → first ≤ ready_by_tag rule (guests_of gs known) (at (waiting_of ws count) k)
  pub held : (first ≡ ceiling + 1) ⊎ ((k : ℕ) × (k < count) × (ready_by_tag rule (guests_of gs known) (at (waiting_of ws count) k) ≡ first))

module _ (gs ws : List ℕ) (known count time rule : ℕ) where
  abbrev tag : Request → ℕ
  tag = ready_by_tag rule (guests_of gs known)

  abbrev rows : List Request
  rows = waiting_of ws count

  -- before the first guest
  pub woken_start : time ≤ ceiling → Woken gs ws known count time rule 0 (ceiling + 1)
  woken_start h = record { ahead = omega (arith, h); low = λ k here l. absurd (omega (arith, l)); held = inl refl }

  -- no row's time is before the smallest
  lowest-low : (k : ℕ) → k < count → lowest (map tag rows) ≤ tag (at rows k)
  lowest-low k here = lowest_under tag rows blank k (omega (arith, here, length-rows request_form ws count))

  module _ {g first : ℕ} (w : Woken gs ws known count time rule g first) where
    -- a guest with no row
    pub woken_none : NoRow ws g 0 count → Woken gs ws known count time rule (g + 1) first
    woken_none none =
        record { ahead = w.ahead; low = guests_more (λ k. first ≤ tag (at rows k)) ws count g w.low (λ k here own. absurd (none k (omega arith) here own)); held = w.held }

    -- from when on the request of its first row could go, as the code reads it
    module _ (owned : Owned ws count known) (rising : Rising ws count) {j r : ℕ} (here : j < count) (h : Head ws g 0 j) (read : r ≡ ready_under rule (guest_at gs g RESERVATION) (waiting_at ws j RTAG) (waiting_at ws j LTAG)) where
      is_ready : tag (at rows j) ≡ r
      is_ready =
          ready_row gs ws known count time rule owned j here ∙ ap (λ (x : ℕ). ready_under rule (guest_at gs x RESERVATION) (waiting_at ws j RTAG) (waiting_at ws j LTAG)) h.own ∙ sym read

      -- none of the guest's rows could go earlier
      no_earlier : (k : ℕ) → k < count → owner_of ws k ≡ g → r ≤ tag (at rows k)
      no_earlier k there own =
          let same : owner_of ws j ≡ owner_of ws k = h.own ∙ sym own in
          let up = rising_on ws count j k rising (head_first h own) there same in
          let low : tag (at rows j) ≤ tag (at rows k) =
          rw (ready_row gs ws known count time rule owned j here, ready_row gs ws known count time rule owned k there, same) (ready_rises _ _ _ _ _ _ up.0 up.1) in
          omega (arith, low, is_ready)

      -- now: that is the time to wake
      pub woken_now : r ≤ time → time ≡ max time (lowest (map tag rows))
      woken_now e = omega (arith, e, is_ready, lowest-low j here)

      -- earlier than those before it
      pub woken_take : time < r → r < first → Woken gs ws known count time rule (g + 1) r
      woken_take e l =
          record {
            ahead = e;
            low = guests_more (λ k. r ≤ tag (at rows k)) ws count g (λ k there low. omega (arith, l, w.low k there low)) no_earlier;
            held = inr (j, here, is_ready);
          }

      -- no earlier
      pub woken_pass : first ≤ r → Woken gs ws known count time rule (g + 1) first
      woken_pass l =
          record {
            ahead = w.ahead;
            low = guests_more (λ k. first ≤ tag (at rows k)) ws count g w.low (λ k there own. omega (arith, l, no_earlier k there own));
            held = w.held;
          }

      -- later: the smaller of its time and of those before it
      pub woken_next : time < r → (first' : ℕ) → first' ≡ min first r → Woken gs ws known count time rule (g + 1) first'
      woken_next e first' m =
          record {
            ahead = omega (arith, e, m, w.ahead);
            low = guests_more (λ k. first' ≤ tag (at rows k)) ws count g (λ k there low. omega (arith, m, w.low k there low)) (λ k there own. omega (arith, m, no_earlier k there own));
            held = go (ltb r first) refl w.held;
          }
        where
          go : (b : Bool) → ltb r first ≡ b → (first ≡ ceiling + 1) ⊎ ((k : ℕ) × (k < count) × (tag (at rows k) ≡ first)) → (first' ≡ ceiling + 1) ⊎ ((k : ℕ) × (k < count) × (tag (at rows k) ≡ first'))
          go true q old = inr (j, here, omega (arith, m, is_ready, ltb-true r first q))
          go false q (inl n) = inl (omega (arith, m, n, ltb-false r first q))
          go false q (inr (k, there, t)) = inr (k, there, omega (arith, m, t, ltb-false r first q))

  -- behind the last guest it is the time to wake
  pub woken_end : {g first : ℕ} → Woken gs ws known count time rule g first → known ≤ g → 0 < count → Owned ws count known → LimitsFit ws count → first ≡ max time (lowest (map tag rows))
  woken_end {g} {first} w all some owned fit =
      let (i, h, e) = lowest-of tag rows blank (omega (arith, some, length-rows request_form ws count)) in
      let here : i < count = omega (arith, h, length-rows request_form ws count) in
      go i here e (w.low i here (omega (arith, all, owned i here))) w.held
    where
      go : (i : ℕ) → i < count → tag (at rows i) ≡ lowest (map tag rows) → first ≤ tag (at rows i) → (first ≡ ceiling + 1) ⊎ ((k : ℕ) × (k < count) × (tag (at rows k) ≡ first)) → first ≡ max time (lowest (map tag rows))
      go i here e low (inl n) =
          absurd (omega (arith, low, n, ready_row gs ws known count time rule owned i here, fit i here, ready_limit rule (guest_at gs (waiting_at ws i GUEST) RESERVATION) (waiting_at ws i RTAG) (waiting_at ws i LTAG)))
      go i here e low (inr (k, there, q)) = omega (arith, low, e, q, w.ahead, lowest-low k there)
