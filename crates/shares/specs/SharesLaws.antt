-- The settling of the shares, by the numbers, is that of document 01. Assumes nothing.
use Rattle.std.specs.Prelude.{ℕ, ◌+◌, ◌-◌, ◌*◌, ◌≤◌, ◌<◌, ◌≡◌, refl, Bool, true, false, List, map, eqb, length, get_or, set, replicate, if◌then◌else◌}
use Rattle.std.proofs.Common.{sym, ap, ◌∙◌, arith, lit<, get_or-set_same, get_or-set_other, eqb-true}
use Rattle.std.proofs.lemmas.List.{get_or-replicate}
use Rattle.std.proofs.lemmas.Bool.{eqb-false}
use Rattle.lists.specs.Words.{each}
use Rattle.lists.specs.Stores.{stores_other, stores-next, stores_same}
use Rattle.lists.specs.Lines.{line_at}
use Rattle.lists.specs.Rows.{over_rows, Unused}
use Rattle.lists.specs.RowsLaws.{all_used, rows-changed, each_map}
use Rattle.rules.specs.Tables.{Request, idle}
use Rattle.rules.specs.Events.{smallest, shifted, shifted_next, adjusted}
use Rattle.rules.specs.declared.Gate.{Gate}
use Rattle.table.specs.Columns.{SNEXT, guest_wide, GUEST, STAG, waiting_wide, most_guests, waiting_at}
use Rattle.table.specs.View.{guest_form, request_form, guests_of, waiting_of, table_of}
use Rattle.table.specs.ViewLaws.{guest_exact, request_exact}
use Rattle.walks.specs.Survey.{idle_in, tag_of}
use Rattle.walks.specs.SurveyLaws.{idle-none, idle-same, idle_not}
use Rattle.shares.specs.Shares.{Marked, next_of, moved_tags, moved_unless, moved_nexts}

-- THE MARKS, a row to a turn

module _ (ws before : List ℕ) where
  -- before the first row nothing is marked
  pub marked_none : Marked ws 0 before before
  marked_none g h = rw (idle-none ws g)

  -- the guest of row k is marked
  pub marked_next : (k : ℕ) (marks : List ℕ) → most_guests ≤ length marks → waiting_at ws k GUEST < most_guests → Marked ws k before marks → Marked ws (k + 1) before (set marks (waiting_at ws k GUEST) 1)
  marked_next k marks size low m g h = go (eqb (waiting_at ws k GUEST) g) refl
    where
      go : (b : Bool) → eqb (waiting_at ws k GUEST) g ≡ b → get_or (set marks (waiting_at ws k GUEST) 1) g 0 ≡ (if idle_in ws (k + 1) g then get_or before g 0 else 1)
      go true e =
          let q : waiting_at ws k GUEST ≡ g = eqb-true (waiting_at ws k GUEST) g e in
          rw (idle_not ws g k q, q) (get_or-set_same marks g 1 0 (omega arith))
      go false e =
          let q = eqb-false (waiting_at ws k GUEST) g e in
          rw (idle-same ws g k q) (get_or-set_other marks (waiting_at ws k GUEST) g 1 0 (λ i. q (sym i)) ∙ m g h)

-- marks that were all 0 tell who is idle
pub marked_idle : (ws marks : List ℕ) (n : ℕ) → Marked ws n (replicate most_guests 0) marks → (g : ℕ) → g < most_guests → eqb (get_or marks g 0) 0 ≡ idle_in ws n g
marked_idle ws marks n m g h =
    ap (λ (x : ℕ). eqb x 0) (m g h ∙ ap (λ (x : ℕ). if idle_in ws n g then x else 1) (get_or-replicate most_guests g 0 0 h))
    ∙ elim (idle_in ws n g) as (λ b. eqb (if b then 0 else 1) 0 ≡ b) [ true ↦ refl | false ↦ refl ]

-- EVERY SHARE TAG, a row to a turn

module _ (time m : ℕ) (ws w : List ℕ) (k : ℕ) (so : w ≡ moved_tags time m ws k) where
  -- the row of the turn is as it was
  pub tags-row : (j : ℕ) → waiting_at w k j ≡ waiting_at ws k j
  tags-row j = ap (λ (v : List ℕ). waiting_at v k j) so ∙ stores_other (λ k. k * waiting_wide + STAG) (λ k. tag_of ws k + time - m) ws k (k * waiting_wide + j) (λ i l e. omega arith)

  -- the store of the turn makes one row more
  pub tags-next : (x : ℕ) → x ≡ tag_of w k + time - m → set w (k * waiting_wide + STAG) x ≡ moved_tags time m ws (k + 1)
  tags-next x e = stores-next (λ k. k * waiting_wide + STAG) (λ k. tag_of ws k + time - m) ws w k (k * waiting_wide + STAG) x so refl (e ∙ ap (λ (x : ℕ). x + time - m) (tags-row STAG))

-- THE NEXT SHARE NUMBERS, a guest to a turn

module _ (time m : ℕ) (idle : ℕ → Bool) (gs w : List ℕ) (k : ℕ) (so : w ≡ moved_nexts time m idle gs k) where
  -- the guest of the turn is as it was
  pub nexts_read : next_of w k ≡ next_of gs k
  nexts_read = ap (λ (v : List ℕ). next_of v k) so ∙ stores_other (λ k. k * guest_wide + SNEXT) (λ k. moved_unless (idle k) time m (next_of gs k)) gs k (k * guest_wide + SNEXT) (λ i l e. omega arith)

  -- the store of the turn makes one guest more
  pub nexts_next : (x : ℕ) → x ≡ moved_unless (idle k) time m (next_of w k) → set w (k * guest_wide + SNEXT) x ≡ moved_nexts time m idle gs (k + 1)
  nexts_next x e = stores-next (λ k. k * guest_wide + SNEXT) (λ k. moved_unless (idle k) time m (next_of gs k)) gs w k (k * guest_wide + SNEXT) x so refl (e ∙ ap (moved_unless (idle k) time m) nexts_read)

-- who is idle is read from the marks
pub nexts_marked : (time m : ℕ) (ws : List ℕ) (count : ℕ) (marks : List ℕ) → Marked ws count (replicate most_guests 0) marks → (gs w : List ℕ) (n : ℕ) → n ≤ most_guests
    → w ≡ moved_nexts time m (λ g. eqb (get_or marks g 0) 0) gs n → w ≡ moved_nexts time m (idle_in ws count) gs n
nexts_marked time m ws count marks h gs w n fit e =
    e
    ∙ stores_same (λ k. k * guest_wide + SNEXT) (λ k. moved_unless (eqb (get_or marks k 0) 0) time m (next_of gs k)) (λ k. moved_unless (idle_in ws count k) time m (next_of gs k)) gs n
    (λ g l. ap (λ (b : Bool). moved_unless b time m (next_of gs g)) (marked_idle ws marks count h g (omega arith)))

-- THE MOVES as tables

-- every waiting share tag moves
pub tags-over : (cap n : ℕ) (ws : List ℕ) → cap * waiting_wide ≤ length ws → n ≤ cap → Unused request_form cap n ws → (time m : ℕ)
    → moved_tags time m ws n ≡ over_rows request_form cap (map (shifted time m) (waiting_of ws n)) ws
unfolding shifted
tags-over cap n ws room fit unused time m =
    rows-changed request_form request_exact cap n ws room fit unused STAG (lit< tt) (λ k. tag_of ws k + time - m) (λ k q. shifted time m q) (λ k l. refl)
    ∙ ap (λ (l : List Request). over_rows request_form cap l ws) (each_map (shifted time m) 0 (waiting_of ws n))

-- the next share number of every guest that is not idle moves
pub nexts_over : (n : ℕ) (gs : List ℕ) → n * guest_wide ≤ length gs → (time m : ℕ) (idle : ℕ → Bool)
    → moved_nexts time m idle gs n ≡ over_rows guest_form n (each (λ i h. if idle i then h else shifted_next time m h) 0 (guests_of gs n)) gs
unfolding shifted_next
nexts_over n gs room time m idle =
    rows-changed guest_form guest_exact n n gs room (omega arith) (all_used guest_form guest_exact n gs) SNEXT (lit< tt)
    (λ k. moved_unless (idle k) time m (next_of gs k)) (λ i h. if idle i then h else shifted_next time m h)
    (λ k l.
    elim (idle k) as
    (λ b. set (line_at guest_wide gs k) SNEXT (moved_unless b time m (next_of gs k)) ≡ guest_form.line (if b then guest_form.read (line_at guest_wide gs k) else shifted_next time m (guest_form.read (line_at guest_wide gs k))))
    [ true ↦ refl | false ↦ refl ])

-- the two exits of the settling are the settled table, written over what was lent
pub adjusted_is : (g : Gate) (gs ws fs : List ℕ) (time : ℕ) → g.guests * guest_wide ≤ length gs → g.setup.capacity * waiting_wide ≤ length ws → g.waiting ≤ g.setup.capacity → Unused request_form g.setup.capacity g.waiting ws
    → (moved_nexts time (smallest (table_of g gs ws fs)) (idle_in ws g.waiting) gs g.guests ≡ over_rows guest_form g.guests (adjusted true time (table_of g gs ws fs)).guests gs)
    × (moved_tags time (smallest (table_of g gs ws fs)) ws g.waiting ≡ over_rows request_form g.setup.capacity (adjusted true time (table_of g gs ws fs)).waiting ws)
unfolding adjusted idle
adjusted_is g gs ws fs time guests waiting fit unused = (
  nexts_over g.guests gs guests time (smallest (table_of g gs ws fs)) (idle_in ws g.waiting),
  tags-over g.setup.capacity g.waiting ws waiting fit unused time (smallest (table_of g gs ws fs)),
)
