-- What the next numbers after an arrival show: the guests of the definition `placed`.
-- Assumes nothing.
use Rattle.std.specs.Prelude.{ℕ, ◌+◌, ◌*◌, ◌≤◌, ◌<◌, ◌≡◌, refl, List, length, set}
use Rattle.std.proofs.Common.{sym, ap, ◌∙◌, arith, lit<}
use Rattle.lists.specs.Lines.{line_at}
use Rattle.lists.specs.Rows.{over_rows}
use Rattle.lists.specs.RowsLaws.{row-at, row_put, row-put-again, all_used}
use Rattle.rules.specs.Tables.{Request, owner}
use Rattle.rules.specs.declared.Guest.{Guest}
use Rattle.rules.specs.Events.{following}
use Rattle.table.specs.Columns.{RNEXT, LNEXT, SNEXT, guest_wide}
use Rattle.table.specs.View.{guest_form, guests_of}
use Rattle.table.specs.ViewLaws.{guest_exact}
use Rattle.moves.specs.Moves.{followed}

-- the guest whose request q is follows it
pub followed_is : (n : ℕ) (gs : List ℕ) (q : Request) → n * guest_wide ≤ length gs → q.guest < n
    → followed q.guest q.rtag q.ltag q.stag q.cost gs ≡ over_rows guest_form n (set (guests_of gs n) q.guest (following q (owner (guests_of gs n) q.guest))) gs
unfolding following
followed_is n gs q room known = third ∙ ap (λ (h : Guest). over_rows guest_form n (set (guests_of gs n) g (following q h)) gs) (sym (row-at guest_form gs n g known))
  where
    g : ℕ
    g = q.guest

    -- the guest before, and once one or two of its next numbers are stored
    old : Guest
    old = guest_form.read (line_at guest_wide gs g)

    new : Guest
    new = following q old

    one : Guest
    one = record { settings = old.settings; rnext = new.rnext; lnext = old.lnext; snext = old.snext }

    two : Guest
    two = record { settings = old.settings; rnext = new.rnext; lnext = new.lnext; snext = old.snext }

    first : set gs (g * guest_wide + RNEXT) new.rnext ≡ over_rows guest_form n (set (guests_of gs n) g one) gs
    first = row_put guest_form guest_exact n n gs room (omega arith) (all_used guest_form guest_exact n gs) g RNEXT new.rnext one known (lit< tt) refl

    second : set (set gs (g * guest_wide + RNEXT) new.rnext) (g * guest_wide + LNEXT) new.lnext ≡ over_rows guest_form n (set (guests_of gs n) g two) gs
    second = row-put-again guest_form guest_exact n n gs room (omega arith) (all_used guest_form guest_exact n gs) (set gs (g * guest_wide + RNEXT) new.rnext) g LNEXT new.lnext one two known (lit< tt) first refl

    third : followed g q.rtag q.ltag q.stag q.cost gs ≡ over_rows guest_form n (set (guests_of gs n) g new) gs
    third = row-put-again guest_form guest_exact n n gs room (omega arith) (all_used guest_form guest_exact n gs) (set (set gs (g * guest_wide + RNEXT) new.rnext) (g * guest_wide + LNEXT) new.lnext) g SNEXT new.snext two new known (lit< tt) second refl
