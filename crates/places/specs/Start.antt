-- One turn of the pass that gives each guest its settings at opening.
-- Assumes nothing.
use Rattle.std.specs.Prelude.{ℕ, ◌+◌, ◌*◌, ◌≤◌, ◌≡◌, List, map, length, get_or}
use Rattle.std.proofs.Math.Path.{sym}
use Rattle.std.proofs.Common.{ap, ◌∙◌, add-one}
use Rattle.std.proofs.lemmas.List.{length-map}
use Rattle.lists.specs.Stores.{stores}
use Rattle.lists.specs.Lines.{line_at, lines_of}
use Rattle.lists.specs.Rows.{rows_of, over_rows}
use Rattle.lists.specs.RowsLaws.{length-rows, rows_snoc, map_snoc, over-same, all_used}
use Rattle.lists.specs.FillLaws.{row_next}
use Rattle.rules.specs.declared.Guest.{Guest}
use Rattle.rules.specs.Run.{newcomer}
use Rattle.table.specs.Columns.{guest_wide, settings_wide}
use Rattle.table.specs.View.{settings_form, guest_form}
use Rattle.table.specs.ViewLaws.{guest_exact}
use Rattle.moves.specs.Moves.{started}

module _ (ss gs : List ℕ) where
  -- before the first turn
  pub started_none : gs ≡ started ss 0 gs
  unfolding rows_of lines_of
  started_none = sym (over-same guest_form guest_exact 0 0 gs (all_used guest_form guest_exact 0 gs))

  -- the guest that turn i writes
  abbrev pub new_guest : ℕ → Guest
  new_guest i = newcomer (settings_form.read (line_at settings_wide ss i))

  -- the stores of turn i make one guest more
  pub started-next : (w : List ℕ) (i : ℕ) → w ≡ started ss i gs → i * guest_wide + guest_wide ≤ length gs → stores (λ j. i * guest_wide + j) (λ j. get_or (guest_form.line (new_guest i)) j 0) guest_wide w ≡ started ss (i + 1) gs
  started-next w i e room =
      let l : List Guest = map newcomer (rows_of settings_form ss i) in
      ap (stores (λ j. i * guest_wide + j) (λ j. get_or (guest_form.line (new_guest i)) j 0) guest_wide) e
      ∙ row_next guest_form guest_exact i l (new_guest i) gs (length-map (rows_of settings_form ss i) newcomer ∙ length-rows settings_form ss i) room
      ∙ ap (λ (m : List Guest). over_rows guest_form (i + 1) m gs)
      (sym (ap (map newcomer) (ap (rows_of settings_form ss) (add-one i) ∙ rows_snoc settings_form ss i) ∙ map_snoc newcomer (rows_of settings_form ss i) (settings_form.read (line_at settings_wide ss i))))
