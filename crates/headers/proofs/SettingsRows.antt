-- The rows that `read_settings` writes are the settings that the header has, as the opening call takes them. Assumes nothing.
use Prim.Native.Nat.{ℕ, ◌+◌, ◌*◌, ◌≤◌}
use mathlib.Core.Path.{◌≡◌, refl, sym, ap, ◌∙◌}
use mathlib.Core.List.{List}
use native.Mathlib.Numerals.{add-one}
use native.Mathlib.Omega.{arith}
use lib.Dec.{lit<}
use lib.ListN.{length, get_or}
use Rattle.lists.specs.Tab.{tab, length-tab, tab_snoc}
use Rattle.lists.specs.Stores.{stores}
use Rattle.lists.specs.Lines.{lines_of}
use Rattle.lists.specs.Rows.{rows_of, over_rows, Exact}
use Rattle.lists.specs.RowsLaws.{length-over-rows, rows-over, over-same, all_used}
use Rattle.lists.specs.FillLaws.{row_next}
use Rattle.rules.specs.declared.Settings.{Settings}
use Rattle.table.specs.Columns.{settings_wide}
use Rattle.table.specs.View.{settings_form}
use Rattle.trace.specs.Header.{settings_at}

-- the settings of a guest and their row say the same
settings_exact : Exact settings_form
settings_exact = record { some = lit< tt; size = λ a. refl; back = λ a. refl; forth = λ v. refl }

module _ (v : ℕ) (bs old : List ℕ) where
  -- the list once k guests are in
  abbrev pub filled : ℕ → List ℕ
  filled k = over_rows settings_form k (tab k (settings_at v bs)) old

  -- before the first it is as it was
  pub filled_none : filled 0 ≡ old
  unfolding rows_of lines_of
  filled_none = over-same settings_form settings_exact 0 0 old (all_used settings_form settings_exact 0 old)

  -- it is as long as before
  pub length-filled : (k : ℕ) → length (filled k) ≡ length old
  length-filled k = length-over-rows settings_form settings_exact k (tab k (settings_at v bs)) old

  -- one guest more
  pub filled_next : (k : ℕ) → k * settings_wide + settings_wide ≤ length old
      → stores (λ j. k * settings_wide + j) (λ j. get_or (settings_form.line (settings_at v bs k)) j 0) settings_wide (filled k) ≡ filled (k + 1)
  filled_next k room =
      row_next settings_form settings_exact k (tab k (settings_at v bs)) (settings_at v bs k) old (length-tab k (settings_at v bs)) room
      ∙ ap (λ (l : List Settings). over_rows settings_form (k + 1) l old) (sym (tab_snoc k (settings_at v bs)) ∙ ap (λ (n : ℕ). tab n (settings_at v bs)) (sym (add-one k)))

  -- all guests are read again
  pub settings-rows : (n : ℕ) → n * settings_wide ≤ length old → rows_of settings_form (filled n) n ≡ tab n (settings_at v bs)
  settings-rows n room =
      ap (rows_of settings_form (filled n)) (sym (length-tab n (settings_at v bs)))
      ∙ rows-over settings_form settings_exact n (tab n (settings_at v bs)) old room (omega (arith, length-tab n (settings_at v bs)))
