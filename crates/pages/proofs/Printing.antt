-- The lines of the figures, as the functions that put them go: number by number, and guest by guest. Assumes nothing.
use Prim.Native.Nat.{ℕ, suc, ◌+◌, ◌-◌, ◌/◌, ◌%◌, ◌^◌, ◌<◌}
use mathlib.Core.Path.{◌≡◌, refl, sym, ap, ◌∙◌}
use mathlib.Core.List.{List, [], ◌∷◌, ◌++◌, append_assoc, append-nil}
use native.Mathlib.Omega.{arith}
use native.Mathlib.Nat.{add-zero, zero-add}
use native.Mathlib.Numerals.{add-one}
use lib.ListN.{length}
use Rattle.lists.specs.Tab.{tab, length-tab, tab_snoc}
use Rattle.lines.specs.Line.{decimal_of, spaced}
use Rattle.lines.specs.Put.{Put}
use Rattle.lines.proofs.LineLaws.{spaced-append}
use Rattle.lines.proofs.PutLaws.{puts, put_as}
use Rattle.book.specs.Figures.{Figures}
use Rattle.tally.specs.Columns.{ARRIVALS, COMPLETIONS, RESERVED, WEIGHED, AHEAD, UPPER, LOWER, LONGEST, figure_at}
use Rattle.tally.specs.Kept.{figures_in, figures_of}
use Rattle.pages.specs.Sheet.{values, figures_line, figures_lines}

-- a number behind others
pub value_behind : {at r s : ℕ} {ys zs vs : List ℕ} (xs : List ℕ) (v : ℕ) → Put at (spaced xs) ys r zs → Put r (spaced (v ∷ [])) zs s vs → Put at (spaced (xs ++ (v ∷ []))) ys s vs
value_behind xs v p q = put_as (spaced-append xs (v ∷ [])) (puts p q)

-- THE LINE OF A GUEST

module _ (fg : List ℕ) (k : ℕ) (small : figure_at fg k LOWER < 2 ^ 64) where
  -- what stands in a row as upper and lower number is the sum's
  upper_is : (figures_in fg k).summed / 2 ^ 64 ≡ figure_at fg k UPPER
  upper_is = omega arith

  lower_is : (figures_in fg k).summed % 2 ^ 64 ≡ figure_at fg k LOWER
  lower_is = omega arith

  -- the first five numbers behind the guest's own
  abbrev pub ones : List ℕ
  ones = figure_at fg k ARRIVALS ∷ figure_at fg k COMPLETIONS ∷ figure_at fg k RESERVED ∷ figure_at fg k WEIGHED ∷ figure_at fg k AHEAD ∷ []

  -- and the other five
  abbrev pub others : List ℕ
  others =
      figure_at fg k LONGEST ∷ figure_at fg k UPPER ∷ figure_at fg k LOWER ∷ (figure_at fg k ARRIVALS - (figure_at fg k RESERVED + figure_at fg k WEIGHED))
      ∷ (figure_at fg k RESERVED + figure_at fg k WEIGHED - figure_at fg k COMPLETIONS) ∷ []

  values_are : values (figures_in fg k) ≡ ones ++ others
  values_are = rw (upper_is, lower_is)

  -- the guest's number, ten numbers and byte 10 are its line
  pub line-put : {at a b c r : ℕ} {ys zs us vs ws : List ℕ} → Put at (decimal_of k) ys a zs → Put a (spaced ones) zs b us → Put b (spaced others) us c vs → Put c (10 ∷ []) vs r ws
      → Put at (figures_line k (figures_in fg k)) ys r ws
  unfolding figures_line
  line-put o p q l =
      put_as
      (ap (λ (xs : List ℕ). decimal_of k ++ (spaced xs ++ (10 ∷ []))) values_are
      ∙ ap (λ (xs : List ℕ). decimal_of k ++ (xs ++ (10 ∷ []))) (spaced-append ones others))
      (puts o (puts (puts p q) l))

-- A LINE FOR EACH GUEST

lines-append : (n : ℕ) (xs ys : List Figures) → figures_lines n (xs ++ ys) ≡ figures_lines n xs ++ figures_lines (n + length xs) ys
unfolding figures_lines
lines-append n [] ys = rw add-zero
lines-append n (x ∷ xs) ys =
    let e : n + 1 + length xs ≡ n + suc (length xs) = omega arith in
    ap (λ (l : List ℕ). figures_line n x ++ l) (lines-append (n + 1) xs ys ∙ ap (λ (k : ℕ). figures_lines (n + 1) xs ++ figures_lines k ys) e)
    ∙ sym (append_assoc (figures_line n x) (figures_lines (n + 1) xs) (figures_lines (n + suc (length xs)) ys))

-- one guest more
lines_more : (fg : List ℕ) (k : ℕ) → figures_lines 0 (figures_of fg (k + 1)) ≡ figures_lines 0 (figures_of fg k) ++ figures_line k (figures_in fg k)
unfolding figures_lines
lines_more fg k =
    ap (λ (j : ℕ). figures_lines 0 (tab j (figures_in fg))) (add-one k)
    ∙ ap (figures_lines 0) (tab_snoc k (figures_in fg))
    ∙ lines-append 0 (tab k (figures_in fg)) (figures_in fg k ∷ [])
    ∙ ap (λ (j : ℕ). figures_lines 0 (tab k (figures_in fg)) ++ (figures_line j (figures_in fg k) ++ [])) (zero-add (length (tab k (figures_in fg))) ∙ length-tab k (figures_in fg))
    ∙ ap (λ (l : List ℕ). figures_lines 0 (tab k (figures_in fg)) ++ l) (append-nil (figures_line k (figures_in fg k)))

module _ (fg out : List ℕ) where
  -- no line yet
  pub lines_none : Put 0 (figures_lines 0 (figures_of fg 0)) out 0 out
  unfolding figures_lines
  lines_none = record { next = refl; bytes = refl }

  -- one line more
  pub lines_next : {at r : ℕ} {us vs : List ℕ} (k : ℕ) → Put 0 (figures_lines 0 (figures_of fg k)) out at us → Put at (figures_line k (figures_in fg k)) us r vs
      → Put 0 (figures_lines 0 (figures_of fg (k + 1))) out r vs
  lines_next k p q = put_as (lines_more fg k) (puts p q)
