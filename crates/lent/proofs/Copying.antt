-- The loops that copy lent records one by one, to rows of numbers and back: what stands after i turns, from the first turn to the last. A record is
-- of any type that has a row of numbers. Assumes nothing.
use Rattle.std.proofs.Common.{◌≡◌, refl, sym, ap, ◌∙◌, ℕ, suc, ◌+◌, ◌*◌, ◌≤◌, ◌<◌, List, [], ◌∷◌, ◌++◌, length, get_or, set, take, drop, add-one, arith}
use Rattle.std.proofs.lemmas.List.{append_assoc, length-append, length-drop}
use Rattle.std.proofs.Math.Seq.{take-suc, length-take-le, drop-cons, set_at}
use Rattle.lists.specs.Stores.{stores}
use Rattle.lists.specs.Lines.{line_at, lines_of}
use Rattle.lists.specs.Rows.{Form, Exact, rows_of, over_rows}
use Rattle.lists.specs.RowsLaws.{length-rows, rows_snoc, length-over-rows, over-same, all_used}
use Rattle.lists.specs.FillLaws.{row_next}

module _ {A : Type 0} (f : Form A) (exact : Exact f) (blank : A) where
  -- RECORDS TO NUMBERS

  module _ (gs : List A) (rows : List ℕ) where
    -- the numbers once i records are in
    abbrev pub unpacked : ℕ → List ℕ
    unpacked i = over_rows f i (take i gs) rows

    -- before the first they are as they were
    pub unpacked-none : unpacked 0 ≡ rows
    unfolding rows_of lines_of
    unpacked-none = over-same f exact 0 0 rows (all_used f exact 0 rows)

    -- they are as many as before
    pub length-unpacked : (i : ℕ) → length (unpacked i) ≡ length rows
    length-unpacked i = length-over-rows f exact i (take i gs) rows

    -- one record more
    pub unpacked-next : (i : ℕ) → i < length gs → i * f.wide + f.wide ≤ length rows
        → stores (λ j. i * f.wide + j) (λ j. get_or (f.line (get_or gs i blank)) j 0) f.wide (unpacked i) ≡ unpacked (i + 1)
    unpacked-next i lt room =
        row_next f exact i (take i gs) (get_or gs i blank) rows (length-take-le i gs (omega (arith, lt))) room
        ∙ ap (λ (l : List A). over_rows f (i + 1) l rows) (sym (take-suc gs i blank lt) ∙ ap (λ (k : ℕ). take k gs) (sym (add-one i)))

    -- so a turn that reads record i and writes it into its row
    pub unpacked_turn : (before after : List ℕ) (g : A) (i : ℕ) → before ≡ unpacked i → g ≡ get_or gs i blank
        → after ≡ stores (λ j. i * f.wide + j) (λ j. get_or (f.line g) j 0) f.wide before
        → i < length gs → i * f.wide + f.wide ≤ length rows → after ≡ unpacked (i + 1)
    unpacked_turn before after g i stood read wrote lt room =
        wrote
        ∙ ap (λ (a : A). stores (λ j. i * f.wide + j) (λ j. get_or (f.line a) j 0) f.wide before) read
        ∙ ap (stores (λ j. i * f.wide + j) (λ j. get_or (f.line (get_or gs i blank)) j 0) f.wide) stood
        ∙ unpacked-next i lt room

  -- NUMBERS TO RECORDS

  module _ (rows : List ℕ) (gs : List A) where
    -- the records once i of them are back
    abbrev pub packed : ℕ → List A
    packed i = rows_of f rows i ++ drop i gs

    -- before the first they are as they were
    pub packed_none : packed 0 ≡ gs
    unfolding rows_of lines_of
    packed_none = refl

    -- they are as many as before
    pub length-packed : (i : ℕ) → i ≤ length gs → length (packed i) ≡ length gs
    length-packed i le = omega (arith, length-append (rows_of f rows i) (drop i gs), length-rows f rows i, length-drop i gs)

    -- one record more
    pub packed-next : (i : ℕ) → i < length gs → set (packed i) i (f.read (line_at f.wide rows i)) ≡ packed (i + 1)
    packed-next i lt =
        ap (λ (l : List A). set (rows_of f rows i ++ l) i next) (drop-cons gs i blank lt)
        ∙ set_at (rows_of f rows i) (get_or gs i blank) (drop (suc i) gs) next i (length-rows f rows i)
        ∙ sym (append_assoc (rows_of f rows i) (next ∷ []) (drop (suc i) gs))
        ∙ ap (λ (l : List A). l ++ drop (suc i) gs) (sym (rows_snoc f rows i))
        ∙ ap (λ (k : ℕ). rows_of f rows k ++ drop k gs) (sym (add-one i))
      where
        next : A
        next = f.read (line_at f.wide rows i)

    -- so a turn that reads row i and writes its record back
    pub packed_turn : (before after : List A) (g : A) (i : ℕ) → before ≡ packed i → g ≡ f.read (line_at f.wide rows i) → after ≡ set before i g
        → i < length gs → after ≡ packed (i + 1)
    packed_turn before after g i stood read wrote lt =
        wrote
        ∙ ap (set before i) read
        ∙ ap (λ (l : List A). set l i (f.read (line_at f.wide rows i))) stood
        ∙ packed-next i lt
