-- Entries of any kind as rows of numbers in a lent list: read from it, and written over it.
use Rattle.std.specs.Prelude.{ℕ, ◌<◌, ◌≡◌, List, map, length}
use Rattle.lists.specs.Tab.{tab}
use Rattle.lists.specs.Lines.{lines_of, over, Tidy}

-- how an entry stands in a row: how many numbers it has, the entry of a row, and the row of an entry
pub record Form (A : Type 0) : Type 0 where
  pub wide : ℕ
  pub read : List ℕ → A
  pub line : A → List ℕ

-- the first n entries of a lent list
unfoldable pub rows_of : {A : Type 0} → Form A → List ℕ → ℕ → List A
rows_of f xs n = map f.read (lines_of f.wide xs n)

-- the entries, then zeros up to cap rows, then what stands past them in xs
unfoldable pub over_rows : {A : Type 0} → Form A → (cap : ℕ) → List A → List ℕ → List ℕ
over_rows f cap l xs = over f.wide cap (map f.line l) xs

-- the places from row n to row cap hold zeros
abbrev pub Unused : {A : Type 0} → Form A → (cap n : ℕ) → List ℕ → Type 0
Unused f cap n xs = Tidy f.wide cap n xs

-- a row and its entry say the same
pub record Exact {A : Type 0} (f : Form A) : Type 0 where
  pub some : 0 < f.wide
  pub size : (a : A) → length (f.line a) ≡ f.wide
  pub back : (a : A) → f.read (f.line a) ≡ a
  pub forth : (v : ℕ → ℕ) → f.line (f.read (tab f.wide v)) ≡ tab f.wide v
