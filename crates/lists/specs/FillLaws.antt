-- Rows written one after another from the front, and rows cleared. Assumes nothing.
use Rattle.std.specs.Prelude.{ℕ, suc, ◌+◌, ◌*◌, ◌≤◌, ◌<◌, ◌≡◌, length}
use Rattle.std.proofs.Common.{sym, ◌∙◌, add-one}
use Rattle.std.proofs.Math.Path.{ap}
use mathlib.Core.List.{List, [], ◌∷◌, ◌++◌, map}
use Rattle.std.proofs.Math.Logic.{⊎_elim}
use Rattle.std.proofs.Math.Nat.{suc-mul}
use native.Mathlib.Omega.{arith}
use Rattle.std.proofs.Math.ListN.{get_or, get_or-append}
use Rattle.std.proofs.lemmas.List.{length-map}
use Rattle.std.proofs.Math.Seq.{get_or-append_seam}
use Rattle.lists.specs.Tab.{lt_or_le}
use Rattle.lists.specs.Stores.{stores, length-stores, stores_other, stores_at}
use Rattle.lists.specs.Parts.{zeros}
use Rattle.lists.specs.Lines.{over}
use Rattle.lists.specs.LinesLaws.{in_line_lem, apart, length_over, over-at, over_past, is_over}
use Rattle.lists.specs.Rows.{Form, over_rows, Exact}
use Rattle.lists.specs.RowsLaws.{map_snoc}

-- n lines stand in front, and the next one is stored
module _ (s n : ℕ) (some : 0 < s) (ls : List (List ℕ)) (size : length ls ≡ n) (v : List ℕ) (wide : length v ≡ s) (xs : List ℕ) (room : suc n * s ≤ length xs) where
  -- the list with the n lines in front
  before : List ℕ
  before = over s n ls xs

  -- and with the next line stored behind them
  after : List ℕ
  after = stores (λ j. n * s + j) (λ j. get_or v j 0) s before

  -- where the next line ends
  past : suc n * s ≡ n * s + s
  past = suc-mul n s

  -- the lines in front change no length
  long : length before ≡ length xs
  unfolding before
  long = length_over s n some ls xs

  -- outside the next line the store changes nothing
  other : (i : ℕ) → ((j : ℕ) → j < s → i ≡ n * s + j → ⊥) → get_or after i 0 ≡ get_or before i 0
  unfolding after
  other i h = stores_other (λ j. n * s + j) (λ j. get_or v j 0) before s i h

  -- each number of the first n + 1 lines stands where the lines have it
  line : (k j : ℕ) → k < suc n → j < s → get_or after (k * s + j) 0 ≡ get_or (get_or (ls ++ (v ∷ [])) k []) j 0
  unfolding before after
  line k j h l =
      ⊎_elim
      (λ m.
      other (k * s + j) (λ i b e. apart s k n j i m l e)
      ∙ over-at s n some ls xs (omega (arith, past)) k j m l
      ∙ ap (λ (w : List ℕ). get_or w j 0) (sym (get_or-append ls (v ∷ []) [] k (omega arith))))
      (λ m.
      let e : k ≡ n = omega arith in
      rw e
      (stores_at (λ j. n * s + j) (λ j. get_or v j 0) before (λ a b m e. omega arith) s j l (omega (arith, long, past))
      ∙ ap (λ (w : List ℕ). get_or w j 0) (sym (ap (λ (i : ℕ). get_or (ls ++ (v ∷ [])) i []) (sym size) ∙ get_or-append_seam ls v [] []))))
      (lt_or_le k n)

  -- then n + 1 lines stand in front
  pub next-over : stores (λ j. n * s + j) (λ j. get_or v j 0) s (over s n ls xs) ≡ over s (suc n) (ls ++ (v ∷ [])) xs
  unfolding before after
  next-over =
      is_over s (suc n) some (ls ++ (v ∷ [])) xs after (length-stores (λ j. n * s + j) (λ j. get_or v j 0) before s ∙ long) line
      (λ i h. other i (λ j l e. omega (arith, past)) ∙ over_past s n some ls xs i (omega (arith, past)))

-- zeros in the first cap lines leave no line
pub zeros-over : (s cap : ℕ) → 0 < s → (xs : List ℕ) → cap * s ≤ length xs → zeros xs (cap * s) ≡ over s cap [] xs
zeros-over s cap some xs room =
    is_over s cap some [] xs (zeros xs (cap * s)) (length-stores (λ k. k) (λ k. 0) xs (cap * s))
    (λ k j h l.
    stores_at (λ k. k) (λ k. 0) xs (λ a b m e. omega arith) (cap * s) (k * s + j) (in_line_lem s k cap j h l) (omega (arith, in_line_lem s k cap j h l)))
    (λ i h. stores_other (λ k. k) (λ k. 0) xs (cap * s) i (λ k l e. omega arith))

module _ {A : Type 0} (f : Form A) where
  module _ (e : Exact f) where
    -- n entries stand in front, and one more is written behind them
    pub row_next : (n : ℕ) (l : List A) (a : A) (xs : List ℕ) → length l ≡ n → n * f.wide + f.wide ≤ length xs
        → stores (λ j. n * f.wide + j) (λ j. get_or (f.line a) j 0) f.wide (over_rows f n l xs) ≡ over_rows f (n + 1) (l ++ (a ∷ [])) xs
    unfolding over_rows
    row_next n l a xs size room =
        next-over f.wide n e.some (map f.line l) (length-map l f.line ∙ size) (f.line a) (e.size a) xs (omega (arith, suc-mul n f.wide))
        ∙ ap (λ (ls : List (List ℕ)). over f.wide (suc n) ls xs) (sym (map_snoc f.line l a))
        ∙ ap (λ (m : ℕ). over f.wide m (map f.line (l ++ (a ∷ []))) xs) (sym (add-one n))

    -- zeros in the first cap rows leave no entry
    pub rows_cleared : (cap : ℕ) (xs : List ℕ) → cap * f.wide ≤ length xs → zeros xs (cap * f.wide) ≡ over_rows f cap [] xs
    unfolding over_rows
    rows_cleared cap xs room = zeros-over f.wide cap e.some xs room
