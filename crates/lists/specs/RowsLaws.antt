-- The laws of entries as rows, once for every form: what is written is read again, and which stores write entries.
-- Assumes nothing.
use Prim.Native.Nat.{ℕ, zero, suc, ◌+◌, ◌*◌, ◌≤◌, ◌<◌}
use Rattle.std.specs.Prelude.{◌≡◌, refl, length}
use Rattle.std.proofs.Math.Path.{sym, ap}
use Rattle.std.proofs.Common.{◌∙◌, subst, arith, length-set, get_or-set_same, set-set}
use mathlib.Core.List.{List, [], ◌∷◌, ◌++◌, map}
use Rattle.std.proofs.Math.ListN.{get_or, set, length-map, get_or-map}
use Rattle.lists.specs.Words.{each}
use Rattle.lists.specs.WordsLaws.{map-append}
use Rattle.lists.specs.Tab.{tab, map-tab, tab_ext, tab_snoc, remove_at}
use Rattle.lists.specs.Stores.{stores}
use Rattle.lists.specs.Parts.{shut}
use Rattle.lists.specs.Lines.{line_at, lines_of, over}
use Rattle.lists.specs.LinesLaws.{length-lines, line_is, lines-over, length_over, over-over, over_tidy, full_tidy, shut-over, added-over, changed-over, put-over}
use Rattle.lists.specs.Rows.{Form, rows_of, over_rows, Unused, Exact}

-- MAPS

-- a list without one entry, changed
pub map-remove_at : {A B : Type 0} (f : A → B) (i : ℕ) (l : List A) → map f (remove_at i l) ≡ remove_at i (map f l)
map-remove_at f i [] = refl
map-remove_at f zero (x ∷ l) = refl
map-remove_at f (suc i) (x ∷ l) = ap (f x ∷◌) (map-remove_at f i l)

-- a list with one more entry at its end, changed
pub map_snoc : {A B : Type 0} (f : A → B) (l : List A) (a : A) → map f (l ++ (a ∷ [])) ≡ map f l ++ (f a ∷ [])
map_snoc f l a = map-append f l (a ∷ [])

-- a list with one entry replaced, changed
pub map-set : {A B : Type 0} (f : A → B) (l : List A) (i : ℕ) (a : A) → map f (set l i a) ≡ set (map f l) i (f a)
map-set f [] i a = refl
map-set f (x ∷ l) zero a = refl
map-set f (x ∷ l) (suc i) a = ap (f x ∷◌) (map-set f l i a)

-- a change by places of a list that is given by a function of the place
pub each-tab : {A B : Type 0} (f : ℕ → A → B) (i n : ℕ) (h : ℕ → A) → each f i (tab n h) ≡ tab n (λ k. f (i + k) (h k))
each-tab f i zero h = refl
each-tab f i (suc n) h =
    let head : f i (h zero) ≡ f (i + zero) (h zero) = ap (λ (j : ℕ). f j (h zero)) (omega arith) in
    let tail : each f (suc i) (tab n (λ k. h (suc k))) ≡ tab n (λ k. f (i + suc k) (h (suc k))) = each-tab f (suc i) n (λ k. h (suc k)) ∙ tab_ext n (λ k. f (suc i + k) (h (suc k))) (λ k. f (i + suc k) (h (suc k))) (λ k l. ap (λ (j : ℕ). f j (h (suc k))) (omega arith)) in
    λ j. head j ∷ tail j

-- a change that does not look at the place
pub each_map : {A B : Type 0} (f : A → B) (i : ℕ) (l : List A) → each (λ j x. f x) i l ≡ map f l
each_map f i [] = refl
each_map f i (x ∷ l) = ap (f x ∷◌) (each_map f (suc i) l)

-- a change and the way back
map_back : {A : Type 0} (f : List ℕ → A) (g : A → List ℕ) → ((a : A) → f (g a) ≡ a) → (l : List A) → map f (map g l) ≡ l
map_back f g h [] = refl
map_back f g h (a ∷ l) = λ i. h a i ∷ map_back f g h l i

-- every line has the width that the line of each entry has
wide_at : {A : Type 0} (g : A → List ℕ) (s : ℕ) → ((a : A) → length (g a) ≡ s) → (l : List A) (k : ℕ) → k < length (map g l) → length (get_or (map g l) k []) ≡ s
wide_at g s h [] k l = absurd (omega arith)
wide_at g s h (a ∷ r) zero l = h a
wide_at g s h (a ∷ r) (suc k) l = wide_at g s h r k (omega arith)

module _ {A : Type 0} (f : Form A) where
  -- READING

  -- n entries are read
  pub length-rows : (xs : List ℕ) (n : ℕ) → length (rows_of f xs n) ≡ n
  unfolding rows_of
  length-rows xs n = length-map (lines_of f.wide xs n) f.read ∙ length-lines f.wide xs n

  -- entry k is the one of line k
  pub row-at : (xs : List ℕ) (n k : ℕ) → k < n → get_or (rows_of f xs n) k (f.read []) ≡ f.read (line_at f.wide xs k)
  unfolding rows_of
  row-at xs n k h = get_or-map f.read (lines_of f.wide xs n) k [] ∙ ap f.read (line_is f.wide xs n k h)

  -- the entries, given by a function of the place
  pub rows-tab : (xs : List ℕ) (n : ℕ) → rows_of f xs n ≡ tab n (λ k. f.read (line_at f.wide xs k))
  unfolding rows_of lines_of
  rows-tab xs n = map-tab f.read n (line_at f.wide xs)

  -- one row more
  pub rows_snoc : (xs : List ℕ) (n : ℕ) → rows_of f xs (suc n) ≡ rows_of f xs n ++ (f.read (line_at f.wide xs n) ∷ [])
  rows_snoc xs n =
      rows-tab xs (suc n)
      ∙ tab_snoc n (λ k. f.read (line_at f.wide xs k))
      ∙ ap (◌++ (f.read (line_at f.wide xs n) ∷ [])) (sym (rows-tab xs n))

  -- entries written over a list leave it as long as it was
  pub length-over-rows : Exact f → (cap : ℕ) (l : List A) (xs : List ℕ) → length (over_rows f cap l xs) ≡ length xs
  unfolding over_rows
  length-over-rows e cap l xs = length_over f.wide cap e.some (map f.line l) xs

  module _ (e : Exact f) where
    -- the lines of the entries that are read are those that stand there
    pub rows-lines : (xs : List ℕ) (n : ℕ) → map f.line (rows_of f xs n) ≡ lines_of f.wide xs n
    unfolding lines_of
    rows-lines xs n =
        ap (map f.line) (rows-tab xs n)
        ∙ map-tab f.line n (λ k. f.read (line_at f.wide xs k))
        ∙ tab_ext n (λ k. f.line (f.read (line_at f.wide xs k))) (line_at f.wide xs) (λ k l. e.forth (λ j. get_or xs (k * f.wide + j) 0))

    -- WRITING

    -- what is written is read
    pub rows-over : (cap : ℕ) (l : List A) (xs : List ℕ) → cap * f.wide ≤ length xs → length l ≤ cap → rows_of f (over_rows f cap l xs) (length l) ≡ l
    unfolding rows_of over_rows
    rows-over cap l xs room fit =
        ap (λ (n : ℕ). map f.read (lines_of f.wide (over f.wide cap (map f.line l) xs) n)) (sym (length-map l f.line))
        ∙ ap (map f.read) (lines-over f.wide cap e.some (map f.line l) xs room (rw length-map fit) (wide_at f.line f.wide e.size l))
        ∙ map_back f.read f.line e.back l

    -- the later writing stands
    pub over_twice : (cap : ℕ) (l m : List A) (xs : List ℕ) → cap * f.wide ≤ length xs → over_rows f cap l (over_rows f cap m xs) ≡ over_rows f cap l xs
    unfolding over_rows
    over_twice cap l m xs room = over-over f.wide cap e.some (map f.line l) (map f.line m) xs room

    -- what is written leaves the unused places zero
    pub over_unused : (cap : ℕ) (l : List A) (xs : List ℕ) → cap * f.wide ≤ length xs → length l ≤ cap → Unused f cap (length l) (over_rows f cap l xs)
    unfolding over_rows
    over_unused cap l xs room fit =
        ap (λ (n : ℕ). over f.wide cap (lines_of f.wide (over f.wide cap (map f.line l) xs) n) (over f.wide cap (map f.line l) xs)) (sym (length-map l f.line))
        ∙ over_tidy f.wide cap e.some (map f.line l) xs room (rw length-map fit) (wide_at f.line f.wide e.size l)

    -- a list whose unused places are zero is its own entries written over it
    pub over-same : (cap n : ℕ) (xs : List ℕ) → Unused f cap n xs → over_rows f cap (rows_of f xs n) xs ≡ xs
    unfolding over_rows
    over-same cap n xs t = ap (λ (ls : List (List ℕ)). over f.wide cap ls xs) (rows-lines xs n) ∙ t

    -- a list with no place for more has none unused
    pub all_used : (n : ℕ) (xs : List ℕ) → Unused f n n xs
    all_used n xs = full_tidy f.wide n e.some xs

    -- STORES that write entries

    module _ (cap n : ℕ) (xs : List ℕ) (room : cap * f.wide ≤ length xs) (fit : n ≤ cap) (unused : Unused f cap n xs) where
      -- an entry is taken out, and those behind it close up
      pub row_out : (place : ℕ) → place < n → shut f.wide (place * f.wide) (n * f.wide) xs ≡ over_rows f cap (remove_at place (rows_of f xs n)) xs
      unfolding over_rows
      row_out place here =
          shut-over f.wide cap n e.some xs room fit unused place here
          ∙ ap (λ (ls : List (List ℕ)). over f.wide cap ls xs) (ap (remove_at place) (sym (rows-lines xs n)) ∙ sym (map-remove_at f.line place (rows_of f xs n)))

      -- an entry is added at the end
      pub row_in : (a : A) → n < cap → stores (λ j. n * f.wide + j) (λ j. get_or (f.line a) j 0) f.wide xs ≡ over_rows f cap (rows_of f xs n ++ (a ∷ [])) xs
      unfolding over_rows
      row_in a free =
          added-over f.wide cap n e.some xs room fit unused (f.line a) (e.size a) free
          ∙ ap (λ (ls : List (List ℕ)). over f.wide cap ls xs)
          (ap (λ (ls : List (List ℕ)). ls ++ (f.line a ∷ [])) (sym (rows-lines xs n)) ∙ sym (map_snoc f.line (rows_of f xs n) a))

      -- one number of every entry is changed
      pub rows-changed : (field : ℕ) → field < f.wide → (value : ℕ → ℕ) (change : ℕ → A → A)
          → ((k : ℕ) → k < n → set (line_at f.wide xs k) field (value k) ≡ f.line (change k (f.read (line_at f.wide xs k))))
          → stores (λ k. k * f.wide + field) value n xs ≡ over_rows f cap (each change 0 (rows_of f xs n)) xs
      unfolding over_rows
      rows-changed field inside value change one =
          changed-over f.wide cap n e.some xs room fit unused field inside value
          ∙ ap (λ (ls : List (List ℕ)). over f.wide cap ls xs)
          (tab_ext n (λ k. set (line_at f.wide xs k) field (value k)) (λ k. f.line (change (0 + k) (r k))) (λ k l. one k l ∙ ap (λ (j : ℕ). f.line (change j (r k))) (omega arith))
          ∙ sym
          (ap (λ (l : List A). map f.line (each change 0 l)) (rows-tab xs n)
          ∙ ap (map f.line) (each-tab change 0 n r)
          ∙ map-tab f.line n (λ k. change (0 + k) (r k))))
        where
          r : ℕ → A
          r k = f.read (line_at f.wide xs k)

      -- one number of one entry is changed
      pub row_put : (g field v : ℕ) (a : A) → g < n → field < f.wide → f.line a ≡ set (line_at f.wide xs g) field v → set xs (g * f.wide + field) v ≡ over_rows f cap (set (rows_of f xs n) g a) xs
      unfolding over_rows
      row_put g field v a known inside new =
          put-over f.wide cap n e.some xs room fit unused g field v known inside
          ∙ ap (λ (ls : List (List ℕ)). over f.wide cap ls xs)
          (ap (λ (ls : List (List ℕ)). set ls g (set (line_at f.wide xs g) field v)) (sym (rows-lines xs n))
          ∙ ap (set (map f.line (rows_of f xs n)) g) (sym new)
          ∙ sym (map-set f.line (rows_of f xs n) g a))

      -- and one more number of it
      pub row-put-again : (ys : List ℕ) (g field v : ℕ) (b a : A) → g < n → field < f.wide → ys ≡ over_rows f cap (set (rows_of f xs n) g b) xs → f.line a ≡ set (f.line b) field v
          → set ys (g * f.wide + field) v ≡ over_rows f cap (set (rows_of f xs n) g a) xs
      unfolding over_rows
      row-put-again ys g field v b a known inside old new = again
        where
          l : List A
          l = set (rows_of f xs n) g b

          long : length l ≡ n
          long = length-set (rows_of f xs n) g b ∙ length-rows xs n

          long_ys : cap * f.wide ≤ length ys
          long_ys = omega (arith, ap length old, length-over-rows e cap l xs)

          back : rows_of f ys n ≡ l
          back = ap (λ (m : ℕ). rows_of f ys m) (sym long) ∙ ap (λ (zs : List ℕ). rows_of f zs (length l)) old ∙ rows-over cap l xs room (omega (arith, long))

          clean : Unused f cap n ys
          clean = subst (λ (m : ℕ). Unused f cap m ys) long (subst (λ (zs : List ℕ). Unused f cap (length l) zs) (sym old) (over_unused cap l xs room (omega (arith, long))))

          here : line_at f.wide ys g ≡ f.line b
          here =
              sym (line_is f.wide ys n g known) ∙ ap (λ (ls : List (List ℕ)). get_or ls g []) (sym (rows-lines ys n) ∙ ap (map f.line) back ∙ map-set f.line (rows_of f xs n) g b)
              ∙ get_or-set_same (map f.line (rows_of f xs n)) g (f.line b) [] (omega (arith, length-map (rows_of f xs n) f.line, length-rows xs n))

          again : set ys (g * f.wide + field) v ≡ over_rows f cap (set (rows_of f xs n) g a) xs
          again =
              put-over f.wide cap n e.some ys long_ys fit clean g field v known inside
              ∙ ap (λ (ls : List (List ℕ)). over f.wide cap (set ls g (set (line_at f.wide ys g) field v)) ys) (sym (rows-lines ys n) ∙ ap (map f.line) back)
              ∙ ap (λ (m : List ℕ). over f.wide cap (set (map f.line l) g (set m field v)) ys) here
              ∙ ap (λ (m : List ℕ). over f.wide cap (set (map f.line l) g m) ys) (sym new)
              ∙ ap (λ (ls : List (List ℕ)). over f.wide cap ls ys) (sym (map-set f.line l g a) ∙ ap (map f.line) (set-set (rows_of f xs n) g b a))
              ∙ ap (over_rows f cap (set (rows_of f xs n) g a)) old
              ∙ over_twice cap (set (rows_of f xs n) g a) l xs room
