-- Two lists that are alike in their first n numbers give the same entries, and writing entries over them leaves them alike; what stands past
-- the places written stays as it was. Assumes nothing.
use Prim.Native.Nat.{ℕ, ◌+◌, ◌-◌, ◌*◌, ◌/◌, ◌%◌, min, ◌≤◌, ◌<◌}
use Rattle.std.specs.Prelude.{◌≡◌, refl, ◌⊎◌, ltb, take, drop}
use Rattle.std.proofs.Math.Path.{sym, ap}
use Rattle.std.proofs.Common.{◌∙◌, inl, inr, ⊎_elim, arith, length-take, length-drop, get_or-take, get_or-drop, take-take, ext_get_or, lt-ltb, le-ltb}
use mathlib.Core.List.{List, [], map}
use Rattle.std.proofs.Math.ListN.{length, get_or}
use Rattle.lists.specs.Tab.{tab, tab_ext, get_or-tab, length-tab, lt_or_le}
use Rattle.lists.specs.Lines.{whether, line_at, lines_of, over}
use Rattle.lists.specs.LinesLaws.{in_line_lem, length_over, over_past}
use Rattle.lists.specs.Rows.{Form, rows_of, over_rows, Exact}

-- as long as each other up to n, and the same number at each place below n
take_ext : (n : ℕ) (xs ys : List ℕ) → min n (length xs) ≡ min n (length ys) → ((i : ℕ) → i < n → i < length xs → get_or xs i 0 ≡ get_or ys i 0) → take n xs ≡ take n ys
take_ext n xs ys e h =
    ext_get_or 0 (take n xs) (take n ys) (length-take n xs ∙ e ∙ sym (length-take n ys))
    (λ i l.
    let k : i < min n (length xs) = rw length-take at l in
    get_or-take n xs i 0 (omega arith) ∙ h i (omega arith) (omega arith) ∙ sym (get_or-take n ys i 0 (omega arith)))

-- what stands past the places written is as it was
pub over_beyond : (s cap : ℕ) → 0 < s → (ls : List (List ℕ)) (xs : List ℕ) → drop (cap * s) (over s cap ls xs) ≡ drop (cap * s) xs
over_beyond s cap some ls xs =
    let size : length (over s cap ls xs) ≡ length xs = length_over s cap some ls xs in
    ext_get_or 0 (drop (cap * s) (over s cap ls xs)) (drop (cap * s) xs)
    (length-drop (cap * s) (over s cap ls xs) ∙ ap (λ (n : ℕ). n - cap * s) size ∙ sym (length-drop (cap * s) xs))
    (λ i l. get_or-drop (cap * s) (over s cap ls xs) i 0 ∙ over_past s cap some ls xs (cap * s + i) (omega arith) ∙ sym (get_or-drop (cap * s) xs i 0))

module _ (n : ℕ) (xs ys : List ℕ) (e : take n xs ≡ take n ys) where
  -- the first n numbers of both are as many
  alike_length : min n (length xs) ≡ min n (length ys)
  alike_length = sym (length-take n xs) ∙ ap length e ∙ length-take n ys

  -- each of these places holds one number
  pub alike_at : (i : ℕ) → i < n → get_or xs i 0 ≡ get_or ys i 0
  alike_at i h = sym (get_or-take n xs i 0 h) ∙ ap (λ (l : List ℕ). get_or l i 0) e ∙ get_or-take n ys i 0 h

  -- both are shorter than n, or neither is
  pub alike_short : ltb (length xs) n ≡ ltb (length ys) n
  alike_short =
      ⊎_elim
      (λ h. lt-ltb (length xs) n h ∙ sym (lt-ltb (length ys) n (omega (arith, alike_length))))
      (λ h. le-ltb (length xs) n h ∙ sym (le-ltb (length ys) n (omega (arith, alike_length))))
      (lt_or_le (length xs) n)

  -- both are as long as each other, or neither is shorter than n
  sizes : (length xs ≡ length ys) ⊎ ((n ≤ length xs) × (n ≤ length ys))
  sizes = ⊎_elim (λ h. inl (omega (arith, alike_length))) (λ h. inr (h, omega (arith, alike_length))) (lt_or_le (length xs) n)

  -- they are alike in fewer numbers too
  pub alike_fewer : (m : ℕ) → m ≤ n → take m xs ≡ take m ys
  alike_fewer m h = sym (take-take m n xs h) ∙ ap (take m) e ∙ take-take m n ys h

  -- and in a part from a
  pub alike_part : (a : ℕ) → a ≤ n → take (n - a) (drop a xs) ≡ take (n - a) (drop a ys)
  alike_part a h =
      take_ext (n - a) (drop a xs) (drop a ys)
      (rw (length-drop a xs, length-drop a ys) (⊎_elim (λ q. ap (λ (m : ℕ). min (n - a) (m - a)) q) (λ q. long (length xs) q.0 ∙ sym (long (length ys) q.1)) sizes))
      (λ i l m. get_or-drop a xs i 0 ∙ alike_at (a + i) (omega arith) ∙ sym (get_or-drop a ys i 0))
    where
      long : (m : ℕ) → n ≤ m → min (n - a) (m - a) ≡ n - a
      long m k = omega arith

module _ (s n : ℕ) (xs ys : List ℕ) (e : take (n * s) xs ≡ take (n * s) ys) where
  -- alike lists have the same lines
  pub alike_lines : lines_of s xs n ≡ lines_of s ys n
  unfolding lines_of
  alike_lines =
      tab_ext n (line_at s xs) (line_at s ys)
      (λ k h. tab_ext s (λ j. get_or xs (k * s + j) 0) (λ j. get_or ys (k * s + j) 0) (λ j l. alike_at (n * s) xs ys e (k * s + j) (in_line_lem s k n j h l)))

  -- and stay alike where lines are written over both
  pub over_alike : 0 < s → (ls : List (List ℕ)) → take (n * s) (over s n ls xs) ≡ take (n * s) (over s n ls ys)
  unfolding over
  over_alike some ls =
      take_ext (n * s) (tab (length xs) (there xs)) (tab (length ys) (there ys))
      (rw (length-tab (length xs) (there xs), length-tab (length ys) (there ys)) (alike_length (n * s) xs ys e))
      (λ i l m.
      let a : i < length xs = rw length-tab at m in
      get_or-tab (length xs) (there xs) i 0 a ∙ below xs i l ∙ sym (get_or-tab (length ys) (there ys) i 0 (omega (arith, alike_length (n * s) xs ys e)) ∙ below ys i l))
    where
      there : List ℕ → ℕ → ℕ
      there zs i = whether (ltb i (n * s)) (get_or (get_or ls (i / s) []) (i % s) 0) (get_or zs i 0)

      below : (zs : List ℕ) (i : ℕ) → i < n * s → there zs i ≡ get_or (get_or ls (i / s) []) (i % s) 0
      below zs i l = rw (lt-ltb i (n * s) l) refl

module _ {A : Type 0} (f : Form A) (n : ℕ) (xs ys : List ℕ) (e : take (n * f.wide) xs ≡ take (n * f.wide) ys) where
  -- alike lists have the same entries
  pub alike_rows : rows_of f xs n ≡ rows_of f ys n
  unfolding rows_of
  alike_rows = ap (map f.read) (alike_lines f.wide n xs ys e)

  -- and stay alike where entries are written over both
  pub rows_alike : Exact f → (l : List A) → take (n * f.wide) (over_rows f n l xs) ≡ take (n * f.wide) (over_rows f n l ys)
  unfolding over_rows
  rows_alike x l = over_alike f.wide n xs ys e x.some (map f.line l)
