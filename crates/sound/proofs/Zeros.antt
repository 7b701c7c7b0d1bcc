-- Places that the test finds zero are unused in the sense of the view, and the other way round. Assumes nothing.
use Prim.Native.Nat.{ℕ, ◌+◌, ◌-◌, ◌*◌, ◌/◌, ◌%◌, ◌≤◌, ◌<◌}
use mathlib.Core.Path.{◌≡◌, refl, sym, ap, ◌∙◌}
use mathlib.Core.Bool.{true}
use mathlib.Core.List.{List}
use mathlib.Core.Logic.{⊎_elim}
use native.Mathlib.Omega.{arith}
use native.Mathlib.Nat.{mul-le-mul_right, mod-lt, div-add-mod', div-lt_iff_lt-mul, le-div_iff_mul-le}
use lib.Dec.{eqb}
use lib.ListN.{length, get_or, take, drop}
use borrow.Author.Tests.{eqb-true, eq-eqb}
use Rattle.lists.specs.WordsLaws.{all-at, places_all}
use Rattle.lists.specs.Tab.{lt_or_le}
use Rattle.lists.specs.Parts.{part_length, part_at}
use Rattle.lists.specs.Lines.{lines_of, Tidy}
use Rattle.lists.specs.LinesLaws.{in_line_lem, is_over, number_is, line-none, tidy_zero}
use Rattle.table.specs.View.{zeroed}

module _ (s cap n : ℕ) (some : 0 < s) (xs : List ℕ) (room : cap * s ≤ length xs) (fit : n ≤ cap) where
  -- the places past row n
  abbrev rest : List ℕ
  rest = take (cap * s - n * s) (drop (n * s) xs)

  -- as many as the rows past n have
  size : length rest ≡ cap * s - n * s
  size = part_length (n * s) (cap * s) xs (mul-le-mul_right s fit) room

  -- zeros leave nothing but the rows
  pub zeroed_unused : zeroed s cap n xs ≡ true → Tidy s cap n xs
  zeroed_unused h =
      sym
      (is_over s cap some (lines_of s xs n) xs xs refl
      (λ k j l m. ⊎_elim (λ b. sym (number_is s xs n k j b m)) (λ b. past k j b l m ∙ sym (ap (λ (v : List ℕ). get_or v j 0) (line-none s xs n k b))) (lt_or_le k n))
      (λ i l. refl))
    where
      past : (k j : ℕ) → n ≤ k → k < cap → j < s → get_or xs (k * s + j) 0 ≡ 0
      past k j b l m =
          let low : n * s ≤ k * s = mul-le-mul_right s b in
          let high : k * s + j < cap * s = in_line_lem s k cap j l m in
          let e : n * s + (k * s + j - n * s) ≡ k * s + j = omega arith in
          ap (λ (i : ℕ). get_or xs i 0) (sym e)
          ∙ sym (part_at (n * s) (cap * s) (k * s + j - n * s) xs (omega arith))
          ∙ eqb-true (get_or rest (k * s + j - n * s) 0) 0 (all-at (λ x. eqb x 0) rest 0 h (k * s + j - n * s) (omega (arith, size)))

  -- and where there is nothing but the rows, there are zeros
  pub unused_zeroed : Tidy s cap n xs → zeroed s cap n xs ≡ true
  unused_zeroed t =
      places_all (λ x. eqb x 0) rest 0
      (λ i h.
      let l : i < cap * s - n * s = omega (arith, size) in
      let m : ℕ = n * s + i in
      let low : n ≤ m / s = (le-div_iff_mul-le {k = s} {x = n} {y = m} some).1 (omega arith) in
      let high : m / s < cap = (div-lt_iff_lt-mul {k = s} {x = m} {y = cap} some).1 (omega arith) in
      eq-eqb (get_or rest i 0) 0
      (part_at (n * s) (cap * s) i xs l
      ∙ ap (λ (k : ℕ). get_or xs k 0) (sym (div-add-mod' m s))
      ∙ tidy_zero s cap n some xs room t (m / s) (m % s) low high (mod-lt m some)))
