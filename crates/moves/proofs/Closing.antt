-- A list is closed up by a copy of what stands s places further back, and by zeros in its last s places; zeros written over a front. Assumes nothing.
use Rattle.std.proofs.Common.{◌≡◌, ℕ, ◌+◌, ◌-◌, ◌≤◌, ◌<◌, length, List, ◌++◌, sym, ap, ◌∙◌, arith, ⊎_elim, get_or, get_or-append-add, length-append, length-drop, get_or-drop, drop, replicate, ext_get_or}
use Rattle.std.proofs.Math.ListN.{get_or-append, get_or-eq_default, get_or-replicate, length-replicate}
use Rattle.lists.specs.Tab.{is_tab, lt_or_le}
use Rattle.lists.specs.Stores.{length-stores, stores_at, stores_other}
use Rattle.lists.specs.Parts.{closed, back, length_back, back-before, back_inside, zeros}

module _ (s : ℕ) (xs ys zs : List ℕ) (fits : s ≤ length xs) (even : length ys ≡ length xs)
    (moves : (k : ℕ) → k + s < length xs → get_or ys k 0 ≡ get_or xs (k + s) 0) (clears : zs ≡ replicate s 0) where
  -- the last part is as long as it was
  same : length zs ≡ length ys - (length xs - s)
  same = ap length clears ∙ length-replicate s 0 ∙ omega (arith, even, fits)

  -- the copy, with the zeros in its last places, is the list closed up
  pub closed_is : back (length xs - s) (length ys) zs ys ≡ closed s xs
  closed_is =
      sym
      (is_tab 0 (length xs) (λ k. get_or xs (k + s) 0) (back (length xs - s) (length ys) zs ys)
      (length_back (length xs - s) (length ys) zs ys (omega (arith, even)) (omega arith) same ∙ even)
      (λ k l. ⊎_elim (moved k) (cleared k l) (lt_or_le k (length xs - s))))
    where
      moved : (k : ℕ) → k < length xs - s → get_or xs (k + s) 0 ≡ get_or (back (length xs - s) (length ys) zs ys) k 0
      moved k l =
          sym
          (back-before (length xs - s) (length ys) zs ys (omega (arith, even)) (omega arith) same k l
          ∙ moves k (omega (arith, l)))

      cleared : (k : ℕ) → k < length xs → length xs - s ≤ k → get_or xs (k + s) 0 ≡ get_or (back (length xs - s) (length ys) zs ys) k 0
      cleared k h l =
          get_or-eq_default xs 0 (omega (arith, l))
          ∙ sym
          (back_inside (length xs - s) (length ys) zs ys (omega (arith, even)) (omega arith) same k l (omega (arith, even, h))
          ∙ ap (λ (ws : List ℕ). get_or ws (k - (length xs - s)) 0) clears
          ∙ get_or-replicate s (k - (length xs - s)) 0 0 (omega (arith, h, l, fits)))

-- zeros over the first n places, and the rest
pub zeroed_is : (n : ℕ) (xs zs : List ℕ) → n ≤ length xs → zs ≡ replicate n 0 → zs ++ drop n xs ≡ zeros xs n
zeroed_is n xs zs fits clears =
    ext_get_or 0 (zs ++ drop n xs) (zeros xs n)
    (simp (length-append, length-drop) (omega (arith, long, fits, length-stores (λ k. k) (λ k. 0) xs n)))
    (λ k h. ⊎_elim (front k) (behind k) (lt_or_le k n))
  where
    long : length zs ≡ n
    long = ap length clears ∙ length-replicate n 0

    front : (k : ℕ) → k < n → get_or (zs ++ drop n xs) k 0 ≡ get_or (zeros xs n) k 0
    front k l =
        get_or-append zs (drop n xs) 0 k (omega (arith, long, l))
        ∙ ap (λ (ys : List ℕ). get_or ys k 0) clears
        ∙ get_or-replicate n k 0 0 l
        ∙ sym (stores_at (λ j. j) (λ j. 0) xs (λ i j m e. omega (arith, m, e)) n k l (omega (arith, l, fits)))

    behind : (k : ℕ) → n ≤ k → get_or (zs ++ drop n xs) k 0 ≡ get_or (zeros xs n) k 0
    behind k l =
        let q : k ≡ length zs + (k - n) = omega (arith, long, l) in
        let p : n + (k - n) ≡ k = omega (arith, l) in
        ap (λ (j : ℕ). get_or (zs ++ drop n xs) j 0) q
        ∙ get_or-append-add zs (drop n xs) (k - n) 0
        ∙ get_or-drop n xs (k - n) 0
        ∙ ap (λ (j : ℕ). get_or xs j 0) p
        ∙ sym (stores_other (λ j. j) (λ j. 0) xs n k (λ j m e. omega (arith, m, e, l)))
