-- Where the rows before the one that goes close up to those behind it, the table then stands a row further back. Assumes nothing.
use Rattle.std.specs.Prelude.{ℕ, ◌+◌, ◌-◌, ◌*◌, ◌≤◌, ◌<◌, ◌≡◌, List, ◌++◌, length, get_or, take, drop}
use Rattle.std.proofs.Common.{sym, ap, ◌∙◌, subst, ⊎_elim, arith}
use Rattle.lists.specs.Tab.{is_tab, lt_or_le}
use Rattle.lists.specs.Parts.{back, closed, part_length, part_at, length_back, back_inside, back-after, length-shut, shut-before, shut-after, shut-moved, shut-freed}
use Rattle.table.specs.Columns.{waiting_wide}
use Rattle.moves.specs.Moves.{gone, Pushed, Blank}

-- the table stands a row further back
module _ (place count : ℕ) (ws ys : List ℕ) (here : place < count) (room : count * waiting_wide ≤ length ws) (blank : Blank count ws) where
  -- where the part ends that was moved
  abbrev end : ℕ
  end = place * waiting_wide + waiting_wide

  -- with the part as one that begins at 0
  slid_part : Pushed waiting_wide (take (end - 0) (drop 0 ws)) ys → closed waiting_wide (back 0 end ys ws) ≡ gone place count ws
  slid_part w =
      is_tab 0 (length (back 0 end ys ws)) (λ k. get_or (back 0 end ys ws) (k + waiting_wide) 0) (gone place count ws)
      (length-shut waiting_wide (place * waiting_wide) (count * waiting_wide) ws (omega (arith, here)) room ∙ sym whole)
      (λ k h. ⊎_elim (front k) (behind k) (lt_or_le k (place * waiting_wide)))
    where
      long : length (take (end - 0) (drop 0 ws)) ≡ end - 0
      long = part_length 0 end ws (omega arith) (omega (arith, here, room))

      even : length ys ≡ end - 0
      even = w.same ∙ long

      whole : length (back 0 end ys ws) ≡ length ws
      whole = length_back 0 end ys ws (omega arith) (omega (arith, here, room)) even

      front : (k : ℕ) → k < place * waiting_wide → get_or (back 0 end ys ws) (k + waiting_wide) 0 ≡ get_or (gone place count ws) k 0
      front k l =
          back_inside 0 end ys ws (omega arith) (omega (arith, here, room)) even (k + waiting_wide) (omega arith) (omega (arith, l))
          ∙ ap (λ (j : ℕ). get_or ys j 0) (omega arith)
          ∙ w.moved k (omega (arith, l, long))
          ∙ part_at 0 end k ws (omega (arith, l))
          ∙ ap (λ (j : ℕ). get_or ws j 0) (omega arith)
          ∙ sym (shut-before waiting_wide (place * waiting_wide) (count * waiting_wide) ws (omega (arith, here)) room k l)

      behind : (k : ℕ) → place * waiting_wide ≤ k → get_or (back 0 end ys ws) (k + waiting_wide) 0 ≡ get_or (gone place count ws) k 0
      behind k l =
          back-after 0 end ys ws (omega arith) (omega (arith, here, room)) even (k + waiting_wide) (omega (arith, l))
          ∙ ⊎_elim (moved k l) (freed k l) (lt_or_le (k + waiting_wide) (count * waiting_wide))
        where
          moved : (k : ℕ) → place * waiting_wide ≤ k → k + waiting_wide < count * waiting_wide → get_or ws (k + waiting_wide) 0 ≡ get_or (gone place count ws) k 0
          moved k l m = sym (shut-moved waiting_wide (place * waiting_wide) (count * waiting_wide) ws (omega (arith, here)) room k l m)

          freed : (k : ℕ) → place * waiting_wide ≤ k → count * waiting_wide ≤ k + waiting_wide → get_or ws (k + waiting_wide) 0 ≡ get_or (gone place count ws) k 0
          freed k l m =
              blank (k + waiting_wide) m
              ∙ ⊎_elim
              (λ (i : k < count * waiting_wide). sym (shut-freed waiting_wide (place * waiting_wide) (count * waiting_wide) ws (omega (arith, here)) room k l i m))
              (λ (i : count * waiting_wide ≤ k). sym (shut-after waiting_wide (place * waiting_wide) (count * waiting_wide) ws (omega (arith, here)) room k i ∙ blank k i))
              (lt_or_le k (count * waiting_wide))

  -- and as the front of the list
  pub slid : Pushed waiting_wide (take end ws) ys → closed waiting_wide (ys ++ drop end ws) ≡ gone place count ws
  slid =
      let e : end - 0 ≡ end = omega arith in
      subst (λ (e : ℕ). Pushed waiting_wide (take e ws) ys → closed waiting_wide (ys ++ drop e ws) ≡ gone place count ws) e slid_part
