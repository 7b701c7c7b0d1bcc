-- The table that stands a row further back is what is lent from the second row on: the same numbers at every place, so the drop along it is the drop. Assumes nothing.
use Prim.Native.Nat.{ℕ, zero, suc, ◌+◌, ◌-◌, ◌*◌, ◌≤◌, ◌<◌}
use mathlib.Core.Path.{◌≡◌, refl, sym, ap, ◌∙◌}
use mathlib.Core.Bool.{Bool, true, false}
use mathlib.Core.List.{List}
use mathlib.Core.Logic.{⊎_elim}
use native.Mathlib.Nat.{le_refl}
use native.Mathlib.Omega.{arith}
use lib.Dec.{eqb}
use lib.ListN.{length, get_or, set, take, drop, length-drop, get_or-eq_default}
use lib.Seq.{take_all, get_or-drop, get_or-set_same, get_or-set_other, ext_get_or}
use borrow.Author.Tests.{eqb-true, eqb-false}
use Rattle.lists.specs.Tab.{length-tab, get_or-tab, lt_or_le}
use Rattle.lists.specs.Stores.{stores, length-stores}
use Rattle.lists.specs.Parts.{closed, back, part_length, length_back, back_inside}
use Rattle.rules.specs.Numbers.{down}
use Rattle.table.specs.Columns.{RESERVATION, RNEXT, GUEST, RTAG, COST, guest_wide, waiting_wide, guest_at, waiting_at}
use Rattle.moves.specs.Moves.{fall_of, tag_dropped, tags_dropped, last_past, next_dropped, Lawful, Unreserved}
use Rattle.index.specs.Index.{Even, Indexed}
use Rattle.index.proofs.Laws.{indexed_alike}

-- closed up by a row, and without the first
pub closed-drop : (ws : List ℕ) → Even (closed waiting_wide ws) (drop waiting_wide ws)
closed-drop ws i =
    ⊎_elim
    (λ (l : i < length ws). get_or-tab (length ws) (λ k. get_or ws (k + waiting_wide) 0) i 0 l ∙ same)
    (λ (l : length ws ≤ i). get_or-eq_default (closed waiting_wide ws) 0 (omega (arith, length-tab (length ws) (λ k. get_or ws (k + waiting_wide) 0), l)) ∙ sym (get_or-eq_default ws 0 (omega (arith, l))) ∙ same)
    (lt_or_le i (length ws))
  where
    same : get_or ws (i + waiting_wide) 0 ≡ get_or (drop waiting_wide ws) i 0
    same = ap (λ (k : ℕ). get_or ws k 0) (omega arith) ∙ sym (get_or-drop waiting_wide ws i 0)

-- stores of the same numbers into two lists
even-stores : (place v v' : ℕ → ℕ) (xs ys : List ℕ) → Even xs ys → (n : ℕ) → ((k : ℕ) → k < n → (v k ≡ v' k) × (place k < length xs) × (place k < length ys)) → Even (stores place v n xs) (stores place v' n ys)
unfolding stores
even-stores place v v' xs ys even zero h i = even i
even-stores place v v' xs ys even (suc n) h i = go (eqb i (place n)) refl (even-stores place v v' xs ys even n (λ k l. h k (omega arith)) i)
  where
    own : (v n ≡ v' n) × (place n < length xs) × (place n < length ys)
    own = h n (le_refl (suc n))

    go : (c : Bool) → eqb i (place n) ≡ c → get_or (stores place v n xs) i 0 ≡ get_or (stores place v' n ys) i 0
        → get_or (set (stores place v n xs) (place n) (v n)) i 0 ≡ get_or (set (stores place v' n ys) (place n) (v' n)) i 0
    go true e before =
        let q = eqb-true i (place n) e in
        rw q
        (get_or-set_same (stores place v n xs) (place n) (v n) 0 (omega (arith, own.1, length-stores place v xs n)) ∙ own.0
        ∙ sym (get_or-set_same (stores place v' n ys) (place n) (v' n) 0 (omega (arith, own.2, length-stores place v' ys n))))
    go false e before =
        let q = eqb-false i (place n) e in
        get_or-set_other (stores place v n xs) (place n) i (v n) 0 q ∙ before ∙ sym (get_or-set_other (stores place v' n ys) (place n) i (v' n) 0 q)

module _ (ws : List ℕ) (n : ℕ) (room : n * waiting_wide + waiting_wide ≤ length ws) where
  -- the table, and what is lent of it
  abbrev table : List ℕ
  table = closed waiting_wide ws

  abbrev rest : List ℕ
  rest = take (length ws - waiting_wide) (drop waiting_wide ws)

  -- how long that is
  rest_long : length rest ≡ length ws - waiting_wide
  rest_long = part_length waiting_wide (length ws) ws (omega (arith, room)) (omega arith)

  -- every number is the same
  pub even-rest : Even table rest
  even-rest i =
      closed-drop ws i
      ∙ ap (λ (xs : List ℕ). get_or xs i 0) (sym (take_all (length ws - waiting_wide) (drop waiting_wide ws) (rw length-drop (omega arith))))

  -- so every number of every row
  pub even-at : (k j : ℕ) → waiting_at table k j ≡ waiting_at rest k j
  even-at k j = even-rest (k * waiting_wide + j)

  -- what is lent has room for the rows
  pub rest-room : n * waiting_wide ≤ length rest
  rest-room = omega (arith, room, rest_long)

  pub rest-lawful : Lawful n table → Lawful n rest
  rest-lawful h k l = rw (sym (even-at k RTAG), sym (even-at k COST)) (h k l)

  pub rest_unreserved : (g : ℕ) (gs : List ℕ) → Unreserved g n gs table → Unreserved g n gs rest
  rest_unreserved g gs h e = let u = h e in (u.0, λ k l own. sym (even-at k RTAG) ∙ u.1 k l (even-at k GUEST ∙ own))

  pub rest_indexed : {ix : List ℕ} → Indexed table ix n → Indexed rest ix n
  rest_indexed i = indexed_alike table rest n (λ k l. sym (even-at k GUEST)) i

  -- the number that follows the last request of the guest
  pub past_even : (g d s next m : ℕ) → last_past g d s next rest m ≡ last_past g d s next table m
  past_even g d s next zero = refl
  past_even g d s next (suc m) = rw (sym (even-at m GUEST), sym (even-at m RTAG), sym (even-at m COST), past_even g d s next m)

  pub next-even : (g c : ℕ) (gs : List ℕ) → next_dropped g c n rest gs ≡ next_dropped g c n table gs
  next-even g c gs = ap (λ (x : ℕ). set gs (g * guest_wide + RNEXT) x) (past_even g (fall_of g c gs) (down (guest_at gs g RESERVATION)) (guest_at gs g RNEXT - fall_of g c gs) n)

  -- the tags once what was lent came back
  pub tags-even : (g d : ℕ) (ys : List ℕ) → ys ≡ tags_dropped g d rest n → closed waiting_wide (back waiting_wide (length ws) ys ws) ≡ tags_dropped g d table n
  tags-even g d ys e =
      ext_get_or 0 (closed waiting_wide (back waiting_wide (length ws) ys ws)) (tags_dropped g d table n) longs
      (λ i l. closed-drop (back waiting_wide (length ws) ys ws) i ∙ get_or-drop waiting_wide (back waiting_wide (length ws) ys ws) i 0 ∙ home i ∙ ap (λ (zs : List ℕ). get_or zs i 0) e ∙ sym (dropped i))
    where
      long : length ys ≡ length ws - waiting_wide
      long = ap length e ∙ length-stores (λ k. k * waiting_wide + RTAG) (tag_dropped g d rest) rest n ∙ rest_long

      whole : length (back waiting_wide (length ws) ys ws) ≡ length ws
      whole = length_back waiting_wide (length ws) ys ws (omega (arith, room)) (omega arith) long

      longs : length (closed waiting_wide (back waiting_wide (length ws) ys ws)) ≡ length (tags_dropped g d table n)
      longs =
          length-tab (length (back waiting_wide (length ws) ys ws)) (λ k. get_or (back waiting_wide (length ws) ys ws) (k + waiting_wide) 0) ∙ whole
          ∙ sym (length-stores (λ k. k * waiting_wide + RTAG) (tag_dropped g d table) table n ∙ length-tab (length ws) (λ k. get_or ws (k + waiting_wide) 0))

      home : (i : ℕ) → get_or (back waiting_wide (length ws) ys ws) (waiting_wide + i) 0 ≡ get_or ys i 0
      home i =
          ⊎_elim
          (λ (l : waiting_wide + i < length ws). back_inside waiting_wide (length ws) ys ws (omega (arith, room)) (omega arith) long (waiting_wide + i) (omega arith) l ∙ ap (λ (k : ℕ). get_or ys k 0) (omega arith))
          (λ (l : length ws ≤ waiting_wide + i). get_or-eq_default (back waiting_wide (length ws) ys ws) 0 (omega (arith, whole, l)) ∙ sym (get_or-eq_default ys 0 (omega (arith, long, l))))
          (lt_or_le (waiting_wide + i) (length ws))

      dropped : (i : ℕ) → get_or (tags_dropped g d table n) i 0 ≡ get_or (tags_dropped g d rest n) i 0
      dropped =
          even-stores (λ k. k * waiting_wide + RTAG) (tag_dropped g d table) (tag_dropped g d rest) table rest even-rest n
          (λ k l. (rw (even-at k GUEST, even-at k RTAG), omega (arith, l, room, length-tab (length ws) (λ k. get_or ws (k + waiting_wide) 0)), omega (arith, l, rest-room)))
