-- What is kept, judged once more: nothing of it is dropped, and it stands in the old order. And events that are all kept are the bytes as they stand.
-- Assumes nothing.
use Prim.Native.Nat.{ℕ, zero, suc, ◌+◌, ◌*◌, ◌≤◌, ◌<◌}
use mathlib.Core.Path.{◌≡◌, refl, sym, ap, ◌∙◌, subst}
use mathlib.Core.List.{List, [], ◌∷◌, ◌++◌, append-nil}
use native.Mathlib.Omega.{arith}
use lib.ListN.{length, take, drop, length-append, length-drop}
use lib.Seq.{length-take-le, take_all, take-add, drop_at, take-append-le, drop-append-le}
use Rattle.lists.specs.Tab.{tab, tab_snoc, tab_ext}
use Rattle.salvage.specs.Fates.{fate_of, reason_in, after, last_at, fate_at, Fate, Last}
use Rattle.salvage.specs.Result.{bytes_by, row_by, kept_of, rows_of, event_count}
use Rattle.salvage.specs.Cases.{InOrder, none, both, skip}
use Rattle.salvage.proofs.Counts.{kept_so, kept_whole}
use Rattle.salvage.proofs.Fields.{kept_by, fate_append, fate_take}
use Rattle.std.specs.Prelude.{Ok, Err}
use Rattle.salvage.specs.declared.Reason.{Reason}

-- THE OLD ORDER

order_both : {A : Type 0} {xs ys : List A} (z : A) → InOrder xs ys → InOrder (xs ++ (z ∷ [])) (ys ++ (z ∷ []))
order_both z none = both none
order_both z (both w) = both (order_both z w)
order_both z (skip w) = skip (order_both z w)

order_skip : {A : Type 0} {xs ys : List A} (z : A) → InOrder xs ys → InOrder xs (ys ++ (z ∷ []))
order_skip z none = skip none
order_skip z (both w) = both (order_skip z w)
order_skip z (skip w) = skip (order_skip z w)

-- the bytes of event k
abbrev pub piece : List ℕ → ℕ → List ℕ
piece bs k = take 14 (drop (k * 14) bs)

-- BYTES BEHIND the first k events make no difference to these

module _ (v : ℕ) (xs ys : List ℕ) where
  fate_front : (l : Last) (k : ℕ) → suc k * 14 ≤ length xs → fate_of v l (drop (k * 14) (xs ++ ys)) ≡ fate_of v l (drop (k * 14) xs)
  fate_front l k h =
      ap (fate_of v l) (drop-append-le (k * 14) xs ys (omega arith))
      ∙ fate_append v l (drop (k * 14) xs) ys (omega (arith, length-drop (k * 14) xs))

  last_front : (k : ℕ) → k * 14 ≤ length xs → last_at v (xs ++ ys) k ≡ last_at v xs k
  unfolding last_at
  last_front zero h = refl
  last_front (suc k) h =
      let i = last_front k (omega arith) in
      λ j. after (i j) ((ap (λ (l : Last). fate_of v l (drop (k * 14) (xs ++ ys))) i ∙ fate_front (last_at v xs k) k h) j)

  fate_there : (k : ℕ) → suc k * 14 ≤ length xs → fate_at v (xs ++ ys) k ≡ fate_at v xs k
  fate_there k h = ap (λ (l : Last). fate_of v l (drop (k * 14) (xs ++ ys))) (last_front k (omega arith)) ∙ fate_front (last_at v xs k) k h

  piece-front : (k : ℕ) → suc k * 14 ≤ length xs → piece (xs ++ ys) k ≡ piece xs k
  piece-front k h =
      ap (take 14) (drop-append-le (k * 14) xs ys (omega arith))
      ∙ take-append-le 14 (drop (k * 14) xs) ys (omega (arith, length-drop (k * 14) xs))

  kept-front : (k : ℕ) → k * 14 ≤ length xs → kept_of v (xs ++ ys) k ≡ kept_of v xs k
  unfolding kept_of
  kept-front zero h = refl
  kept-front (suc k) h = let i = kept-front k (omega arith) in λ j. i j ++ bytes_by (fate_there k h j) (piece-front k h j)

  rows-front : (k : ℕ) → k * 14 ≤ length xs → rows_of v (xs ++ ys) k ≡ rows_of v xs k
  unfolding rows_of
  rows-front zero h = refl
  rows-front (suc k) h = let i = rows-front k (omega arith) in λ j. i j ++ row_by (fate_there k h j) (k + 1)

  pieces-front : (k : ℕ) → k * 14 ≤ length xs → tab k (piece (xs ++ ys)) ≡ tab k (piece xs)
  pieces-front k h = tab_ext k (piece (xs ++ ys)) (piece xs) (λ i l. piece-front i (omega arith))

-- WHAT IS KEPT of the first k events of bs, as bytes of events themselves

pub record Again (v : ℕ) (bs : List ℕ) (k : ℕ) : Type 0 where
  pub count : ℕ
  pub long : length (kept_of v bs k) ≡ count * 14
  pub last : last_at v (kept_of v bs k) count ≡ last_at v bs k
  pub kept : kept_of v (kept_of v bs k) count ≡ kept_of v bs k
  pub rows : rows_of v (kept_of v bs k) count ≡ []
  pub order : InOrder (tab count (piece (kept_of v bs k))) (tab k (piece bs))

module _ (v : ℕ) (bs : List ℕ) where
  -- one event more that is kept
  again_kept : (k t : ℕ) → fate_at v bs k ≡ Ok t → Again v bs k → Again v bs (suc k)
  unfolding last_at kept_of rows_of
  again_kept k t e a =
      let xs = kept_of v bs k in
      let m = a.count in
      let ys = piece bs k in
      let zs = xs ++ ys in
      let whole : 14 ≤ length (drop (k * 14) bs) = kept_so e (kept_whole v (last_at v bs k) (drop (k * 14) bs)) in
      let n : length ys ≡ 14 = length-take-le 14 (drop (k * 14) bs) whole in
      let fits : m * 14 ≤ length xs = omega (arith, a.long) in
      let here : kept_of v bs (suc k) ≡ zs = ap (λ (f : Fate). xs ++ bytes_by f ys) e in
      let at : drop (m * 14) zs ≡ ys = drop_at xs ys (m * 14) a.long in
      let before : last_at v zs m ≡ last_at v bs k = last_front v xs ys m fits ∙ a.last in
      let fate : fate_at v zs m ≡ Ok t = (λ i. fate_of v (before i) (at i)) ∙ fate_take v (last_at v bs k) (drop (k * 14) bs) whole ∙ e in
      let own : piece zs m ≡ ys = ap (take 14) at ∙ take_all 14 ys (omega arith) in
      record {
        count = suc m;
        long = ap length here ∙ length-append xs ys ∙ (let z : length xs + length ys ≡ suc m * 14 = omega (arith, a.long) in z);
        last = ap (λ (l : List ℕ). last_at v l (suc m)) here ∙ (λ i. after (before i) (fate i)) ∙ sym (ap (after (last_at v bs k)) e);
        kept = ap (λ (l : List ℕ). kept_of v l (suc m)) here
            ∙ (λ i. (kept-front v xs ys m fits ∙ a.kept) i ++ bytes_by (fate i) (own i)) ∙ sym here;
        rows = ap (λ (l : List ℕ). rows_of v l (suc m)) here ∙ (λ i. (rows-front v xs ys m fits ∙ a.rows) i ++ row_by (fate i) (m + 1));
        order = subst (λ (l : List (List ℕ)). InOrder l (tab (suc k) (piece bs)))
            (sym (ap (λ (l : List ℕ). tab (suc m) (piece l)) here ∙ tab_snoc m (piece zs) ∙ (λ i. pieces-front v xs ys m fits i ++ (own i ∷ []))))
            (subst (InOrder (tab m (piece xs) ++ (ys ∷ []))) (sym (tab_snoc k (piece bs))) (order_both ys a.order));
      }

  -- and one that is dropped
  again-dropped : (k : ℕ) (r : Reason) → fate_at v bs k ≡ Err r → Again v bs k → Again v bs (suc k)
  unfolding last_at kept_of rows_of
  again-dropped k r e a =
      let xs = kept_of v bs k in
      let here : kept_of v bs (suc k) ≡ xs = ap (λ (f : Fate). xs ++ bytes_by f (piece bs k)) e ∙ append-nil xs in
      record {
        count = a.count;
        long = ap length here ∙ a.long;
        last = ap (λ (l : List ℕ). last_at v l a.count) here ∙ a.last ∙ sym (ap (after (last_at v bs k)) e);
        kept = ap (λ (l : List ℕ). kept_of v l a.count) here ∙ a.kept ∙ sym here;
        rows = ap (λ (l : List ℕ). rows_of v l a.count) here ∙ a.rows;
        order = subst (λ (l : List ℕ). InOrder (tab a.count (piece l)) (tab (suc k) (piece bs))) (sym here)
            (subst (InOrder (tab a.count (piece xs))) (sym (tab_snoc k (piece bs))) (order_skip (piece bs k) a.order));
      }

  pub again : (k : ℕ) → Again v bs k
  unfolding last_at kept_of rows_of
  again zero = record { count = 0; long = refl; last = refl; kept = refl; rows = refl; order = none }
  again (suc k) = go (again k) (fate_at v bs k) refl
    where
      go : Again v bs k → (f : Fate) → fate_at v bs k ≡ f → Again v bs (suc k)
      go a (Ok t) e = again_kept k t e a
      go a (Err r) e = again-dropped k r e a

-- ALL EVENTS KEPT

module _ (v : ℕ) (bs : List ℕ) where
  all-kept : (k : ℕ) → ((i : ℕ) → i < k → reason_in (fate_at v bs i) ≡ 0) → (kept_of v bs k ≡ take (k * 14) bs) × (rows_of v bs k ≡ [])
  unfolding kept_of rows_of
  all-kept zero h = (refl, refl)
  all-kept (suc k) h =
      let i = all-kept k (λ j l. h j (omega arith)) in
      let f = kept_by (fate_at v bs k) (h k (omega arith)) in
      let n : k * 14 + 14 ≡ suc k * 14 = omega arith in (
        (λ j. i.0 j ++ bytes_by (f.1 j) (piece bs k)) ∙ sym (take-add (k * 14) 14 bs) ∙ ap (λ (m : ℕ). take m bs) n,
        (λ j. i.1 j ++ row_by (f.1 j) (k + 1)),
      )

  -- so the bytes are what they were
  pub all_stay : ((i : ℕ) → i < event_count bs → reason_in (fate_at v bs i) ≡ 0) → (kept_of v bs (event_count bs) ≡ bs) × (rows_of v bs (event_count bs) ≡ [])
  all_stay h =
      let p = all-kept (event_count bs) h in
      (p.0 ∙ take_all (event_count bs * 14) bs (omega arith), p.1)
