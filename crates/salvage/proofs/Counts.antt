-- One event more: the last kept, the kept bytes and the rows, how long they are, and that they fit. Assumes nothing.
use Prim.Native.Nat.{ℕ, zero, suc, ◌+◌, ◌*◌, ◌-◌, ◌≤◌, ◌<◌}
use mathlib.Core.Path.{◌≡◌, refl, sym, ap, ◌∙◌, subst}
use mathlib.Core.Bool.{Bool, true, false}
use mathlib.Core.List.{List, [], ◌∷◌, ◌++◌}
use native.Mathlib.Omega.{arith}
use native.Mathlib.Numerals.{add-one}
use lib.Dec.{ltb}
use lib.ListN.{length, take, drop, length-append, length-take, length-drop}
use lib.Seq.{length-take-le, take-add}
use borrow.Author.Tests.{ltb-false}
use Rattle.lists.specs.Words.{if◌then◌else◌}
use Rattle.trace.specs.Event.{event_of}
use Rattle.salvage.specs.Fates.{by_read, fate_of, after, last_at, fate_at, Fate, Last}
use Rattle.salvage.specs.Result.{bytes_by, Row, row_by, kept_of, rows_of, flat}
use Rattle.salvage.specs.Judging.{bytes_for, rows_for, IfKept, IfDropped}
use Rattle.std.specs.Prelude.{Ok, Err}
use Rattle.salvage.specs.declared.Reason.TheVariants.{Cut}
use Rattle.salvage.specs.declared.Reason.{Reason}

-- BY A FATE

pub if_kept : (f : Fate) {P : Type 0} → P → IfKept f P
if_kept (Ok t) p = p
if_kept (Err r) p = tt

-- what has to be so of a kept event is so of one that is known to be kept; and of a dropped one
pub kept_so : {f : Fate} {t : ℕ} {P : Type 0} → f ≡ Ok t → IfKept f P → P
kept_so {P = P} e p = subst (λ (g : Fate). IfKept g P) e p

pub dropped_so : {f : Fate} {r : Reason} {P : Type 0} → f ≡ Err r → IfDropped f P → P
dropped_so {P = P} e p = subst (λ (g : Fate). IfDropped g P) e p

-- an event that is kept is whole
pub kept_whole : (v : ℕ) (l : Last) (bs : List ℕ) → IfKept (fate_of v l bs) (14 ≤ length bs)
unfolding fate_of
kept_whole v l bs = go (ltb (length bs) 14) refl
  where
    go : (b : Bool) → ltb (length bs) 14 ≡ b → IfKept (if b then Err Cut else by_read l (event_of v bs)) (14 ≤ length bs)
    go true e = tt
    go false e = if_kept (by_read l (event_of v bs)) (ltb-false (length bs) 14 e)

length-bytes : (f : Fate) (bs : List ℕ) → IfKept f (14 ≤ length bs) → length (bytes_by f (take 14 bs)) ≡ bytes_for f
length-bytes (Ok t) bs h = length-take-le 14 bs h
length-bytes (Err r) bs h = refl

bytes_most : (f : Fate) (bs : List ℕ) → length (bytes_by f bs) ≤ length bs
bytes_most (Ok t) bs = omega arith
bytes_most (Err r) bs = omega arith

length-row : (f : Fate) (n : ℕ) → length (row_by f n) ≡ rows_for f
length-row (Ok t) n = refl
length-row (Err r) n = refl

rows_most : (f : Fate) → rows_for f ≤ 1
rows_most (Ok t) = omega arith
rows_most (Err r) = omega arith

-- THE LIST as numbers

pub flat_append : (xs ys : List Row) → flat (xs ++ ys) ≡ flat xs ++ flat ys
unfolding flat
flat_append [] ys = refl
flat_append (x ∷ xs) ys = ap (λ (l : List ℕ). x.number ∷ x.reason ∷ l) (flat_append xs ys)

pub length-flat : (xs : List Row) → length (flat xs) ≡ length xs * 2
unfolding flat
length-flat [] = refl
length-flat (x ∷ xs) = let i = length-flat xs in omega arith

-- ONE EVENT MORE

module _ (v : ℕ) (bs : List ℕ) where
  last_more : (k : ℕ) → last_at v bs (k + 1) ≡ after (last_at v bs k) (fate_at v bs k)
  unfolding last_at
  last_more k = ap (last_at v bs) (add-one k)

  -- what became of event k, judged by the last kept before it, and the last kept after it
  pub fate_here : (k : ℕ) (l : Last) (f : Fate) → f ≡ fate_of v l (drop (k * 14) bs) → l ≡ last_at v bs k → f ≡ fate_at v bs k
  fate_here k l f e i = e ∙ ap (λ (x : Last). fate_of v x (drop (k * 14) bs)) i

  pub last_here : (k : ℕ) (l m : Last) (f : Fate) → m ≡ after l f → l ≡ last_at v bs k → f ≡ fate_at v bs k → m ≡ last_at v bs (k + 1)
  last_here k l m f e i j = e ∙ (λ n. after (i n) (j n)) ∙ sym (last_more k)

  pub kept_more : (k : ℕ) → kept_of v bs (k + 1) ≡ kept_of v bs k ++ bytes_by (fate_at v bs k) (take 14 (drop (k * 14) bs))
  unfolding kept_of
  kept_more k = ap (kept_of v bs) (add-one k)

  pub rows_more : (k : ℕ) → rows_of v bs (k + 1) ≡ rows_of v bs k ++ row_by (fate_at v bs k) (k + 1)
  unfolding rows_of
  rows_more k = ap (rows_of v bs) (add-one k)

  pub length-kept-more : (k : ℕ) → length (kept_of v bs (k + 1)) ≡ length (kept_of v bs k) + bytes_for (fate_at v bs k)
  length-kept-more k =
      ap length (kept_more k)
      ∙ length-append (kept_of v bs k) (bytes_by (fate_at v bs k) (take 14 (drop (k * 14) bs)))
      ∙ ap (λ (n : ℕ). length (kept_of v bs k) + n) (length-bytes (fate_at v bs k) (drop (k * 14) bs) (kept_whole v (last_at v bs k) (drop (k * 14) bs)))

  pub length-rows-more : (k : ℕ) → length (rows_of v bs (k + 1)) ≡ length (rows_of v bs k) + rows_for (fate_at v bs k)
  length-rows-more k =
      ap length (rows_more k)
      ∙ length-append (rows_of v bs k) (row_by (fate_at v bs k) (k + 1))
      ∙ ap (λ (n : ℕ). length (rows_of v bs k) + n) (length-row (fate_at v bs k) (k + 1))

  -- HOW MUCH IT CAN BE

  -- no more bytes than there are
  kept-below : (k : ℕ) → length (kept_of v bs k) ≤ length (take (k * 14) bs)
  unfolding kept_of
  kept-below zero = omega arith
  kept-below (suc k) =
      let n : suc k * 14 ≡ k * 14 + 14 = omega arith in
      let e = ap (λ (m : ℕ). length (take m bs)) n ∙ ap length (take-add (k * 14) 14 bs) ∙ length-append (take (k * 14) bs) (take 14 (drop (k * 14) bs)) in
      let l = length-append (kept_of v bs k) (bytes_by (fate_at v bs k) (take 14 (drop (k * 14) bs))) in
      let m = bytes_most (fate_at v bs k) (take 14 (drop (k * 14) bs)) in
      let i = kept-below k in
      omega arith

  pub kept-fits : (k : ℕ) → length (kept_of v bs k) ≤ length bs
  kept-fits k = omega (arith, kept-below k, length-take (k * 14) bs)

  -- no more rows than events
  pub rows_few : (k : ℕ) → length (rows_of v bs k) ≤ k
  unfolding rows_of
  rows_few zero = omega arith
  rows_few (suc k) =
      let l = length-append (rows_of v bs k) (row_by (fate_at v bs k) (k + 1)) in
      omega (arith, rows_few k, length-row (fate_at v bs k) (k + 1), rows_most (fate_at v bs k))

  -- more events, more of both
  kept_longer : (k m : ℕ) → length (kept_of v bs k) ≤ length (kept_of v bs (k + m))
  kept_longer k zero = let e : k + zero ≡ k = omega arith in omega (arith, ap (λ (n : ℕ). length (kept_of v bs n)) e)
  kept_longer k (suc m) =
      let e : k + suc m ≡ k + m + 1 = omega arith in
      omega (arith, kept_longer k m, length-kept-more (k + m), ap (λ (n : ℕ). length (kept_of v bs n)) e)

  pub kept_grows : (k n : ℕ) → k ≤ n → length (kept_of v bs k) ≤ length (kept_of v bs n)
  kept_grows k n h =
      let m : k + (n - k) ≡ n = omega arith in
      omega (arith, kept_longer k (n - k), ap (λ (j : ℕ). length (kept_of v bs j)) m)

  rows_longer : (k m : ℕ) → length (rows_of v bs k) ≤ length (rows_of v bs (k + m))
  rows_longer k zero = let e : k + zero ≡ k = omega arith in omega (arith, ap (λ (n : ℕ). length (rows_of v bs n)) e)
  rows_longer k (suc m) =
      let e : k + suc m ≡ k + m + 1 = omega arith in
      omega (arith, rows_longer k m, length-rows-more (k + m), ap (λ (n : ℕ). length (rows_of v bs n)) e)

  pub rows_grow : (k n : ℕ) → k ≤ n → length (rows_of v bs k) ≤ length (rows_of v bs n)
  rows_grow k n h =
      let m : k + (n - k) ≡ n = omega arith in
      omega (arith, rows_longer k (n - k), ap (λ (j : ℕ). length (rows_of v bs j)) m)

  -- ROOM for event k of n, where the whole has it

  pub kept-room : (k n : ℕ) (f : Fate) (first at room : ℕ) → f ≡ fate_at v bs k → k < n → at ≡ first + length (kept_of v bs k)
      → first + length (kept_of v bs n) ≤ room → IfKept f ((k * 14 + 14 ≤ length bs) × (at + 14 ≤ room))
  kept-room k n (Err r) first at room e h a enough = tt
  kept-room k n (Ok t) first at room e h a enough =
      let whole : 14 ≤ length (drop (k * 14) bs) = kept_so (sym e) (kept_whole v (last_at v bs k) (drop (k * 14) bs)) in
      (omega (arith, length-drop (k * 14) bs), omega (arith, length-kept-more k, ap bytes_for e, kept_grows (k + 1) n (omega arith)))

  pub row_room : (k n : ℕ) (f : Fate) (at list : ℕ) → f ≡ fate_at v bs k → k < n → at ≡ 0 + length (flat (rows_of v bs k))
      → length (flat (rows_of v bs n)) ≤ list → IfDropped f (at + 2 ≤ list)
  row_room k n (Ok t) at list e h a enough = tt
  row_room k n (Err r) at list e h a enough =
      omega (arith, length-rows-more k, ap rows_for e, rows_grow (k + 1) n (omega arith), length-flat (rows_of v bs k), length-flat (rows_of v bs n))
