-- Sorting by reservation tag: the same requests, their tags rising, equal tags in their old order. Assumes nothing.
use mathlib.Core.Path.{◌≡◌, refl, ap, ◌∙◌}
use mathlib.Core.Bool.{Bool, true, false}
use mathlib.Core.List.Permᴰ
use mathlib.Core.List.{List, [], ◌∷◌, ◌++◌, Permᴰ}
use Prim.Native.Nat.{ℕ, zero, suc, ◌≤◌, ◌<◌}
use native.Mathlib.Omega.{arith}
use lib.Dec.{leb, eqb}
use lib.ListN.{length}
use borrow.Author.Tests.{leb-true, leb-false, le-leb, lt-leb, eqb-true, ne_eqb}
use Rattle.lists.specs.Words.{if◌then◌else◌, filter}
use Rattle.rules.specs.Tables.{Request}
use Rattle.rules.specs.Chosen.{at}
use Rattle.turns.specs.Turn.{insert, sorted}

-- every request of the list is such
abbrev pub Each : (Request → Type 0) → List Request → Type 0
Each P [] = Unit {0}
Each P (q ∷ l) = P q × Each P l

-- every tag of the list is below n
abbrev pub Below : ℕ → List Request → Type 0
Below n l = Each (λ q. q.rtag < n) l

-- every tag of the list is at or before n
abbrev pub UpTo : ℕ → List Request → Type 0
UpTo n l = Each (λ q. q.rtag ≤ n) l

-- every tag of the list is at or past n
abbrev pub From : ℕ → List Request → Type 0
From n l = Each (λ q. n ≤ q.rtag) l

-- no tag of the list is larger than a later one
abbrev pub Rising : List Request → Type 0
Rising [] = Unit {0}
Rising (q ∷ l) = From q.rtag l × Rising l

-- what follows from it holds of every request too
pub each_weaken : (P Q : Request → Type 0) → ((q : Request) → P q → Q q) → (l : List Request) → Each P l → Each Q l
each_weaken P Q h [] u = tt
each_weaken P Q h (q ∷ l) u = (h q u.0, each_weaken P Q h l u.1)

-- it holds of every request when one more joins of which it holds
pub each-insert : (P : Request → Type 0) (q : Request) (l : List Request) → P q → Each P l → Each P (insert q l)
each-insert P q [] h u = (h, tt)
each-insert P q (p ∷ l) h u =
    let k = each-insert P q l h u.1 in
    elim (leb q.rtag p.rtag) as (λ b. Each P (if b then q ∷ p ∷ l else p ∷ insert q l)) [ true ↦ (h, u) | false ↦ (u.0, k) ]

-- it holds of two lists together
pub each_append : (P : Request → Type 0) (a b : List Request) → Each P a → Each P b → Each P (a ++ b)
each_append P [] b u v = v
each_append P (q ∷ a) b u v = (u.0, each_append P a b u.1 v)

-- in front of a request with no smaller tag
pub insert_le : (q p : Request) (l : List Request) → q.rtag ≤ p.rtag → insert q (p ∷ l) ≡ q ∷ p ∷ l
insert_le q p l h = rw (le-leb q.rtag p.rtag)

-- past a request with a smaller tag
pub insert_gt : (q p : Request) (l : List Request) → p.rtag < q.rtag → insert q (p ∷ l) ≡ p ∷ insert q l
insert_gt q p l h = rw (lt-leb q.rtag p.rtag)

-- in front of what has no smaller tag
pub insert-left : (q : Request) (l r : List Request) → From q.rtag r → insert q (l ++ r) ≡ insert q l ++ r
insert-left q [] [] h = refl
insert-left q [] (p ∷ r) h = insert_le q p r h.0
insert-left q (p ∷ l) r h =
    let k = insert-left q l r h in
    elim (leb q.rtag p.rtag) as (λ b. (if b then q ∷ p ∷ (l ++ r) else p ∷ insert q (l ++ r)) ≡ (if b then q ∷ p ∷ l else p ∷ insert q l) ++ r)
    [ true ↦ refl | false ↦ ap (p ∷◌) k ]

-- behind what has a smaller tag
pub insert_right : (q : Request) (l r : List Request) → Below q.rtag l → insert q (l ++ r) ≡ l ++ insert q r
insert_right q [] r u = refl
insert_right q (p ∷ l) r u = insert_gt q p (l ++ r) u.0 ∙ ap (p ∷◌) (insert_right q l r u.1)

-- THE TAGS RISE

rising-insert : (q : Request) (l : List Request) → Rising l → Rising (insert q l)
rising-insert q [] u = (tt, tt)
rising-insert q (p ∷ l) u = go (leb q.rtag p.rtag) refl (rising-insert q l u.1)
  where
    go : (b : Bool) → leb q.rtag p.rtag ≡ b → Rising (insert q l) → Rising (if b then q ∷ p ∷ l else p ∷ insert q l)
    go true e k =
        let h : q.rtag ≤ p.rtag = leb-true _ _ e in
        ((h, each_weaken _ _ (λ y i. omega arith) l u.0), u)
    go false e k =
        let h : p.rtag < q.rtag = leb-false _ _ e in
        (each-insert _ q l (omega arith) u.0, k)

-- the tags of a sorted list rise
pub sorted_rises : (l : List Request) → Rising (sorted l)
sorted_rises [] = tt
sorted_rises (q ∷ l) = rising-insert q (sorted l) (sorted_rises l)

-- THE SAME REQUESTS

insert_perm : (q : Request) (l : List Request) → Permᴰ (insert q l) (q ∷ l)
insert_perm q [] = Permᴰ.refl (q ∷ [])
insert_perm q (p ∷ l) =
    let h = insert_perm q l in
    elim (leb q.rtag p.rtag) as (λ b. Permᴰ (if b then q ∷ p ∷ l else p ∷ insert q l) (q ∷ p ∷ l))
    [ true ↦ Permᴰ.refl (q ∷ p ∷ l) | false ↦ Permᴰ.trans (Permᴰ.cons refl h) (Permᴰ.swap refl refl) ]

-- a sorted list is a rearrangement
pub sorted_perm : (l : List Request) → Permᴰ (sorted l) l
sorted_perm [] = Permᴰ.nil
sorted_perm (q ∷ l) = Permᴰ.trans (insert_perm q (sorted l)) (Permᴰ.cons refl (sorted_perm l))

length-insert : (q : Request) (l : List Request) → length (insert q l) ≡ suc (length l)
length-insert q [] = refl
length-insert q (p ∷ l) =
    let h = length-insert q l in
    elim (leb q.rtag p.rtag) as (λ b. length (if b then q ∷ p ∷ l else p ∷ insert q l) ≡ suc (suc (length l))) [ true ↦ refl | false ↦ ap suc h ]

-- so it has as many requests
pub length-sorted : (l : List Request) → length (sorted l) ≡ length l
length-sorted [] = refl
length-sorted (q ∷ l) = length-insert q (sorted l) ∙ ap suc (length-sorted l)

-- EQUAL TAGS keep their order

module _ (n : ℕ) where
  -- the requests of tag n, in their order
  abbrev pub ties : List Request → List Request
  ties l = filter (λ q. eqb q.rtag n) l

  insert-ties : (q : Request) (l : List Request) → ties (insert q l) ≡ ties (q ∷ l)
  insert-ties q [] = refl
  insert-ties q (p ∷ l) = go (leb q.rtag p.rtag) refl (eqb p.rtag n) refl (insert-ties q l)
    where
      go : (b : Bool) → leb q.rtag p.rtag ≡ b → (c : Bool) → eqb p.rtag n ≡ c → ties (insert q l) ≡ ties (q ∷ l) → ties (insert q (p ∷ l)) ≡ ties (q ∷ p ∷ l)
      go true e c f h = rw e
      go false e true f h =
          let k = ne_eqb q.rtag n (λ i. omega (arith, leb-false q.rtag p.rtag e, eqb-true p.rtag n f)) in
          rw (e, f, h, k)
      go false e false f h = rw (e, f) h

  -- requests of one tag stand in a sorted list as they stood
  pub sorted-ties : (l : List Request) → ties (sorted l) ≡ ties l
  sorted-ties [] = refl
  sorted-ties (q ∷ l) =
      let h = sorted-ties l in
      insert-ties q (sorted l)
      ∙ ap (λ (m : List Request). if eqb q.rtag n then q ∷ m else m) h

-- WHAT SORTED MEANS, without computing it

each_at : (P : Request → Type 0) (l : List Request) → Each P l → (i : ℕ) → i < length l → P (at l i)
each_at P [] u i h = absurd (omega arith)
each_at P (q ∷ l) u zero h = u.0
each_at P (q ∷ l) u (suc i) h = each_at P l u.1 i (omega arith)

rising-at : (l : List Request) → Rising l → (i j : ℕ) → i < j → j < length l → (at l i).rtag ≤ (at l j).rtag
rising-at [] u i j h k = absurd (omega arith)
rising-at (q ∷ l) u i zero h k = absurd (omega arith)
rising-at (q ∷ l) u zero (suc j) h k = each_at _ l u.0 j (omega arith)
rising-at (q ∷ l) u (suc i) (suc j) h k = rising-at l u.1 i j (omega arith) (omega arith)

-- in demand 3's words, those are the requests of l "by reservation tag, equal tags by order of acceptance"
pub record ByTag (l those : List Request) : Type 0 where
  pub exactly : Permᴰ those l
  pub rising : (i j : ℕ) → i < j → j < length those → (at those i).rtag ≤ (at those j).rtag
  pub equal_tags : (n : ℕ) → ties n those ≡ ties n l

-- so it is with the sorted list
pub sorted_by_tag : (l : List Request) → ByTag l (sorted l)
sorted_by_tag l = record { exactly = sorted_perm l; rising = rising-at (sorted l) (sorted_rises l); equal_tags = λ n. sorted-ties n l }
