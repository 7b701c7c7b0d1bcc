-- The line: of the requests that a test R lets in, all of them in order of reservation tags, equal tags in order of acceptance. The choice
-- takes the first in line that passes, and takes it out of the line. Assumes nothing.
use mathlib.Core.Path.{◌≡◌, refl, ap, ◌∙◌}
use mathlib.Core.Bool.{Bool, true, false, ◌&&◌}
use mathlib.Core.List.{List, [], ◌∷◌, ◌++◌}
use Prim.Native.Nat.{ℕ, ◌≤◌, ◌<◌}
use native.Mathlib.Omega.{arith}
use lib.Dec.{leb}
use borrow.Author.Tests.{leb-true, leb-false, le-leb}
use Rattle.lists.specs.Words.{if◌then◌else◌, filter}
use Rattle.rules.specs.Tables.{Request}
use Rattle.rules.specs.Choice.{Pick, nobody, picked, behind, against, least}
use Rattle.turns.specs.Turn.{insert, sorted}
use Rattle.turns.proofs.Sorted.{Each, From, Rising, each_weaken, insert_le, insert_gt, insert-left, sorted_rises}

-- the line of the list w
abbrev pub line_of : (R : Request → Bool) → List Request → List Request
line_of R w = sorted (filter R w)

-- THE CHOICE takes the first in line that passes

-- the first of the list that is ok, and the others in their order
abbrev pub first : (ok : Request → Bool) → List Request → Pick
first ok [] = nobody
first ok (q ∷ l) = if ok q then picked q l else behind q (first ok l)

-- the same pick, and of the others their line
abbrev pub in_line : (R : Request → Bool) → Pick → Pick
in_line R nobody = nobody
in_line R (picked p w) = picked p (line_of R w)

module _ (ok : Request → Bool) where
  -- what becomes of the first in the line l when q joins it
  abbrev joined : Request → List Request → Pick → Pick
  joined q l nobody = if ok q then picked q l else nobody
  joined q l (picked p s) = if ok q && leb q.rtag p.rtag then picked q l else picked p (insert q s)

  -- the tags of a pick and of the others lie at or past n
  abbrev PickFrom : ℕ → Pick → Type 0
  PickFrom n nobody = Unit {0}
  PickFrom n (picked p s) = (n ≤ p.rtag) × From n s

  -- a list whose tags lie at or past n has such a first one
  from_first : (n : ℕ) (l : List Request) → From n l → PickFrom n (first ok l)
  from_first n [] h = tt
  from_first n (q ∷ l) h = go (ok q) (first ok l) (from_first n l h.1)
    where
      go : (b : Bool) (k : Pick) → PickFrom n k → PickFrom n (if b then picked q l else behind q k)
      go true k i = h
      go false nobody i = tt
      go false (picked p s) i = (i.0, (h.0, i.1))

  -- q joins in front
  join_front : (q : Request) (l : List Request) (k : Pick) → PickFrom q.rtag k → (if ok q then picked q l else behind q k) ≡ joined q l k
  join_front q l nobody h = refl
  join_front q l (picked p s) h =
      let i = le-leb q.rtag p.rtag h.0 in
      rw (i, insert-left q [] s h.1)
      (elim (ok q) as (λ b. (if b then picked q l else picked p (q ∷ s)) ≡ (if b && true then picked q l else picked p (q ∷ s))) [ true ↦ refl | false ↦ refl ])

  -- q joins behind y, which is not ok
  join_behind : (q y : Request) (l : List Request) → y.rtag < q.rtag → (k : Pick) → behind y (joined q l k) ≡ joined q (y ∷ l) (behind y k)
  join_behind q y l h nobody = elim (ok q) as (λ b. behind y (if b then picked q l else nobody) ≡ (if b then picked q (y ∷ l) else nobody)) [ true ↦ refl | false ↦ refl ]
  join_behind q y l h (picked p s) =
      rw (insert_gt q y s h)
      (elim (ok q && leb q.rtag p.rtag) as (λ b. behind y (if b then picked q l else picked p (insert q s)) ≡ (if b then picked q (y ∷ l) else picked p (y ∷ insert q s)))
      [ true ↦ refl | false ↦ refl ])

  -- so it is when q joins a line in which the tags rise
  first-insert : (q : Request) (l : List Request) → Rising l → first ok (insert q l) ≡ joined q l (first ok l)
  first-insert q [] r = refl
  first-insert q (y ∷ l) r = go (leb q.rtag y.rtag) refl (ok y) refl (first-insert q l r.1)
    where
      go : (b : Bool) → leb q.rtag y.rtag ≡ b → (c : Bool) → ok y ≡ c → first ok (insert q l) ≡ joined q l (first ok l)
          → first ok (insert q (y ∷ l)) ≡ joined q (y ∷ l) (first ok (y ∷ l))
      go true e c f h =
          let i : q.rtag ≤ y.rtag = leb-true _ _ e in
          ap (first ok) (insert_le q y l i)
          ∙ join_front q (y ∷ l) (first ok (y ∷ l)) (from_first q.rtag (y ∷ l) (i, each_weaken _ _ (λ p j. omega arith) l r.0))
      go false e true f h =
          rw (e, f)
          (rw e
          (elim (ok q) as (λ b. picked y (insert q l) ≡ (if b && false then picked q (y ∷ l) else picked y (insert q l))) [ true ↦ refl | false ↦ refl ]))
      go false e false f h = rw (e, f, h) (join_behind q y l (leb-false _ _ e) (first ok l))

-- of the requests that R lets in and that are ok, the pick by reservation tag is the first in line that is ok; and out of the list it is out of the line
pub first_in_line : (R ok : Request → Bool) (w : List Request) → first ok (line_of R w) ≡ in_line R (least (λ q. R q && ok q) Request.rtag w)
first_in_line R ok [] = refl
first_in_line R ok (q ∷ w) = go (R q) refl (ok q) refl (least (λ q. R q && ok q) Request.rtag w) (first_in_line R ok w)
  where
    joins : (k : Pick) → first ok (line_of R w) ≡ in_line R k → first ok (insert q (line_of R w)) ≡ joined ok q (line_of R w) (in_line R k)
    joins k h = first-insert ok q (line_of R w) (sorted_rises (filter R w)) ∙ ap (joined ok q (line_of R w)) h

    go : (b : Bool) → R q ≡ b → (c : Bool) → ok q ≡ c → (k : Pick) → first ok (line_of R w) ≡ in_line R k
        → first ok (line_of R (q ∷ w)) ≡ in_line R (if R q && ok q then against Request.rtag q w k else behind q k)
    go false e c f nobody h = rw e h
    go false e c f (picked p v) h = rw e (rw e h)
    go true e true f nobody h = rw (e, f) (joins nobody h ∙ rw f)
    go true e false f nobody h = rw (e, f) (joins nobody h ∙ rw f)
    go true e true f (picked p v) h =
        rw (e, f)
        (joins (picked p v) h
        ∙ rw f
        (elim (leb q.rtag p.rtag) as (λ b. (if b then picked q (line_of R w) else picked p (insert q (line_of R v))) ≡ in_line R (if b then picked q w else picked p (q ∷ v)))
        [ true ↦ refl | false ↦ rw e ]))
    go true e false f (picked p v) h = rw (e, f) (joins (picked p v) h ∙ rw (f, e))

-- so where the pick k is p in line, p is picked, and what stays has the line that stays
pub out-of-line : (R : Request → Bool) (k : Pick) (p : Request) (l : List Request) → in_line R k ≡ picked p l → (v : List Request) × (k ≡ picked p v) × (line_of R v ≡ l)
out-of-line R nobody p l e = let z : ◌≡◌ {A = ℕ} 0 1 = cc in absurd (omega arith)
out-of-line R (picked y v) p l e = (v, cc, cc)

-- what the first of the list h ++ x ∷ r is, where x is ok: x itself, if none of h is ok, or one of h behind those that are not ok
pub data Found (ok : Request → Bool) (h : List Request) (x : Request) (r : List Request) (k : Pick) : Type 0 where
  last : Each (λ q. ok q ≡ false) h → k ≡ picked x (h ++ r) → Found ok h x r k
  sooner : (a : List Request) (y : Request) (b : List Request) → h ≡ a ++ y ∷ b → Each (λ q. ok q ≡ false) a → k ≡ picked y ((a ++ b) ++ x ∷ r) → Found ok h x r k

pub finds : (ok : Request → Bool) (h : List Request) (x : Request) (r : List Request) → ok x ≡ true → Found ok h x r (first ok (h ++ x ∷ r))
finds ok [] x r e = rw e (last tt refl)
finds ok (q ∷ h) x r e = go (ok q) refl (finds ok h x r e)
  where
    go : (b : Bool) → ok q ≡ b → Found ok h x r (first ok (h ++ x ∷ r)) → Found ok (q ∷ h) x r (if b then picked q (h ++ x ∷ r) else behind q (first ok (h ++ x ∷ r)))
    go true f k = sooner [] q h refl tt refl
    go false f (last n k) = last (f, n) (ap (behind q) k)
    go false f (sooner a y b i n k) = sooner (q ∷ a) y b (ap (q ∷◌) i) (f, n) (ap (behind q) k)
