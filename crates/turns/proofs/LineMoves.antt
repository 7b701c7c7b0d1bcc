-- Places in the line: an arrival stands behind all whose tags are at most its own, a change that the line does not look at leaves each place,
-- and a request stands just behind those ahead of it. Assumes nothing.
use mathlib.Core.Path.{◌≡◌, refl, ap, ap₂, ◌∙◌}
use mathlib.Core.Bool.{Bool, true, false, ◌&&◌}
use mathlib.Core.List.{List, [], ◌∷◌, ◌++◌, map, append-nil}
use Prim.Native.Nat.{ℕ, ◌≤◌, ◌<◌}
use native.Mathlib.Omega.{arith}
use lib.Dec.{ltb, leb}
use borrow.Author.Tests.{leb-true, leb-false, ltb-true, ltb-false, lt-leb, lt-ltb, le-ltb}
use Rattle.lists.specs.Words.{if◌then◌else◌, filter}
use Rattle.lists.specs.WordsLaws.{filter-append, filter-filter}
use Rattle.rules.specs.Tables.{Request}
use Rattle.turns.specs.Turn.{insert, sorted}
use Rattle.turns.proofs.Sorted.{Below, UpTo, From, each_weaken, each-insert, insert_gt, insert-left, insert_right}
use Rattle.turns.proofs.Line.{line_of}

-- AN ARRIVAL stands behind all whose tags are at most its own

-- q stands in front of the first whose tag is larger
abbrev late : Request → List Request → List Request
late q [] = q ∷ []
late q (p ∷ l) = if ltb q.rtag p.rtag then q ∷ p ∷ l else p ∷ late q l

late_le : (q p : Request) (l : List Request) → p.rtag ≤ q.rtag → late q (p ∷ l) ≡ p ∷ late q l
late_le q p l h = rw (le-ltb q.rtag p.rtag)

-- who joins first does not matter
insert-late : (p q : Request) (l : List Request) → insert p (late q l) ≡ late q (insert p l)
insert-late p q [] = go (leb p.rtag q.rtag) refl
  where
    go : (d : Bool) → leb p.rtag q.rtag ≡ d → insert p (q ∷ []) ≡ late q (p ∷ [])
    go true d = simp (d, le-ltb q.rtag p.rtag (leb-true _ _ d))
    go false d = simp (d, lt-ltb q.rtag p.rtag (leb-false _ _ d))
insert-late p q (y ∷ l) = go (leb p.rtag y.rtag) refl (ltb q.rtag y.rtag) refl (leb p.rtag q.rtag) refl (insert-late p q l)
  where
    go : (b : Bool) → leb p.rtag y.rtag ≡ b → (c : Bool) → ltb q.rtag y.rtag ≡ c → (d : Bool) → leb p.rtag q.rtag ≡ d
        → insert p (late q l) ≡ late q (insert p l) → insert p (late q (y ∷ l)) ≡ late q (insert p (y ∷ l))
    go true b true c true d h = simp (b, c, d, le-ltb q.rtag p.rtag (leb-true _ _ d))
    go true b true c false d h = simp (b, c, d, lt-ltb q.rtag p.rtag (leb-false _ _ d))
    go true b false c d e h = simp (b, c, le-ltb q.rtag p.rtag (omega (arith, leb-true p.rtag y.rtag b, ltb-false q.rtag y.rtag c)))
    go false b true c d e h = simp (b, c, lt-leb p.rtag q.rtag (omega (arith, leb-false p.rtag y.rtag b, ltb-true q.rtag y.rtag c)))
    go false b false c d e h = simp (b, c) (ap (y ∷◌) h)

-- the last accepted stands behind all of its tag
sorted_snoc : (w : List Request) (q : Request) → sorted (w ++ (q ∷ [])) ≡ late q (sorted w)
sorted_snoc [] q = refl
sorted_snoc (p ∷ w) q = ap (insert p) (sorted_snoc w q) ∙ insert-late p q (sorted w)

late_past : (q : Request) (l r : List Request) → UpTo q.rtag l → late q (l ++ r) ≡ l ++ late q r
late_past q [] r h = refl
late_past q (p ∷ l) r h = late_le q p (l ++ r) h.0 ∙ ap (p ∷◌) (late_past q l r h.1)

-- the line's first part l stays its first part when a request with no smaller tag arrives
pub arrived : (R : Request → Bool) (w : List Request) (q : Request) (l r : List Request) → line_of R w ≡ l ++ r → (R q ≡ true → UpTo q.rtag l)
    → (r' : List Request) × (line_of R (w ++ (q ∷ [])) ≡ l ++ r')
arrived R w q l r e h = go (R q) refl
  where
    go : (b : Bool) → R q ≡ b → (r' : List Request) × (line_of R (w ++ (q ∷ [])) ≡ l ++ r')
    go true f = (late q r, rw (filter-append R w (q ∷ []), f, sorted_snoc (filter R w) q, e) (late_past q l r (h f)))
    go false f = (r, rw (filter-append R w (q ∷ []), f, append-nil) e)

-- A CHANGE of what the line does not look at

module _ (R : Request → Bool) (f : Request → Request) (same : (q : Request) → R (f q) ≡ R q) (tag : (q : Request) → (f q).rtag ≡ q.rtag) where
  insert-map : (q : Request) (l : List Request) → insert (f q) (map f l) ≡ map f (insert q l)
  insert-map q [] = refl
  insert-map q (p ∷ l) =
      let h = insert-map q l in
      rw (ap₂ leb (tag q) (tag p))
      (elim (leb q.rtag p.rtag) as (λ b. (if b then f q ∷ f p ∷ map f l else f p ∷ insert (f q) (map f l)) ≡ map f (if b then q ∷ p ∷ l else p ∷ insert q l))
      [ true ↦ refl | false ↦ ap (f p ∷◌) h ])

  -- each stands where it stood
  pub line-map : (w : List Request) → line_of R (map f w) ≡ map f (line_of R w)
  line-map [] = refl
  line-map (q ∷ w) =
      let h = line-map w in
      rw (same q)
      (elim (R q) as (λ b. sorted (if b then f q ∷ filter R (map f w) else filter R (map f w)) ≡ map f (sorted (if b then q ∷ filter R w else filter R w)))
      [ true ↦ ap (insert (f q)) h ∙ insert-map q (line_of R w) | false ↦ h ])

  -- and is due where it was
  pub upto_map : (n : ℕ) (l : List Request) → UpTo n l → UpTo n (map f l)
  upto_map n [] h = tt
  upto_map n (q ∷ l) h = (rw (tag q) h.0, upto_map n l h.1)

-- THE PLACE of a request: behind those that came before it with no larger tag, and those that came after it with a smaller one

-- those below n stand first
abbrev Low : ℕ → List Request → List Request → Type 0
Low n l w = (r : List Request) × (sorted w ≡ l ++ r) × From n r × Below n l

low : (n : ℕ) (w : List Request) → Low n (sorted (filter (λ q. ltb q.rtag n) w)) w
low n [] = ([], refl, tt, tt)
low n (q ∷ w) = go (ltb q.rtag n) refl (low n w)
  where
    f : List Request
    f = filter (λ q. ltb q.rtag n) w

    go : (b : Bool) → ltb q.rtag n ≡ b → Low n (sorted f) w → Low n (sorted (if b then q ∷ f else f)) (q ∷ w)
    go true b h =
        let k : q.rtag < n = ltb-true _ _ b in
        (h.0, ap (insert q) h.1 ∙ insert-left q (sorted f) h.0 (each_weaken _ _ (λ p i. omega arith) h.0 h.2), h.2, each-insert _ q (sorted f) k h.3)
    go false b h =
        let k : n ≤ q.rtag = ltb-false _ _ b in
        (insert q h.0, ap (insert q) h.1 ∙ insert_right q (sorted f) h.0 (each_weaken _ _ (λ p i. omega arith) (sorted f) h.3), each-insert _ q h.0 k h.2, h.3)

-- x stands behind the list l in the line of w; the tags of l are at most its own, those behind it at least
abbrev pub Behind : Request → List Request → List Request → Type 0
Behind x l w = (r : List Request) × (sorted w ≡ l ++ x ∷ r) × From x.rtag r × UpTo x.rtag l

place : (x : Request) (a b : List Request)
    → Behind x (sorted (filter (λ q. leb q.rtag x.rtag) a ++ filter (λ q. ltb q.rtag x.rtag) b)) (a ++ x ∷ b)
place x [] b = go (low x.rtag b)
  where
    l : List Request
    l = sorted (filter (λ q. ltb q.rtag x.rtag) b)

    go : Low x.rtag l b → Behind x l (x ∷ b)
    go (r, e, o, u) = (r, ap (insert x) e ∙ insert_right x l r u ∙ ap (l ++◌) (insert-left x [] r o), o, each_weaken _ _ (λ p i. omega arith) l u)
place x (q ∷ a) b = go (leb q.rtag x.rtag) refl (place x a b)
  where
    f : List Request
    f = filter (λ q. leb q.rtag x.rtag) a

    g : List Request
    g = filter (λ q. ltb q.rtag x.rtag) b

    go : (c : Bool) → leb q.rtag x.rtag ≡ c → Behind x (sorted (f ++ g)) (a ++ x ∷ b) → Behind x (sorted ((if c then q ∷ f else f) ++ g)) (q ∷ a ++ x ∷ b)
    go true c (r, e, o, u) =
        let k : q.rtag ≤ x.rtag = leb-true _ _ c in
        (r, ap (insert q) e ∙ insert-left q (sorted (f ++ g)) (x ∷ r) (k, each_weaken _ _ (λ p i. omega arith) r o), o, each-insert _ q (sorted (f ++ g)) k u)
    go false c (r, e, o, u) =
        let k : x.rtag < q.rtag = leb-false _ _ c in
        (insert q r, ap (insert q) e ∙ insert_right q (sorted (f ++ g)) (x ∷ r) (each_weaken _ _ (λ p i. omega arith) (sorted (f ++ g)) u) ∙ ap (sorted (f ++ g) ++◌) (insert_gt q x r k), each-insert _ q r (omega arith) o, u)

-- where R lets x in, it stands in the line just behind those ahead of it
pub place_of : (R : Request → Bool) (x : Request) (a b : List Request) → R x ≡ true
    → Behind x (sorted (filter (λ q. R q && leb q.rtag x.rtag) a ++ filter (λ q. R q && ltb q.rtag x.rtag) b)) (filter R (a ++ x ∷ b))
place_of R x a b e =
    rw (filter-append R a (x ∷ b), e, ← filter-filter R (λ q. leb q.rtag x.rtag) a, ← filter-filter R (λ q. ltb q.rtag x.rtag) b)
    (place x (filter R a) (filter R b))
