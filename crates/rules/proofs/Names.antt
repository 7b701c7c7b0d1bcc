-- Names of requests: that each stands once does not depend on where it stands. Assumes nothing.
use mathlib.Core.Path.{◌≡◌, refl, ap, ap₂, ◌∙◌}
use mathlib.Core.Bool.{Bool, true, false, not, ◌&&◌}
use mathlib.Core.List.{List, [], ◌∷◌, ◌++◌, map, append-nil, append_assoc}
use Rattle.lists.specs.Words.{if◌then◌else◌, without}
use Rattle.lists.specs.WordsLaws.{both, join, eqb_sym, all_parts, all_append, all_without, map-append}
use Rattle.rules.specs.Tables.{Request, Flight, name, same, lacks}
use Rattle.rules.specs.Sound.{distinct}

-- to have the same name is mutual
same_sym : (a b : Flight) → same a b ≡ same b a
same_sym a b = ap₂ ◌&&◌ (eqb_sym a.guest b.guest) (eqb_sym a.id b.id)

-- the order of four tests
and_swap : (a b c d : Bool) → (b && a) && (c && d) ≡ (b && c) && (a && d)
and_swap a true c d =
    elim a as (λ a. a && (c && d) ≡ c && (a && d))
    [ true ↦ refl | false ↦ elim c as (λ c. false ≡ c && false) [ true ↦ refl | false ↦ refl ] ]
and_swap a false c d = refl

-- the order of three tests
and_push : (a b c : Bool) → a && (b && c) ≡ b && (a && c)
and_push true b c = refl
and_push false b c = elim b as (λ b. false ≡ b && false) [ true ↦ refl | false ↦ refl ]

-- to lack names with a in their middle is to lack a and the others
lacks_mid : (x a : Flight) (xs ys : List Flight) → lacks x (xs ++ a ∷ ys) ≡ not (same x a) && lacks x (xs ++ ys)
lacks_mid x a [] ys = refl
lacks_mid x a (y ∷ xs) ys =
    ap (not (same x y) &&◌) (lacks_mid x a xs ys) ∙ and_push (not (same x y)) (not (same x a)) (lacks x (xs ++ ys))

-- a name in the middle stands once where the others lack it and each of them stands once
pub distinct_mid : (xs : List Flight) (a : Flight) (ys : List Flight) → distinct (xs ++ a ∷ ys) ≡ lacks a (xs ++ ys) && distinct (xs ++ ys)
unfolding distinct
distinct_mid [] a ys = refl
distinct_mid (x ∷ xs) a ys =
    rw (lacks_mid x a xs ys, distinct_mid xs a ys, same_sym x a)
    (and_swap (lacks x (xs ++ ys)) (not (same a x)) (lacks a (xs ++ ys)) (distinct (xs ++ ys)))

-- a name goes from the middle to the end
pub distinct_last : (xs : List Flight) (a : Flight) (ys : List Flight) → distinct (xs ++ a ∷ ys) ≡ true → distinct ((xs ++ ys) ++ (a ∷ [])) ≡ true
distinct_last xs a ys h = rw (distinct_mid (xs ++ ys) a [], append-nil) (rw (distinct_mid xs a ys) at h)

-- names where one is taken out of the second part
pub distinct_without : (k : Flight → Bool) (a b : List Flight) → distinct (a ++ b) ≡ true → distinct (a ++ without k b) ≡ true
unfolding distinct
distinct_without k (x ∷ a) b h =
    let c = both (lacks x (a ++ b)) (distinct (a ++ b)) h in
    let d = all_parts (λ y. not (same x y)) a b c.0 in
    join (all_append (λ y. not (same x y)) a (without k b) d.0 (all_without (λ y. not (same x y)) k b d.1))
    (distinct_without k a b c.1)
distinct_without k [] [] h = refl
distinct_without k [] (x ∷ b) h =
    let c = both (lacks x b) (distinct b) h in
    let i = distinct_without k [] b c.1 in
    elim (k x) as (λ z. distinct (if z then b else x ∷ without k b) ≡ true)
    [ true ↦ c.1 | false ↦ join (all_without (λ y. not (same x y)) k b c.0) i ]

-- the names of a waiting list with p in its middle, and of what is in flight
pub names_mid : (a b : List Request) (p : Request) (l : List Flight) → map name (a ++ p ∷ b) ++ l ≡ map name a ++ name p ∷ (map name b ++ l)
names_mid a b p l = rw (map-append name a (p ∷ b)) (append_assoc (map name a) (name p ∷ map name b) l)

-- and when p has gone to the end of the flight
pub names_sent : (a b : List Request) (p : Request) (l : List Flight) → map name (a ++ b) ++ (l ++ (name p ∷ [])) ≡ (map name a ++ (map name b ++ l)) ++ (name p ∷ [])
names_sent a b p l = simp (map-append, append_assoc)
