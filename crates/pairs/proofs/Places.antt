-- `distinct` by places of both tables. Assumes nothing.
use Prim.Native.Nat.{ℕ, zero, suc, ◌+◌, ◌-◌, ◌≤◌, ◌<◌}
use mathlib.Core.Path.{◌≡◌, refl, sym, ap, ◌∙◌}
use mathlib.Core.Bool.{Bool, true, false, not, ◌&&◌, and-false, false≢true}
use mathlib.Core.List.{List, [], ◌∷◌, map}
use mathlib.Core.Logic.{⊎_elim}
use native.Mathlib.Omega.{arith}
use lib.Dec.{eqb}
use lib.ListN.{length, get_or, length-append, length-map, get_or-append, get_or-map}
use lib.Seq.{get_or-append-add}
use borrow.Author.Tests.{eq-eqb, eqb-true, lt-ltb, le-ltb}
use Rattle.lists.specs.Words.{below}
use Rattle.lists.specs.WordsLaws.{join, both, place_not, below_at, at-below}
use Rattle.lists.specs.Tab.{lt_or_le}
use Rattle.lists.specs.RowsLaws.{row-at, length-rows}
use Rattle.rules.specs.Tables.{name, same, lacks}
use Rattle.rules.specs.declared.Flight.{Flight}
use Rattle.rules.specs.Sound.{distinct}
use Rattle.table.specs.View.{request_form, flight_form, waiting_of, flights_of, nameless}
use Rattle.pairs.specs.Names.{names_of, part_at, other_at}

-- BY PLACES

-- one guest and one id
same_is : (a b : Flight) → a.guest ≡ b.guest → a.id ≡ b.id → same a b ≡ true
same_is a b e f = join (eq-eqb a.guest b.guest e) (eq-eqb a.id b.id f)

-- two pairs of numbers that are not both alike
pub not_both : (a b c d : ℕ) → (a ≡ b → c ≡ d → ⊥) → not (eqb a b && eqb c d) ≡ true
not_both a b c d h = go (eqb a b) refl (eqb c d) refl
  where
    go : (x : Bool) → eqb a b ≡ x → (y : Bool) → eqb c d ≡ y → not (x && y) ≡ true
    go false e y f = refl
    go true e false f = refl
    go true e true f = absurd (h (eqb-true a b e) (eqb-true c d f))

-- two names that a test finds different
pub both_differ : (a b c d : ℕ) → (eqb a b && eqb c d) ≡ false → a ≡ b → c ≡ d → ⊥
both_differ a b c d h e f = false≢true (sym h ∙ join (eq-eqb a b e) (eq-eqb c d f))

-- and two that it finds alike
pub both_same : (a b c d : ℕ) → (eqb a b && eqb c d) ≡ true → (a ≡ b) × (c ≡ d)
both_same a b c d h = let (e, f) = both (eqb a b) (eqb c d) h in (eqb-true a b e, eqb-true c d f)

-- not one guest and one id
same_not : (a b : Flight) → (a.guest ≡ b.guest → a.id ≡ b.id → ⊥) → not (same a b) ≡ true
same_not a b h = not_both a.guest b.guest a.id b.id h

-- no place has the name a
lacks-none : (a : Flight) (l : List Flight) → ((i : ℕ) → i < length l → a.guest ≡ (get_or l i nameless).guest → a.id ≡ (get_or l i nameless).id → ⊥) → lacks a l ≡ true
lacks-none a [] h = refl
lacks-none a (b ∷ l) h = join (same_not a b (h 0 (omega arith))) (lacks-none a l (λ i m. h (suc i) (omega arith)))

-- two places with one name
distinct_hit : (l : List Flight) (j i : ℕ) → j < i → i < length l → (get_or l j nameless).guest ≡ (get_or l i nameless).guest → (get_or l j nameless).id ≡ (get_or l i nameless).id → distinct l ≡ false
unfolding distinct
distinct_hit [] j i h m e f = absurd (omega arith)
distinct_hit (a ∷ l) j zero h m e f = absurd (omega arith)
distinct_hit (a ∷ l) zero (suc i) h m e f = rw (place_not (λ b. not (same a b)) l nameless i (omega arith) (ap not (same_is a (get_or l i nameless) e f)))
distinct_hit (a ∷ l) (suc j) (suc i) h m e f = rw (distinct_hit l j i (omega arith) (omega arith) e f) (and-false (lacks a l))

-- and no two
distinct_none : (l : List Flight) → ((j i : ℕ) → j < i → i < length l → (get_or l j nameless).guest ≡ (get_or l i nameless).guest → (get_or l j nameless).id ≡ (get_or l i nameless).id → ⊥) → distinct l ≡ true
unfolding distinct
distinct_none [] h = refl
distinct_none (a ∷ l) h = join (lacks-none a l (λ i m. h 0 (suc i) (omega arith) (omega arith))) (distinct_none l (λ j i k m. h (suc j) (suc i) (omega arith) (omega arith)))

-- BOTH TABLES

module _ (ws : List ℕ) (n : ℕ) (fs : List ℕ) (m : ℕ) where
  -- as many names as requests
  size : length (map name (waiting_of ws n)) ≡ n
  size = length-map (waiting_of ws n) name ∙ length-rows request_form ws n

  length-names : length (names_of ws n fs m) ≡ n + m
  length-names = omega (arith, length-append (map name (waiting_of ws n)) (flights_of fs m), size, length-rows flight_form fs m)

  -- the name at place k is what the code reads
  name-at : (k : ℕ) → k < n + m → get_or (names_of ws n fs m) k nameless ≡ record { guest = part_at ws n fs 0 k; id = part_at ws n fs 1 k }
  unfolding part_at
  name-at k h = ⊎_elim low high (lt_or_le k n)
    where
      low : k < n → get_or (names_of ws n fs m) k nameless ≡ record { guest = part_at ws n fs 0 k; id = part_at ws n fs 1 k }
      low l =
          get_or-append (map name (waiting_of ws n)) (flights_of fs m) nameless k (omega (arith, size))
          ∙ get_or-map name (waiting_of ws n) k (request_form.read [])
          ∙ ap name (row-at request_form ws n k l)
          ∙ sym (rw (lt-ltb k n l))

      high : n ≤ k → get_or (names_of ws n fs m) k nameless ≡ record { guest = part_at ws n fs 0 k; id = part_at ws n fs 1 k }
      high l =
          let e : k ≡ length (map name (waiting_of ws n)) + (k - n) = omega (arith, size) in
          ap (λ (i : ℕ). get_or (names_of ws n fs m) i nameless) e
          ∙ get_or-append-add (map name (waiting_of ws n)) (flights_of fs m) (k - n) nameless
          ∙ row-at flight_form fs m (k - n) (omega arith)
          ∙ sym (rw (le-ltb k n l))

  -- two places that the code reads as one name
  pub names_hit : (j i : ℕ) → j < i → i < n + m → part_at ws n fs 0 j ≡ part_at ws n fs 0 i → part_at ws n fs 1 j ≡ part_at ws n fs 1 i → distinct (names_of ws n fs m) ≡ false
  names_hit j i l h e g =
      let at_j = name-at j (omega arith) in
      let at_i = name-at i h in
      distinct_hit (names_of ws n fs m) j i l (omega (arith, length-names))
      (ap Flight.guest at_j ∙ e ∙ sym (ap Flight.guest at_i)) (ap Flight.id at_j ∙ g ∙ sym (ap Flight.id at_i))

  -- and no two
  pub names-none : ((i j : ℕ) → i < n + m → j < i → part_at ws n fs 0 j ≡ part_at ws n fs 0 i → part_at ws n fs 1 j ≡ part_at ws n fs 1 i → ⊥) → distinct (names_of ws n fs m) ≡ true
  names-none h =
      distinct_none (names_of ws n fs m)
      (λ j i l k e g.
      let b : i < n + m = omega (arith, length-names) in
      let at_j = name-at j (omega arith) in
      let at_i = name-at i b in
      h i j b l (sym (ap Flight.guest at_j) ∙ e ∙ ap Flight.guest at_i) (sym (ap Flight.id at_j) ∙ g ∙ ap Flight.id at_i))

  -- an earlier request has the name of request i
  pub names_old : (i : ℕ) → i < n + m → below i (other_at ws n fs i) ≡ false → distinct (names_of ws n fs m) ≡ false
  names_old i h e = go (distinct (names_of ws n fs m)) refl
    where
      go : (b : Bool) → distinct (names_of ws n fs m) ≡ b → distinct (names_of ws n fs m) ≡ false
      go false q = q
      go true q =
          absurd
          (false≢true
          (sym e
          ∙ at-below i (other_at ws n fs i)
          (λ j l. not_both (part_at ws n fs 0 j) (part_at ws n fs 0 i) (part_at ws n fs 1 j) (part_at ws n fs 1 i) (λ g d. false≢true (sym (names_hit j i l h g d) ∙ q)))))

  -- and none
  pub names-new : (i : ℕ) → below i (other_at ws n fs i) ≡ true → (k : ℕ) → k < i → part_at ws n fs 0 k ≡ part_at ws n fs 0 i → part_at ws n fs 1 k ≡ part_at ws n fs 1 i → ⊥
  names-new i e k l g d = false≢true (sym (ap not (join (eq-eqb _ _ g) (eq-eqb _ _ d))) ∙ below_at i (other_at ws n fs i) e k l)
