-- The first place of which a test tells. Assumes nothing.
use Rattle.std.specs.Prelude.{Some, None, Option}
use Prim.Native.Nat.{ℕ, zero, suc, ◌+◌, ◌<◌}
use mathlib.Core.Path.{◌≡◌, refl, ap, ◌∙◌, subst}
use mathlib.Core.Bool.{Bool, true, false}
use mathlib.Core.List.{List, [], ◌∷◌}
use native.Mathlib.Omega.{arith}
use lib.ListN.{length}
use Rattle.lists.specs.Words.{if◌then◌else◌}
use Rattle.rules.specs.Tables.{Request}
use Rattle.rules.specs.Chosen.{at, NoneIs}
use Rattle.judge.specs.Judging.{place_from}

module _ (f : Request → Bool) where
  -- place i of w, counted from k on, is the first of which f tells
  pub record First (k : ℕ) (w : List Request) (n : ℕ) : Type 0 where
    pub place : ℕ
    pub numbered : n ≡ k + place
    pub inside : place < length w
    pub tells : f (at w place) ≡ true

  -- what a place that was found says
  abbrev pub Says : (k : ℕ) → List Request → Option ℕ → Type 0
  Says k w (Some n) = First k w n
  Says k w None = NoneIs f w

  pub place_says : (k : ℕ) (w : List Request) → Says k w (place_from f k w)
  place_says k [] = λ j h. absurd (omega arith)
  place_says k (q ∷ w) = go (f q) refl (place_from f (k + 1) w) (place_says (k + 1) w)
    where
      none : f q ≡ false → NoneIs f w → NoneIs f (q ∷ w)
      none e n zero h = e
      none e n (suc j) h = n j (omega arith)

      go : (b : Bool) → f q ≡ b → (x : Option ℕ) → Says (k + 1) w x → Says k (q ∷ w) (if b then Some k else x)
      go true e x s = record { place = 0; numbered = omega arith; inside = omega arith; tells = e }
      go false e (Some n) s = record { place = suc s.place; numbered = omega (arith, s.numbered); inside = omega (arith, s.inside); tells = s.tells }
      go false e None s = none e s

  -- what was found is there
  pub found_inside : (w : List Request) (n : ℕ) → place_from f 0 w ≡ Some n → n < length w
  found_inside w n e = let a = subst (Says 0 w) e (place_says 0 w) in omega (arith, a.inside, a.numbered)

  -- the first place of which f tells is found
  pub place_found : (k : ℕ) (w : List Request) (i : ℕ) → i < length w → f (at w i) ≡ true → ((j : ℕ) → j < i → f (at w j) ≡ false) → place_from f k w ≡ Some (k + i)
  place_found k [] i h t n = absurd (omega arith)
  place_found k (q ∷ w) zero h t n = rw t (ap Some (let e : k ≡ k + 0 = omega arith in e))
  place_found k (q ∷ w) (suc i) h t n =
      rw (n 0 (omega arith)) (place_found (k + 1) w i (omega arith) t (λ j l. n (suc j) (omega arith)) ∙ ap Some (let e : k + 1 + i ≡ k + suc i = omega arith in e))

  -- where it tells of none, none is found
  pub place_none : (k : ℕ) (w : List Request) → NoneIs f w → place_from f k w ≡ None
  place_none k [] n = refl
  place_none k (q ∷ w) n = rw (n 0 (omega arith)) (place_none (k + 1) w (λ j h. n (suc j) (omega arith)))
