-- Places and picks: the place that stands foremost is what `least` picks, and `least` picks nothing else. The walks over the rows cite this.
-- Assumes nothing.
use mathlib.Core.Path.{◌≡◌, refl, sym, ap, ◌∙◌}
use mathlib.Core.Bool.{Bool, true, false, true≢false}
use mathlib.Core.List.{List, [], ◌∷◌}
use mathlib.Core.Logic.{⊎_elim}
use Prim.Native.Nat.{ℕ, zero, suc, ◌≤◌, ◌<◌}
use native.Mathlib.Omega.{arith}
use lib.Dec.{leb}
use lib.ListN.{length}
use borrow.Author.Tests.{leb-true, leb-false}
use Rattle.lists.specs.Words.{if◌then◌else◌}
use Rattle.lists.specs.Tab.{remove_at, lt_or_le}
use Rattle.rules.specs.Tables.{Request}
use Rattle.rules.specs.Choice.{Pick, nobody, picked, behind, against, least}
use Rattle.rules.specs.Chosen.{at, Foremost, NoneIs}

module _ (ok : Request → Bool) (tag : Request → ℕ) where
  -- p is the request at a place of w that stands foremost, and v is w without it
  pub record Place (w : List Request) (p : Request) (v : List Request) : Type 0 where
    pub place : ℕ
    pub foremost : Foremost ok tag w place
    pub request : p ≡ at w place
    pub others : v ≡ remove_at place w

  -- what a pick from w says of the places of w
  abbrev pub Says : List Request → Pick → Type 0
  Says w nobody = NoneIs ok w
  Says w (picked p v) = Place w p v

  -- a request in front that is ok, and that no ok request has a smaller tag than
  front : (q : Request) (w : List Request) → ok q ≡ true → ((j : ℕ) → j < length w → ok (at w j) ≡ true → tag q ≤ tag (at w j)) → Foremost ok tag (q ∷ w) 0
  front q w good least-of =
      record { inside = omega arith; good = good; smallest = small; earliest = λ j h. absurd (omega arith) }
    where
      small : (j : ℕ) → j < length (q ∷ w) → ok (at (q ∷ w) j) ≡ true → tag q ≤ tag (at (q ∷ w) j)
      small zero h o = omega arith
      small (suc j) h o = least-of j (omega arith) o

  -- a request in front that does not win
  later : (q : Request) (w : List Request) (i : ℕ) → Foremost ok tag w i → (ok q ≡ true → tag (at w i) < tag q) → Foremost ok tag (q ∷ w) (suc i)
  later q w i f loses =
      record { inside = omega (arith, f.inside); good = f.good; smallest = small; earliest = early }
    where
      small : (j : ℕ) → j < length (q ∷ w) → ok (at (q ∷ w) j) ≡ true → tag (at w i) ≤ tag (at (q ∷ w) j)
      small zero h o = omega (arith, loses o)
      small (suc j) h o = f.smallest j (omega arith) o

      early : (j : ℕ) → j < suc i → ok (at (q ∷ w) j) ≡ true → tag (at w i) < tag (at (q ∷ w) j)
      early zero h o = loses o
      early (suc j) h o = f.earliest j (omega arith) o

  -- what is picked from w, where q stands in front and does not win
  says_behind : (q : Request) (w : List Request) (p : Request) (v : List Request) (a : Place w p v) → (ok q ≡ true → tag p < tag q) → Place (q ∷ w) p (q ∷ v)
  says_behind q w p v a loses =
      record {
        place = suc a.place;
        foremost = later q w a.place a.foremost (λ o. rw a.request at (loses o));
        request = a.request;
        others = ap (q ∷◌) a.others;
      }

  -- what `least` picks stands foremost; where it picks nobody, none is ok
  pub least-place : (w : List Request) → Says w (least ok tag w)
  least-place [] = λ j h. absurd (omega arith)
  least-place (q ∷ w) = go (ok q) refl (least ok tag w) (least-place w)
    where
      none : NoneIs ok w → ok q ≡ false → NoneIs ok (q ∷ w)
      none n e zero h = e
      none n e (suc j) h = n j (omega arith)

      win : ok q ≡ true → ((j : ℕ) → j < length w → ok (at w j) ≡ true → tag q ≤ tag (at w j)) → Place (q ∷ w) q w
      win e s = record { place = 0; foremost = front q w e s; request = refl; others = refl }

      meet : (p : Request) (v : List Request) → Place w p v → ok q ≡ true → (c : Bool) → leb (tag q) (tag p) ≡ c → Says (q ∷ w) (if c then picked q w else picked p (q ∷ v))
      meet p v a e true l = win e (λ j h o. omega (arith, leb-true (tag q) (tag p) l, a.foremost.smallest j h o, ap tag a.request))
      meet p v a e false l = says_behind q w p v a (λ o. leb-false (tag q) (tag p) l)

      go : (b : Bool) → ok q ≡ b → (k : Pick) → Says w k → Says (q ∷ w) (if b then against tag q w k else behind q k)
      go true e nobody n = win e (λ j h o. absurd (true≢false (sym o ∙ n j h)))
      go true e (picked p v) a = meet p v a e (leb (tag q) (tag p)) refl
      go false e nobody n = none n e
      go false e (picked p v) a = says_behind q w p v a (λ o. absurd (true≢false (sym o ∙ e)))

  -- only one place stands foremost
  pub foremost_once : (w : List Request) (i j : ℕ) → Foremost ok tag w i → Foremost ok tag w j → i ≡ j
  foremost_once w i j a b =
      ⊎_elim (λ l. absurd (omega (arith, b.earliest i l a.good, a.smallest j b.inside b.good)))
      (λ l.
      ⊎_elim (λ m. absurd (omega (arith, a.earliest j m b.good, b.smallest i a.inside a.good))) (λ m. omega arith) (lt_or_le j i))
      (lt_or_le i j)

  -- the place that stands foremost is picked
  pub least_at : (w : List Request) (i : ℕ) → Foremost ok tag w i → least ok tag w ≡ picked (at w i) (remove_at i w)
  least_at w i f = go (least ok tag w) (least-place w)
    where
      go : (k : Pick) → Says w k → k ≡ picked (at w i) (remove_at i w)
      go nobody n = absurd (true≢false (sym f.good ∙ n i f.inside))
      go (picked p v) a = rw (a.request, a.others, foremost_once w a.place i a.foremost f)

  -- where none is ok, nobody is picked
  pub least-none : (w : List Request) → NoneIs ok w → least ok tag w ≡ nobody
  least-none w n = go (least ok tag w) (least-place w)
    where
      go : (k : Pick) → Says w k → k ≡ nobody
      go nobody m = refl
      go (picked p v) a = absurd (true≢false (sym a.foremost.good ∙ n a.place a.foremost.inside))
