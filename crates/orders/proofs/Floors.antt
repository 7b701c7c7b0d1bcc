-- The walks of all guests at once: the gap of each guest, a list of lows and one of floors, one number a guest each, and the requests from the first to the last.
-- Assumes nothing.
use Prim.Native.Nat.{ℕ, suc, ◌+◌, ◌*◌, ◌≤◌, ◌<◌}
use mathlib.Core.Path.{◌≡◌, refl, sym, ap, ◌∙◌}
use mathlib.Core.Bool.{Bool, true, false, ◌&&◌}
use mathlib.Core.List.{List, ◌∷◌}
use native.Mathlib.Omega.{arith}
use native.Mathlib.Numerals.{add-one}
use lib.Dec.{eqb}
use lib.ListN.{length, get_or, set, drop, replicate, length-set, length-replicate, get_or-replicate, drop_of_length-le}
use lib.Seq.{drop-cons, get_or-set_same, get_or-set_other}
use borrow.Author.Tests.{eq-eqb, ne_eqb, eqb-true, eqb-false}
use Rattle.rules.specs.Tables.{Request, mine}
use Rattle.table.specs.Columns.{most_guests}
use Rattle.entries.specs.Kinds.{passes, ends}
use Rattle.orders.proofs.Chains.{run}

-- a request stands first of what waits of its guest
mine-own : (g : ℕ) (q : Request) (w : List Request) → q.guest ≡ g → mine g (q ∷ w) ≡ q ∷ mine g w
mine-own g q w e = rw (eq-eqb q.guest g e)

-- and what waits of another guest does not change
mine_other : (g : ℕ) (q : Request) (w : List Request) → (q.guest ≡ g → ⊥) → mine g (q ∷ w) ≡ mine g w
mine_other g q w h = rw (ne_eqb q.guest g h)

module _ (tag : Request → ℕ) (near : ℕ → ℕ) (w : List Request) (gap next : ℕ → ℕ) (known : ℕ) where
  -- what the test of guest g comes to from request i on, where lows and floors are as they are
  abbrev pub left : (lows floors : List ℕ) (i g : ℕ) → Bool
  left lows floors i g = run tag near (gap g) (get_or lows g 0) (get_or floors g 0) (mine g (drop i w)) (next g)

  -- what it comes to from the first request on
  abbrev pub whole : ℕ → Bool
  whole g = run tag near (gap g) 0 0 (mine g w) (next g)

  -- the lows and floors before request i: with them every guest's test still comes to the same
  pub record Floors (lows floors : List ℕ) (i : ℕ) : Type 0 where
    pub low_long : length lows ≡ most_guests
    pub long : length floors ≡ most_guests
    pub still : (g : ℕ) → g < known → left lows floors i g ≡ whole g

  -- before the first request they are zeros
  pub floors_start : known ≤ most_guests → Floors (replicate most_guests 0) (replicate most_guests 0) 0
  floors_start few =
      record {
        low_long = length-replicate {A = ℕ} most_guests 0;
        long = length-replicate {A = ℕ} most_guests 0;
        still = λ g h. ap (λ (f : ℕ). run tag near (gap g) f f (mine g w) (next g)) (get_or-replicate {A = ℕ} most_guests g 0 0 (omega arith));
      }

  module _ (z : Request) (lows floors : List ℕ) (i : ℕ) (s : Floors lows floors i) (here : i < length w) where
    abbrev q : Request
    q = get_or w i z

    abbrev g₀ : ℕ
    g₀ = q.guest

    -- what its guest has left behind it
    abbrev then : Bool
    then = run tag near (gap g₀) (tag q + near (q.cost * gap g₀)) (tag q + q.cost * gap g₀) (mine g₀ (drop (suc i) w)) (next g₀)

    -- the request's test is the first that its guest has left
    own : left lows floors i g₀ ≡ (passes (gap g₀) (get_or lows g₀ 0) (tag q) && then)
    unfolding run
    own =
        ap (λ (l : List Request). run tag near (gap g₀) (get_or lows g₀ 0) (get_or floors g₀ 0) l (next g₀))
        (ap (mine g₀) (drop-cons w i z here) ∙ mine-own g₀ q (drop (suc i) w) refl)

    -- a tag that does not pass decides its guest's test
    pub floors_fail : g₀ < known → passes (gap g₀) (get_or lows g₀ 0) (tag q) ≡ false → whole g₀ ≡ false
    floors_fail h e = sym (s.still g₀ h) ∙ own ∙ ap (λ (b : Bool). b && then) e

    -- one that passes is the low and the floor of the next
    pub floors_next : (u v : ℕ) → known ≤ most_guests → g₀ < known → passes (gap g₀) (get_or lows g₀ 0) (tag q) ≡ true → u ≡ tag q + near (q.cost * gap g₀) → v ≡ tag q + q.cost * gap g₀
        → Floors (set lows g₀ u) (set floors g₀ v) (i + 1)
    floors_next u v few h e d f =
        record {
          low_long = length-set lows g₀ u ∙ s.low_long;
          long = length-set floors g₀ v ∙ s.long;
          still = λ g k. rw add-one (go g k (eqb g g₀) refl);
        }
      where
        at_own : left (set lows g₀ u) (set floors g₀ v) (suc i) g₀ ≡ whole g₀
        at_own =
            ap (λ (x : ℕ). run tag near (gap g₀) x (get_or (set floors g₀ v) g₀ 0) (mine g₀ (drop (suc i) w)) (next g₀)) (get_or-set_same lows g₀ u 0 (omega (arith, s.low_long)) ∙ d)
            ∙ ap (λ (x : ℕ). run tag near (gap g₀) (tag q + near (q.cost * gap g₀)) x (mine g₀ (drop (suc i) w)) (next g₀)) (get_or-set_same floors g₀ v 0 (omega (arith, s.long)) ∙ f)
            ∙ sym (ap (λ (b : Bool). b && then) e)
            ∙ sym own ∙ s.still g₀ h

        go : (g : ℕ) → g < known → (b : Bool) → eqb g g₀ ≡ b → left (set lows g₀ u) (set floors g₀ v) (suc i) g ≡ whole g
        go g k true c = rw (eqb-true g g₀ c) at_own
        go g k false c =
            ap (λ (x : ℕ). run tag near (gap g) x (get_or (set floors g₀ v) g 0) (mine g (drop (suc i) w)) (next g)) (get_or-set_other lows g₀ g u 0 (eqb-false g g₀ c))
            ∙ ap (λ (x : ℕ). run tag near (gap g) (get_or lows g 0) x (mine g (drop (suc i) w)) (next g)) (get_or-set_other floors g₀ g v 0 (eqb-false g g₀ c))
            ∙ ap (λ (l : List Request). run tag near (gap g) (get_or lows g 0) (get_or floors g 0) l (next g)) (sym (ap (mine g) (drop-cons w i z here) ∙ mine_other g q (drop (suc i) w) (λ x. eqb-false g g₀ c (sym x))))
            ∙ s.still g k

  -- past the last request only the next number is left
  pub floors_end : (lows floors : List ℕ) (i : ℕ) → Floors lows floors i → length w ≤ i → (g : ℕ) → g < known → ends (gap g) (get_or floors g 0) (next g) ≡ whole g
  unfolding run
  floors_end lows floors i s h g k =
      sym (ap (λ (l : List Request). run tag near (gap g) (get_or lows g 0) (get_or floors g 0) (mine g l) (next g)) (drop_of_length-le w {i = i} h)) ∙ s.still g k
