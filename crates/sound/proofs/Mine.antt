-- What waits of one guest, read off the places of all that waits: facts of a filtered list as facts of the whole. Assumes nothing.
use Prim.Native.Nat.{ℕ, zero, suc, ◌+◌, ◌≤◌, ◌<◌}
use mathlib.Core.Path.{◌≡◌, refl, sym, ap, subst, ◌∙◌}
use mathlib.Core.Bool.{Bool, true, false, true≢false}
use mathlib.Core.List.{List, [], ◌∷◌, ◌++◌, head-eq_of_cons-eq, tail-eq_of_cons-eq}
use mathlib.Core.Logic.{◌↔◌}
use native.Mathlib.Omega.{arith}
use lib.ListN.{length, take, drop, length-append, length-drop}
use lib.Seq.{split_at, get_or-drop}
use borrow.Author.Tests.{eqb-true, eq-eqb}
use Rattle.lists.specs.Words.{if◌then◌else◌, filter}
use Rattle.lists.specs.WordsLaws.{filter-append}
use Rattle.rules.specs.Tables.{Request, of, mine}
use Rattle.rules.specs.Chosen.{blank, at}
use Rattle.rules.proofs.Soundness.{Kept}
use Rattle.sound.specs.SoundNumbers.{KeptAt}

module _ (P : Request → Bool) where
  -- EACH that passes

  each-whole : (Q : Request → Type 0) (w : List Request) → ((j : ℕ) → j < length (filter P w) → Q (at (filter P w) j))
      → (j : ℕ) → j < length w → P (at w j) ≡ true → Q (at w j)
  each-whole Q [] h j k p = absurd (omega arith)
  each-whole Q (q ∷ w) h j k p = go (P q) refl h j k p (each-whole Q w)
    where
      f : List Request
      f = filter P w

      go : (b : Bool) → P q ≡ b → ((j : ℕ) → j < length (if b then q ∷ f else f) → Q (at (if b then q ∷ f else f) j))
          → (j : ℕ) → j < length (q ∷ w) → P (at (q ∷ w) j) ≡ true
          → (((j : ℕ) → j < length f → Q (at f j)) → (j : ℕ) → j < length w → P (at w j) ≡ true → Q (at w j)) → Q (at (q ∷ w) j)
      go true e h zero k p r = h 0 (omega arith)
      go true e h (suc j) k p r = r (λ n l. h (suc n) (omega arith)) j (omega arith) p
      go false e h zero k p r = absurd (true≢false (sym p ∙ e))
      go false e h (suc j) k p r = r h j (omega arith) p

  each-mine : (Q : Request → Type 0) (w : List Request) → ((j : ℕ) → j < length w → P (at w j) ≡ true → Q (at w j))
      → (j : ℕ) → j < length (filter P w) → Q (at (filter P w) j)
  each-mine Q [] h j k = absurd (omega arith)
  each-mine Q (q ∷ w) h j k = go (P q) refl (each-mine Q w (λ n l p. h (suc n) (omega arith) p)) j k
    where
      f : List Request
      f = filter P w

      go : (b : Bool) → P q ≡ b → ((j : ℕ) → j < length f → Q (at f j)) → (j : ℕ) → j < length (if b then q ∷ f else f) → Q (at (if b then q ∷ f else f) j)
      go true e r zero k = h 0 (omega arith) e
      go true e r (suc j) k = r j (omega arith)
      go false e r j k = r j k

  -- EVERY TWO that pass

  pairs_whole : (R : Request → Request → Type 0) (w : List Request)
      → ((i j : ℕ) → i < j → j < length (filter P w) → R (at (filter P w) i) (at (filter P w) j))
      → (i j : ℕ) → i < j → j < length w → P (at w i) ≡ true → P (at w j) ≡ true → R (at w i) (at w j)
  pairs_whole R [] h i j l k p q = absurd (omega arith)
  pairs_whole R (x ∷ w) h i j l k p q = go (P x) refl h i j l k p q (pairs_whole R w)
    where
      f : List Request
      f = filter P w

      go : (b : Bool) → P x ≡ b → ((i j : ℕ) → i < j → j < length (if b then x ∷ f else f) → R (at (if b then x ∷ f else f) i) (at (if b then x ∷ f else f) j))
          → (i j : ℕ) → i < j → j < length (x ∷ w) → P (at (x ∷ w) i) ≡ true → P (at (x ∷ w) j) ≡ true
          → (((i j : ℕ) → i < j → j < length f → R (at f i) (at f j)) → (i j : ℕ) → i < j → j < length w → P (at w i) ≡ true → P (at w j) ≡ true → R (at w i) (at w j))
          → R (at (x ∷ w) i) (at (x ∷ w) j)
      go b e h i zero l k p q r = absurd (omega arith)
      go true e h zero (suc j) l k p q r = each-whole (R x) w (λ n m. h 0 (suc n) (omega arith) (omega arith)) j (omega arith) q
      go true e h (suc i) (suc j) l k p q r = r (λ a b m n. h (suc a) (suc b) (omega arith) (omega arith)) i j (omega arith) (omega arith) p q
      go false e h zero (suc j) l k p q r = absurd (true≢false (sym p ∙ e))
      go false e h (suc i) (suc j) l k p q r = r h i j (omega arith) (omega arith) p q

  pairs_mine : (R : Request → Request → Type 0) (w : List Request)
      → ((i j : ℕ) → i < j → j < length w → P (at w i) ≡ true → P (at w j) ≡ true → R (at w i) (at w j))
      → (i j : ℕ) → i < j → j < length (filter P w) → R (at (filter P w) i) (at (filter P w) j)
  pairs_mine R [] h i j l k = absurd (omega arith)
  pairs_mine R (x ∷ w) h i j l k = go (P x) refl (pairs_mine R w (λ i j l k p q. h (suc i) (suc j) (omega arith) (omega arith) p q)) i j l k
    where
      f : List Request
      f = filter P w

      go : (b : Bool) → P x ≡ b → ((i j : ℕ) → i < j → j < length f → R (at f i) (at f j))
          → (i j : ℕ) → i < j → j < length (if b then x ∷ f else f) → R (at (if b then x ∷ f else f) i) (at (if b then x ∷ f else f) j)
      go true e r i zero l k = absurd (omega arith)
      go true e r zero (suc j) l k = each-mine (R x) w (λ n m q. h 0 (suc n) (omega arith) (omega arith) e q) j (omega arith)
      go true e r (suc i) (suc j) l k = r i j (omega arith) (omega arith)
      go false e r i j l k = r i j l k

  -- NONE that passes

  none-whole : (w : List Request) → filter P w ≡ [] → (j : ℕ) → j < length w → P (at w j) ≡ true → ⊥
  none-whole w e = each-whole (λ q. ⊥) w (λ j k. absurd (omega (arith, ap length e)))

  none-mine : (w : List Request) → ((j : ℕ) → j < length w → P (at w j) ≡ true → ⊥) → filter P w ≡ []
  none-mine w h = empty (filter P w) (each-mine (λ q. ⊥) w h)
    where
      empty : (l : List Request) → ((j : ℕ) → j < length l → ⊥) → l ≡ []
      empty [] n = refl
      empty (x ∷ l) n = absurd (n 0 (omega arith))

  -- THE LAST that passes

  -- no place of w from i on passes
  abbrev NoneLater : List Request → ℕ → Type 0
  NoneLater w i = (j : ℕ) → i ≤ j → j < length w → P (at w j) ≡ true → ⊥

  last_whole : (X : Request → Type 0) (w : List Request) → ((a : List Request) (q : Request) → filter P w ≡ a ++ (q ∷ []) → X q)
      → (i : ℕ) → i < length w → P (at w i) ≡ true → NoneLater w (suc i) → X (at w i)
  last_whole X w h i k p n = h (filter P (take i w)) (at w i) (ap (filter P) (split_at w i blank k) ∙ filter-append P (take i w) (at w i ∷ drop (suc i) w) ∙ rw (p, behind))
    where
      behind : filter P (drop (suc i) w) ≡ []
      behind =
          none-mine (drop (suc i) w)
          (λ j l q. n (suc i + j) (omega arith) (omega (arith, length-drop (suc i) w)) (ap P (sym (get_or-drop (suc i) w j blank)) ∙ q))

  last_mine : (X : Request → Type 0) (w : List Request) → ((i : ℕ) → i < length w → P (at w i) ≡ true → NoneLater w (suc i) → X (at w i))
      → (a : List Request) (q : Request) → filter P w ≡ a ++ (q ∷ []) → X q
  last_mine X [] h a q e = absurd (omega (arith, ap length e, length-append a (q ∷ [])))
  last_mine X (x ∷ w) h a q e = go (P x) refl (last_mine X w shift) a q e
    where
      f : List Request
      f = filter P w

      later : (i : ℕ) → NoneLater w i → NoneLater (x ∷ w) (suc i)
      later i n zero l k p = absurd (omega arith)
      later i n (suc j) l k p = n j (omega arith) (omega arith) p

      shift : (i : ℕ) → i < length w → P (at w i) ≡ true → NoneLater w (suc i) → X (at w i)
      shift i k p n = h (suc i) (omega arith) p (later (suc i) n)

      go : (b : Bool) → P x ≡ b → ((a : List Request) (q : Request) → f ≡ a ++ (q ∷ []) → X q)
          → (a : List Request) (q : Request) → (if b then x ∷ f else f) ≡ a ++ (q ∷ []) → X q
      go true e r [] q z =
          subst X (head-eq_of_cons-eq z) (h 0 (omega arith) e (later 0 (λ j l k p. none-whole w (tail-eq_of_cons-eq z) j k p)))
      go true e r (y ∷ a) q z = r a q (tail-eq_of_cons-eq z)
      go false e r a q z = r a q z

-- ONE KIND of tag, by places

module _ (has : Bool) (tag gap spacing : Request → ℕ) (w : List Request) (h next : ℕ) where
  -- the guest of a request, as a fact and as a test
  own : (q : Request) → q.guest ≡ h → of h q ≡ true
  own q e = eq-eqb q.guest h e

  is_own : (q : Request) → of h q ≡ true → q.guest ≡ h
  is_own q e = eqb-true q.guest h e

  to_places : Kept has tag gap spacing (mine h w) next → KeptAt has tag gap spacing (at w) (length w) h next
  to_places k =
      record {
        spaced = λ e i j l m p q. omega (arith, pairs_whole (of h) (λ a b. tag a + gap a ≤ tag b) w (k.spaced e) i j l m (own (at w i) p) (own (at w j) q));
        next-follows = λ e i l p n. last_whole (of h) (λ q. next ≡ tag q + spacing q) w (k.next-follows e) i l (own (at w i) p) (λ j m o q. n j m o (is_own (at w j) q));
        idle-fits = λ e n. k.idle-fits e (none-mine (of h) w (λ j l p. n j (omega arith) l (is_own (at w j) p)));
        no_next = k.no_next;
        no_tags = λ e i l p. each-whole (of h) (λ q. tag q ≡ 0) w (k.no_tags e) i l (own (at w i) p);
      }

  of_places : KeptAt has tag gap spacing (at w) (length w) h next → Kept has tag gap spacing (mine h w) next
  of_places k =
      record {
        spaced = λ e. pairs_mine (of h) (λ a b. tag a + gap a ≤ tag b) w (λ i j l m p q. omega (arith, k.spaced e i j l m (is_own (at w i) p) (is_own (at w j) q)));
        next-follows = λ e. last_mine (of h) (λ q. next ≡ tag q + spacing q) w (λ i l p n. k.next-follows e i l (is_own (at w i) p) (λ j m o q. n j m o (own (at w j) q)));
        idle-fits = λ e z. k.idle-fits e (λ j m l p. none-whole (of h) w z j l (own (at w j) p));
        no_next = k.no_next;
        no_tags = λ e. each-mine (of h) (λ q. tag q ≡ 0) w (λ i l p. k.no_tags e i l (is_own (at w i) p));
      }

  -- what a kind of tag asks of the requests of a guest, it asks of the places that have one
  pub kept_places : Kept has tag gap spacing (mine h w) next ↔ KeptAt has tag gap spacing (at w) (length w) h next
  kept_places = (to_places, of_places)

-- rows that are the same below the count
pub kept-rows : (has : Bool) (tag gap spacing : Request → ℕ) (p q : ℕ → Request) (count h next : ℕ) → ((i : ℕ) → i < count → p i ≡ q i)
    → KeptAt has tag gap spacing p count h next → KeptAt has tag gap spacing q count h next
kept-rows has tag gap spacing p q count h next z k =
    record {
      spaced = λ e i j l m a b. let x = z i (omega arith) in let y = z j m in
          rw (← x, ← y) (k.spaced e i j l m (ap Request.guest x ∙ a) (ap Request.guest y ∙ b));
      next-follows = λ e i l a n. let x = z i l in
          rw (← x) (k.next-follows e i l (ap Request.guest x ∙ a) (λ j m o b. n j m o (sym (ap Request.guest (z j o)) ∙ b)));
      idle-fits = λ e n. k.idle-fits e (λ j m o b. n j m o (sym (ap Request.guest (z j o)) ∙ b));
      no_next = k.no_next;
      no_tags = λ e i l a. let x = z i l in rw (← x) (k.no_tags e i l (ap Request.guest x ∙ a));
    }
