-- Earlier requests of one bucket, linked from the latest to the first: what the two arrays hold, and what a walk along a chain has passed.
-- Assumes nothing.
use Prim.Native.Nat.{ℕ, zero, suc, ◌+◌, ◌≤◌, ◌<◌}
use mathlib.Core.Path.{◌≡◌, sym, ap, ◌∙◌}
use mathlib.Core.Bool.{Bool, true, false, false≢true}
use mathlib.Core.List.{List}
use mathlib.Core.Logic.{⊎_elim, ◌⊎◌, inl, inr}
use native.Mathlib.Nat.{not-suc-le-zero, le_of_suc-le-suc, eq-or-lt_of_le}
use native.Mathlib.Numerals.{add-one}
use native.Mathlib.Omega.{arith}
use lib.ListN.{length, get_or, set, length-set, replicate, length-replicate, get_or-replicate}
use lib.Seq.{get_or-set_same, get_or-set_other}
use lib.Dec.{eqb}
use borrow.Author.Tests.{eq-eqb, ne_eqb}
use Rattle.lists.specs.Tab.{lt_or_le, eq_or_not}
use Rattle.lists.specs.Lines.{whether}
use Rattle.table.specs.Columns.{most_depth, most_capacity}
use Rattle.pairs.specs.Names.{bucket_of}

-- 1 + the largest place before i whose bucket is b, or 0
unfoldable pub last_before : (ℕ → ℕ) → ℕ → ℕ → ℕ
last_before at b zero = zero
last_before at b (suc i) = whether (eqb (at i) b) (suc i) (last_before at b i)

-- of two different numbers one is below the other
other : (k j : ℕ) → (k ≡ j → ⊥) → (k < j) ⊎ (j < k)
other k j z = ⊎_elim (λ h. inl h) (λ h. ⊎_elim (λ e. absurd (z (sym e))) (λ m. inr m) (eq-or-lt_of_le h)) (lt_or_le k j)

-- 0 is no successor
zero_not : (k : ℕ) → 0 ≡ suc k → ⊥
zero_not k e = omega arith

module _ (at : ℕ → ℕ) (b : ℕ) where
  -- place i is of the bucket
  last_here : (i : ℕ) → at i ≡ b → last_before at b (suc i) ≡ suc i
  unfolding last_before
  last_here i e = rw (eq-eqb (at i) b e)

  -- place i is not
  last_other : (i : ℕ) → (at i ≡ b → ⊥) → last_before at b (suc i) ≡ last_before at b i
  unfolding last_before
  last_other i h = rw (ne_eqb (at i) b h)

  -- it lies before i
  pub last_le : (i : ℕ) → last_before at b i ≤ i
  unfolding last_before
  last_le zero = omega arith
  last_le (suc i) =
      let inner = last_le i in
      ⊎_elim (λ e. omega (arith, last_here i e)) (λ h. omega (arith, last_other i h)) (eq_or_not (at i) b)

  -- the place is of the bucket
  last_is : (i k : ℕ) → last_before at b i ≡ suc k → at k ≡ b
  unfolding last_before
  last_is zero k e = absurd (zero_not k e)
  last_is (suc i) k e =
      let inner : last_before at b i ≡ suc k → at k ≡ b = last_is i k in
      ⊎_elim
      (λ h. let q : k ≡ i = omega (arith, last_here i h) in ap at q ∙ h)
      (λ h. inner (sym (last_other i h) ∙ e))
      (eq_or_not (at i) b)

  -- and none after it is
  last_none : (i k : ℕ) → last_before at b i ≤ k → k < i → at k ≡ b → ⊥
  last_none zero k h l e = not-suc-le-zero l
  last_none (suc i) k h l e =
      let inner : last_before at b i ≤ k → k < i → ⊥ = λ p q. last_none i k p q e in
      ⊎_elim
      (λ g. let z : suc i ≤ k = omega (arith, last_here i g) in omega arith)
      (λ g.
      ⊎_elim (λ q. g (ap at (sym q) ∙ e)) (λ m. inner (omega (arith, last_other i g)) m) (eq-or-lt_of_le (le_of_suc-le-suc l)))
      (eq_or_not (at i) b)

-- what the arrays hold before place i
pub record Linked (at : ℕ → ℕ) (heads links : List ℕ) (i : ℕ) : Type 0 where
  pub heads_long : length heads ≡ 4096
  pub links_long : length links ≡ most_capacity + most_depth
  pub head : (b : ℕ) → b < 4096 → get_or heads b 0 ≡ last_before at b i
  pub link : (k : ℕ) → k < i → get_or links k 0 ≡ last_before at (at k) k

-- before the first place they hold zeros
pub linked-start : (at : ℕ → ℕ) → Linked at (replicate 4096 0) (replicate (most_capacity + most_depth) 0) 0
unfolding last_before
linked-start at =
    record {
      heads_long = length-replicate {A = ℕ} 4096 0;
      links_long = length-replicate {A = ℕ} (most_capacity + most_depth) 0;
      head = λ b l. get_or-replicate {A = ℕ} 4096 b 0 0 l;
      link = λ k l. absurd (not-suc-le-zero l);
    }

-- place i joins the chain of its bucket
pub linked-next : (at : ℕ → ℕ) (heads links : List ℕ) (i b v u : ℕ) → Linked at heads links i → i < most_capacity + most_depth → b < 4096 → b ≡ at i → v ≡ get_or heads b 0 → u ≡ i + 1 → Linked at (set heads b u) (set links i v) (i + 1)
linked-next at heads links i b v u s l m e f g =
    record {
      heads_long = length-set heads b u ∙ s.heads_long;
      links_long = length-set links i v ∙ s.links_long;
      head = λ k h.
          ⊎_elim
          (λ q. rw q (get_or-set_same heads b u 0 (omega (arith, s.heads_long)) ∙ g ∙ sym (rw add-one (last_here at b i (sym e)))))
          (λ q. get_or-set_other heads b k u 0 q ∙ s.head k h ∙ sym (rw add-one (last_other at k i (λ z. q (sym z ∙ sym e)))))
          (eq_or_not k b);
      link = λ k h.
          ⊎_elim
          (λ q. rw q (get_or-set_same links i v 0 (omega (arith, s.links_long)) ∙ f ∙ s.head b m ∙ ap (λ (c : ℕ). last_before at c i) e))
          (λ q. get_or-set_other links i k v 0 q ∙ s.link k (omega arith))
          (eq_or_not k i);
    }

-- A WALK along the chain of place i: `next` is 1 + the place to look at, or 0
module _ (guest id : ℕ → ℕ) where
  -- the bucket of place k
  abbrev pub bucket_at : ℕ → ℕ
  bucket_at k = bucket_of (guest k) (id k)

  -- no two different places before n have one name
  abbrev pub Apart : ℕ → Type 0
  Apart n = (i j : ℕ) → i < n → j < i → guest j ≡ guest i → id j ≡ id i → ⊥

  -- where a walk from place i to the places of its bucket stands: every place of the name of i from `next` on was passed
  pub record Passed (i next : ℕ) : Type 0 where
    pub low : next ≤ i
    pub here : (k : ℕ) → next ≡ suc k → bucket_at k ≡ bucket_at i
    pub differ : (k : ℕ) → next ≤ k → k < i → guest k ≡ guest i → id k ≡ id i → ⊥

  -- one name has one bucket
  pub same_bucket : (k i : ℕ) → guest k ≡ guest i → id k ≡ id i → bucket_at k ≡ bucket_at i
  same_bucket k i e f = rw (e, f)

  -- it starts at the latest place of the bucket
  pub passed_start : (i next : ℕ) → next ≡ last_before bucket_at (bucket_at i) i → Passed i next
  passed_start i next e =
      record {
        low = omega (arith, last_le bucket_at (bucket_at i) i);
        here = λ k q. last_is bucket_at (bucket_at i) i k (sym e ∙ q);
        differ = λ k h l g d. last_none bucket_at (bucket_at i) i k (omega arith) l (same_bucket k i g d);
      }

  -- a place of another name is passed
  pub passed-next : (i next j more : ℕ) → Passed i next → next ≡ suc j → (guest j ≡ guest i → id j ≡ id i → ⊥) → more ≡ last_before bucket_at (bucket_at j) j → Passed i more
  passed-next i next j more s q apart e =
      let le = last_le bucket_at (bucket_at j) j in
      let low : next ≤ i = s.low in
      record {
        low = omega arith;
        here = λ k r. last_is bucket_at (bucket_at j) j k (sym e ∙ r) ∙ s.here j q;
        differ = λ k h l g d.
            ⊎_elim
            (λ z. apart (ap guest (sym z) ∙ g) (ap id (sym z) ∙ d))
            (λ z.
            ⊎_elim
            (λ m. last_none bucket_at (bucket_at j) j k (omega arith) m (same_bucket k i g d ∙ sym (s.here j q)))
            (λ m. s.differ k (omega arith) l g d)
            (other k j z))
            (eq_or_not k j);
      }

  -- no place before i has the name of i
  pub apart_next : (i : ℕ) → Apart i → ((k : ℕ) → k < i → guest k ≡ guest i → id k ≡ id i → ⊥) → Apart (i + 1)
  apart_next i d f a k l m g q =
      ⊎_elim
      (λ z. f k (omega arith) (rw z at g) (rw z at q))
      (λ z. d a k (omega arith) m g q)
      (eq_or_not a i)

  -- so it is at the walk's end
  pub passed-end : (i next : ℕ) → Passed i next → next ≤ 0 → Apart i → Apart (i + 1)
  passed-end i next s e d = apart_next i d (λ k l. s.differ k (omega arith) l)

-- FEW requests: marks of the buckets that earlier places are of

-- a bucket without a mark has no place before i
pub record Seen (at : ℕ → ℕ) (seen : List Bool) (i : ℕ) : Type 0 where
  pub long : length seen ≡ 1024
  pub none : (b : ℕ) → b < 1024 → get_or seen b false ≡ false → (k : ℕ) → k < i → at k ≡ b → ⊥

-- before the first place there is no mark
pub seen_start : (at : ℕ → ℕ) → Seen at (replicate 1024 false) 0
seen_start at = record { long = length-replicate {A = Bool} 1024 false; none = λ b l e k m. absurd (not-suc-le-zero m) }

-- place i marks its bucket
pub seen_next : (at : ℕ → ℕ) (seen : List Bool) (i b : ℕ) → Seen at seen i → b < 1024 → b ≡ at i → Seen at (set seen b true) (i + 1)
seen_next at seen i b s m e =
    record {
      long = length-set seen b true ∙ s.long;
      none = λ c l z k h f.
          ⊎_elim
          (λ q.
          let one : get_or (set seen b true) b false ≡ true = get_or-set_same seen b true false (omega (arith, s.long)) in
          false≢true (sym (rw q at z) ∙ one))
          (λ q.
          ⊎_elim
          (λ y. q (sym f ∙ ap at y ∙ sym e))
          (λ y. s.none c l (sym (get_or-set_other seen b c true false q) ∙ z) k (omega arith) f)
          (eq_or_not k i))
          (eq_or_not c b);
    }
