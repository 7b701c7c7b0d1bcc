-- What the choice picks from a sound table is the first of its guest: order of acceptance and soundness hang on this. Assumes nothing.
use mathlib.Core.Path.{◌≡◌, refl, sym, ap, ◌∙◌}
use mathlib.Core.Bool.{Bool, true, false, false≢true}
use mathlib.Core.List.{List, [], ◌∷◌}
use Prim.Native.Nat.{ℕ, ◌≤◌, ◌<◌}
use native.Mathlib.Omega.{arith}
use lib.Dec.{leb, eqb}
use borrow.Author.Tests.{leb-true, leb-false, le-leb, eqb-true}
use Rattle.lists.specs.Words.{if◌then◌else◌, all}
use Rattle.lists.specs.WordsLaws.{both, join, filter_passes}
use Rattle.rules.specs.Tables.{Request, Table, reserved, limited, rspacing, lspacing, sspacing, owner, settings_of, of, mine}
use Rattle.rules.specs.Sound.{no_gap}
use Rattle.rules.specs.Choice.{Pick, nobody, picked, behind, against, least, due_at, open_at, passes_at, passes, due, open?}
use Rattle.rules.proofs.Chains.{rising, kept-rising}
use Rattle.rules.proofs.Facts.{Sound, Orderly, orderly_is, any_orderly}

-- q may be sent where y may, and its tag is no larger
abbrev pub Before : (ok : Request → Bool) (tag : Request → ℕ) → Request → Request → Type 0
Before ok tag q y = ok y ≡ true → (ok q ≡ true) × (tag q ≤ tag y)

module _ (ok : Request → Bool) (tag : Request → ℕ) where
  -- q stands before each of the list
  abbrev BeforeAll : Request → List Request → Type 0
  BeforeAll q [] = Unit {0}
  BeforeAll q (y ∷ l) = Before ok tag q y × BeforeAll q l

  -- each stands before all behind it
  abbrev Ordered : List Request → Type 0
  Ordered [] = Unit {0}
  Ordered (q ∷ l) = BeforeAll q l × Ordered l

  -- what is picked from w may be sent, and among guest g's it was the first
  abbrev pub First : ℕ → Pick → List Request → Type 0
  First g nobody w = Unit {0}
  First g (picked p v) w = (mine g w ≡ mine g (p ∷ v)) × (ok p ≡ true)

module _ (ok : Request → Bool) (tag : Request → ℕ) (g : ℕ) where
  -- p, picked from w, goes before q: then q is another guest's, or p is
  first-behind : (q p : Request) (w v : List Request) → (b c : Bool) → of g q ≡ b → of g p ≡ c → Ordered ok tag (mine g (q ∷ w)) → First ok tag g (picked p v) w
      → (ok q ≡ true → tag p < tag q) → mine g (q ∷ w) ≡ mine g (p ∷ q ∷ v)
  first-behind q p w v false c e f o h k = rw e h.0
  first-behind q p w v true false e f o h k = rw (e, f) (ap (q ∷◌) (rw f at h.0))
  first-behind q p w v true true e f o h k =
      let a : BeforeAll ok tag q (mine g w) × Ordered ok tag (mine g w) = rw e at o in
      let m : mine g w ≡ p ∷ mine g v = rw f at h.0 in
      let c : BeforeAll ok tag q (p ∷ mine g v) = rw m at a.0 in
      let d = c.0 h.1 in
      absurd (omega (arith, d.1, k d.0))

  -- the order of guest g's, without the one in front
  ordered_tail : (q : Request) (w : List Request) → Ordered ok tag (mine g (q ∷ w)) → Ordered ok tag (mine g w)
  ordered_tail q w =
      elim (of g q) as (λ b. Ordered ok tag (if b then q ∷ mine g w else mine g w) → Ordered ok tag (mine g w)) [ true ↦ λ o. o.1 | false ↦ λ o. o ]

  -- one more in front
  first_cons : (q : Request) (w : List Request) (b : Bool) → ok q ≡ b → (k : Pick) → Ordered ok tag (mine g (q ∷ w)) → First ok tag g k w
      → First ok tag g (if ok q then against tag q w k else behind q k) (q ∷ w)
  first_cons q w true e nobody o h = rw e (refl, e)
  first_cons q w true e (picked p v) o h = rw e (go (leb (tag q) (tag p)) refl)
    where
      go : (c : Bool) → leb (tag q) (tag p) ≡ c → First ok tag g (if leb (tag q) (tag p) then picked q w else picked p (q ∷ v)) (q ∷ w)
      go true c = rw c (refl, e)
      go false c = rw c (first-behind q p w v (of g q) (of g p) refl refl o h (λ x. leb-false (tag q) (tag p) c), h.1)
  first_cons q w false e nobody o h = rw e tt
  first_cons q w false e (picked p v) o h =
      rw e (first-behind q p w v (of g q) (of g p) refl refl o h (λ x. absurd (false≢true (sym e ∙ x))), h.1)

  -- what is picked is the first of guest g, where an earlier one of g may be sent whenever a later may
  firsts : (w : List Request) → Ordered ok tag (mine g w) → First ok tag g (least ok tag w) w
  firsts [] o = tt
  firsts (q ∷ w) o = first_cons q w (ok q) refl (least ok tag w) o (firsts w (ordered_tail q w o))

-- WITHIN A GUEST

-- what is open has all else that the reservation phase asks, whatever the rule
pub open_passes : (t : Table) (q : Request) → open? t q ≡ true → passes t q ≡ true
unfolding passes_at
open_passes t q h = elim (eqb t.setup.rule 2) as (λ b. (if b then open? t q else true) ≡ true) [ true ↦ h | false ↦ refl ]

module _ (t : Table) (g : ℕ) where
  -- the limit tags of guest g's requests q and y stand in order
  abbrev LimitsRise : Request → Request → Type 0
  LimitsRise q y = limited (owner t.guests g).settings ≡ true → q.ltag ≤ y.ltag

  -- an earlier request is open where a later one is
  opens : (q y : Request) → of g q ≡ true → of g y ≡ true → LimitsRise q y → open? t y ≡ true → open? t q ≡ true
  unfolding open_at
  opens q y a b h d = go (limited (owner t.guests g).settings) refl
    where
      go : (c : Bool) → limited (owner t.guests g).settings ≡ c → open? t q ≡ true
      go false e = rw (eqb-true q.guest g a, e)
      go true e =
          let z = leb-true y.ltag t.time (rw (eqb-true y.guest g b, e) at d) in
          let k : q.ltag ≤ y.ltag = h e in
          rw (eqb-true q.guest g a, e) (le-leb q.ltag t.time (omega arith))

  -- and passes where a later one does
  earlier-passes : (q y : Request) → of g q ≡ true → of g y ≡ true → LimitsRise q y → passes t y ≡ true → passes t q ≡ true
  unfolding passes_at
  earlier-passes q y a b h =
      elim (eqb t.setup.rule 2) as (λ c. (if c then open? t y else true) ≡ true → (if c then open? t q else true) ≡ true)
      [ true ↦ opens q y a b h | false ↦ λ e. refl ]

  -- so it is due where a later one is
  pub earlier-due : (q y : Request) → of g q ≡ true → of g y ≡ true → (reserved (owner t.guests g).settings ≡ true → q.rtag ≤ y.rtag)
      → LimitsRise q y → Before (due t) Request.rtag q y
  unfolding due_at
  earlier-due q y a b h i d =
      let c = both (due_at (settings_of t.guests y) t.time y) (passes t y) d in
      let e = both (reserved (settings_of t.guests y)) (leb y.rtag t.time) c.0 in
      let r : reserved (owner t.guests g).settings ≡ true = rw (eqb-true y.guest g b) at e.0 in
      let k : q.rtag ≤ y.rtag = h r in
      let z = leb-true y.rtag t.time e.1 in
      let has : reserved (settings_of t.guests q) ≡ true = rw (eqb-true q.guest g a) r in
      (join (join has (le-leb q.rtag t.time (omega arith))) (earlier-passes q y a b i c.1), k)

  -- what rises from q to each of the list y ∷ l rises to y, and to each of l
  first_rises : (tag : Request → ℕ) (q y : Request) (l : List Request) → all (λ y. leb (tag q) (tag y)) (y ∷ l) ≡ true → tag q ≤ tag y
  first_rises tag q y l h = leb-true (tag q) (tag y) (both (leb (tag q) (tag y)) (all (λ y. leb (tag q) (tag y)) l) h).0

  rest_rises : (tag : Request → ℕ) (q y : Request) (l : List Request) → all (λ y. leb (tag q) (tag y)) (y ∷ l) ≡ true → all (λ y. leb (tag q) (tag y)) l ≡ true
  rest_rises tag q y l h = (both (leb (tag q) (tag y)) (all (λ y. leb (tag q) (tag y)) l) h).1

  -- a request stands before later ones of its guest in the reservation phase
  before-due : (q : Request) (l : List Request) → of g q ≡ true → all (of g) l ≡ true
      → (reserved (owner t.guests g).settings ≡ true → all (λ y. leb q.rtag y.rtag) l ≡ true)
      → (limited (owner t.guests g).settings ≡ true → all (λ y. leb q.ltag y.ltag) l ≡ true) → BeforeAll (due t) Request.rtag q l
  before-due q [] a b h i = tt
  before-due q (y ∷ l) a b h i =
      let c = both (of g y) (all (of g) l) b in (
        earlier-due q y a c.0 (λ r. first_rises Request.rtag q y l (h r)) (λ r. first_rises Request.ltag q y l (i r)),
        before-due q l a c.1 (λ r. rest_rises Request.rtag q y l (h r)) (λ r. rest_rises Request.ltag q y l (i r)),
      )

  -- what rises rises from the first on, and behind it
  from_first : (tag : Request → ℕ) (q : Request) (l : List Request) → rising tag (q ∷ l) ≡ true → (all (λ y. leb (tag q) (tag y)) l ≡ true) × (rising tag l ≡ true)
  from_first tag q l h = both (all (λ y. leb (tag q) (tag y)) l) (rising tag l) h

  -- and so all of a guest stand in order
  ordered-due : (l : List Request) → all (of g) l ≡ true → (reserved (owner t.guests g).settings ≡ true → rising Request.rtag l ≡ true)
      → (limited (owner t.guests g).settings ≡ true → rising Request.ltag l ≡ true) → Ordered (due t) Request.rtag l
  ordered-due [] a h i = tt
  ordered-due (q ∷ l) a h i =
      let c = both (of g q) (all (of g) l) a in (
        before-due q l c.0 c.1 (λ r. (from_first Request.rtag q l (h r)).0) (λ r. (from_first Request.ltag q l (i r)).0),
        ordered-due l c.1 (λ r. (from_first Request.rtag q l (h r)).1) (λ r. (from_first Request.ltag q l (i r)).1),
      )

  -- the same in the weight phase
  before_open : (q : Request) (l : List Request) → of g q ≡ true → all (of g) l ≡ true
      → (limited (owner t.guests g).settings ≡ true → all (λ y. leb q.ltag y.ltag) l ≡ true)
      → all (λ y. leb q.stag y.stag) l ≡ true → BeforeAll (open? t) Request.stag q l
  before_open q [] a b h s = tt
  before_open q (y ∷ l) a b h s =
      let c = both (of g y) (all (of g) l) b in (
        λ d. (opens q y a c.0 (λ r. first_rises Request.ltag q y l (h r)) d, first_rises Request.stag q y l s),
        before_open q l a c.1 (λ r. rest_rises Request.ltag q y l (h r)) (rest_rises Request.stag q y l s),
      )

  -- and so all of a guest stand in order
  ordered_open : (l : List Request) → all (of g) l ≡ true → (limited (owner t.guests g).settings ≡ true → rising Request.ltag l ≡ true)
      → rising Request.stag l ≡ true → Ordered (open? t) Request.stag l
  ordered_open [] a h s = tt
  ordered_open (q ∷ l) a h s =
      let c = both (of g q) (all (of g) l) a in
      let k = from_first Request.stag q l s in (
        before_open q l c.0 c.1 (λ r. (from_first Request.ltag q l (h r)).0) k.0,
        ordered_open l c.1 (λ r. (from_first Request.ltag q l (h r)).1) k.1,
      )

-- IN A SOUND TABLE

module _ (t : Table) (s : Sound t) (g : ℕ) where
  -- the numbers of guest g as facts
  orderly-own : Orderly (owner t.guests g) (mine g t.waiting)
  orderly-own = orderly_is (owner t.guests g) (mine g t.waiting) (any_orderly t s g)

  -- what the reservation phase picks is the first of its guest
  pub first-due : First (due t) Request.rtag g (least (due t) Request.rtag t.waiting) t.waiting
  first-due =
      let h = (owner t.guests g).settings in
      let own = mine g t.waiting in
      firsts (due t) Request.rtag g t.waiting
      (ordered-due t g own (filter_passes (of g) t.waiting)
      (kept-rising Request.rtag no_gap (rspacing h) (reserved h) own (owner t.guests g).rnext orderly-own.reservations)
      (kept-rising Request.ltag (lspacing h) (lspacing h) (limited h) own (owner t.guests g).lnext orderly-own.limits))

  -- what the weight phase picks is the first of its guest
  pub first_open : First (open? t) Request.stag g (least (open? t) Request.stag t.waiting) t.waiting
  first_open =
      let h = (owner t.guests g).settings in
      let own = mine g t.waiting in
      firsts (open? t) Request.stag g t.waiting
      (ordered_open t g own (filter_passes (of g) t.waiting)
      (kept-rising Request.ltag (lspacing h) (lspacing h) (limited h) own (owner t.guests g).lnext orderly-own.limits)
      (kept-rising Request.stag (sspacing h) (sspacing h) true own (owner t.guests g).snext orderly-own.shares refl))
