-- The tags of one kind that wait of a guest, and its next number: what is left of the rule that each later tag "is at least the earlier
-- one's plus the spacing" where the first goes, where tags drop or move, and where one is added. For any tag, gap and spacing. Assumes nothing.
use mathlib.Core.Path.{◌≡◌, refl, ap, ap₂}
use mathlib.Core.Bool.{Bool, true, false, ◌&&◌, false≢true}
use mathlib.Core.List.{List, [], ◌∷◌, ◌++◌, map}
use Prim.Native.Nat.{ℕ, ◌≤◌, ◌+◌, ◌-◌}
use native.Mathlib.Omega.{arith}
use lib.Dec.{leb, eqb}
use borrow.Author.Tests.{leb-true, le-leb, eqb-true, eq-eqb}
use Rattle.lists.specs.Words.{all, empty}
use Rattle.lists.specs.WordsLaws.{both, join, all_append, all_same}
use Rattle.rules.specs.Numbers.{idle_bound}
use Rattle.rules.specs.Tables.{Request}
use Rattle.rules.specs.Sound.{priced, apart, follows, kept}

-- no later tag is smaller than an earlier one
abbrev pub rising : (tag : Request → ℕ) → List Request → Bool
rising tag [] = true
rising tag (q ∷ l) = all (λ y. leb (tag q) (tag y)) l && rising tag l

module _ (tag gap spacing : Request → ℕ) where
  -- without its first a list is still apart
  pub apart_tail : (q : Request) (l : List Request) → apart tag gap (q ∷ l) ≡ true → apart tag gap l ≡ true
  apart_tail q [] a = refl
  apart_tail q (p ∷ l) a = (both (leb (tag q + gap q) (tag p)) (apart tag gap (p ∷ l)) a).1

  -- the later tags are at least what the first one and its gap are
  pub apart_above : (m : ℕ) (q : Request) (l : List Request) → m ≤ tag q + gap q → apart tag gap (q ∷ l) ≡ true → all (λ p. leb m (tag p)) l ≡ true
  apart_above m q [] h a = refl
  apart_above m q (p ∷ l) h a =
      let c = both (leb (tag q + gap q) (tag p)) (apart tag gap (p ∷ l)) a in
      let e = leb-true (tag q + gap q) (tag p) c.0 in
      join (le-leb m (tag p) (omega arith)) (apart_above m p l (omega arith) c.1)

  -- tags that stand apart rise
  apart-rising : (l : List Request) → apart tag gap l ≡ true → rising tag l ≡ true
  apart-rising [] a = refl
  apart-rising (q ∷ l) a = join (apart_above (tag q) q l (omega arith) a) (apart-rising l (apart_tail q l a))

  -- and so is the next number
  next_above : (m : ℕ) (q : Request) (l : List Request) (n : ℕ) → m ≤ tag q + gap q → m ≤ tag q + spacing q → apart tag gap (q ∷ l) ≡ true
      → follows tag spacing (q ∷ l) n ≡ true → m ≤ n
  next_above m q [] n h k a f = omega (arith, eqb-true n (tag q + spacing q) f)
  next_above m q (p ∷ l) n h k a f =
      let c = both (leb (tag q + gap q) (tag p)) (apart tag gap (p ∷ l)) a in
      let e = leb-true (tag q + gap q) (tag p) c.0 in
      next_above m p l n (omega arith) (omega arith) c.1 f

  -- one kind where the first has gone; its next number may now be an idle guest's
  pub kept_tail : (has : Bool) (q : Request) (l : List Request) (n : ℕ) → tag q + spacing q ≤ idle_bound → kept has tag gap spacing (q ∷ l) n ≡ true
      → kept has tag gap spacing l n ≡ true
  unfolding kept
  kept_tail true q [] n b h = le-leb n idle_bound (omega (arith, eqb-true n (tag q + spacing q) h))
  kept_tail true q (p ∷ l) n b h =
      let c = both (apart tag gap (q ∷ p ∷ l)) (follows tag spacing (p ∷ l) n) h in
      join (apart_tail q (p ∷ l) c.0) c.1
  kept_tail false q l n b h =
      let c = both (eqb n 0) (eqb (tag q) 0 && all (λ q. eqb (tag q) 0) l) h in
      join c.0 (both (eqb (tag q) 0) (all (λ q. eqb (tag q) 0) l) c.1).1

  -- behind a first request all tags of a kind that the guest has, and its next number, are at least m
  pub kept_above : (m : ℕ) (q : Request) (l : List Request) (n : ℕ) → m ≤ tag q + gap q → m ≤ tag q + spacing q → kept true tag gap spacing (q ∷ l) n ≡ true
      → (all (λ p. leb m (tag p)) l ≡ true) × (m ≤ n)
  unfolding kept
  kept_above m q l n h k c =
      let d = both (apart tag gap (q ∷ l)) (follows tag spacing (q ∷ l) n) c in
      (apart_above m q l h d.0, next_above m q l n h k d.0 d.1)

  -- the tags of a kind that the guest has rise
  pub kept-rising : (has : Bool) (l : List Request) (n : ℕ) → kept has tag gap spacing l n ≡ true → has ≡ true → rising tag l ≡ true
  unfolding kept
  kept-rising true l n h e = apart-rising l (both (apart tag gap l) (follows tag spacing l n) h).0
  kept-rising false l n h e = absurd (false≢true e)

  -- a last request may stand where its tag falls short of the next number by no more than each spacing is wider than the gap, or nothing stands before it
  pub apart_snoc : (short : ℕ) → ((p : Request) → priced p ≡ true → gap p + short ≤ spacing p) → (l : List Request) (n : ℕ) (q : Request) → all priced l ≡ true
      → (empty l ≡ false → n ≤ tag q + short) → apart tag gap l ≡ true → follows tag spacing l n ≡ true → apart tag gap (l ++ (q ∷ [])) ≡ true
  apart_snoc short w [] n q c h a f = refl
  apart_snoc short w (p ∷ []) n q c h a f =
      join (le-leb (tag p + gap p) (tag q) (omega (arith, w p (both (priced p) true c).0, h refl, eqb-true n (tag p + spacing p) f))) refl
  apart_snoc short w (p ∷ r ∷ l) n q c h a f =
      let k = both (leb (tag p + gap p) (tag r)) (apart tag gap (r ∷ l)) a in
      join k.0 (apart_snoc short w (r ∷ l) n q (both (priced p) (all priced (r ∷ l)) c).1 (λ e. h refl) k.1 f)

  -- the next number after a last request
  follows_snoc : (l : List Request) (q : Request) → follows tag spacing (l ++ (q ∷ [])) (tag q + spacing q) ≡ true
  follows_snoc [] q = eq-eqb (tag q + spacing q) (tag q + spacing q) refl
  follows_snoc (p ∷ []) q = eq-eqb (tag q + spacing q) (tag q + spacing q) refl
  follows_snoc (p ∷ r ∷ l) q = follows_snoc (r ∷ l) q

  -- one kind where a request has been added whose tag falls short of the next number by no more, if something waits; of a kind that the guest lacks it has none
  pub kept_snoc : (short : ℕ) → ((p : Request) → priced p ≡ true → gap p + short ≤ spacing p) → (has : Bool) (l : List Request) (n : ℕ) (q : Request) → all priced l ≡ true
      → (has ≡ true → empty l ≡ false → n ≤ tag q + short) → (has ≡ false → (tag q ≡ 0) × (spacing q ≡ 0)) → kept has tag gap spacing l n ≡ true
      → kept has tag gap spacing (l ++ (q ∷ [])) (tag q + spacing q) ≡ true
  unfolding kept
  kept_snoc short w true l n q p h z k =
      let c = both (apart tag gap l) (follows tag spacing l n) k in
      join (apart_snoc short w l n q p (h refl) c.0 c.1) (follows_snoc l q)
  kept_snoc short w false l n q p h z k =
      let e = z refl in
      let c = both (eqb n 0) (all (λ p. eqb (tag p) 0) l) k in
      join (eq-eqb (tag q + spacing q) 0 (omega arith)) (all_append (λ p. eqb (tag p) 0) l (q ∷ []) c.1 (join (eq-eqb (tag q) 0 e.0) refl))

  -- nothing waits yet
  pub kept_fresh : (has : Bool) → kept has tag gap spacing [] 0 ≡ true
  unfolding kept
  kept_fresh true = refl
  kept_fresh false = refl

-- a change of requests that leaves the gap and the spacing of each
module _ (tag gap spacing : Request → ℕ) (f : Request → Request) (gaps : (q : Request) → gap (f q) ≡ gap q) (spacings : (q : Request) → spacing (f q) ≡ spacing q) where
  -- tags that did not change stand as far apart
  pub apart-same : ((q : Request) → tag (f q) ≡ tag q) → (l : List Request) → apart tag gap (map f l) ≡ apart tag gap l
  apart-same e [] = refl
  apart-same e (q ∷ []) = refl
  apart-same e (q ∷ p ∷ l) =
      let first : leb (tag (f q) + gap (f q)) (tag (f p)) ≡ leb (tag q + gap q) (tag p) = rw (e q, e p, gaps q) in
      ap₂ ◌&&◌ first (apart-same e (p ∷ l))

  -- and the next number follows them as before
  follows_same : ((q : Request) → tag (f q) ≡ tag q) → (l : List Request) (n : ℕ) → follows tag spacing (map f l) n ≡ follows tag spacing l n
  follows_same e [] n = refl
  follows_same e (q ∷ []) n = rw (e q, spacings q)
  follows_same e (q ∷ p ∷ l) n = follows_same e (p ∷ l) n

  -- one kind where only other kinds have changed
  pub kept_same : ((q : Request) → tag (f q) ≡ tag q) → (has : Bool) (l : List Request) (n : ℕ) → kept has tag gap spacing (map f l) n ≡ kept has tag gap spacing l n
  unfolding kept
  kept_same e true l n = ap₂ ◌&&◌ (apart-same e l) (follows_same e l n)
  kept_same e false l n = ap (eqb n 0 &&◌) (all_same (λ q. eqb (tag q) 0) f (λ q. ap (λ x. eqb x 0) (e q)) l)

  -- tags dropped by d, none of which is below d, stand as far apart
  pub apart-drop : (d : ℕ) → ((q : Request) → tag (f q) ≡ tag q - d) → (l : List Request) → all (λ p. leb d (tag p)) l ≡ true → apart tag gap l ≡ true
      → apart tag gap (map f l) ≡ true
  apart-drop d e [] b a = refl
  apart-drop d e (q ∷ []) b a = refl
  apart-drop d e (q ∷ p ∷ l) b a =
      let c = both (leb (tag q + gap q) (tag p)) (apart tag gap (p ∷ l)) a in
      let k = leb-true (tag q + gap q) (tag p) c.0 in
      let m = both (leb d (tag q)) (all (λ p. leb d (tag p)) (p ∷ l)) b in
      let z = leb-true d (tag q) m.0 in
      join (le-leb (tag (f q) + gap (f q)) (tag (f p)) (omega (arith, e q, e p, gaps q))) (apart-drop d e (p ∷ l) m.1 c.1)

  -- tags moved by now - m, none of which is below m, stand as far apart
  apart_shift : (now m : ℕ) → ((q : Request) → tag (f q) ≡ tag q + now - m) → (l : List Request) → all (λ p. leb m (tag p)) l ≡ true → apart tag gap l ≡ true
      → apart tag gap (map f l) ≡ true
  apart_shift now m e [] b a = refl
  apart_shift now m e (q ∷ []) b a = refl
  apart_shift now m e (q ∷ p ∷ l) b a =
      let c = both (leb (tag q + gap q) (tag p)) (apart tag gap (p ∷ l)) a in
      let k = leb-true (tag q + gap q) (tag p) c.0 in
      let d = both (leb m (tag q)) (all (λ p. leb m (tag p)) (p ∷ l)) b in
      let z = leb-true m (tag q) d.0 in
      join (le-leb (tag (f q) + gap (f q)) (tag (f p)) (omega (arith, e q, e p, gaps q))) (apart_shift now m e (p ∷ l) d.1 c.1)

  -- and the next number, moved likewise, follows them
  follows_shift : (now m : ℕ) → ((q : Request) → tag (f q) ≡ tag q + now - m) → (q : Request) (l : List Request) (n : ℕ) → all (λ p. leb m (tag p)) (q ∷ l) ≡ true
      → follows tag spacing (q ∷ l) n ≡ true → follows tag spacing (map f (q ∷ l)) (n + now - m) ≡ true
  follows_shift now m e q [] n b h =
      let z = leb-true m (tag q) (both (leb m (tag q)) true b).0 in
      eq-eqb (n + now - m) (tag (f q) + spacing (f q)) (omega (arith, e q, spacings q, eqb-true n (tag q + spacing q) h))
  follows_shift now m e q (p ∷ l) n b h = follows_shift now m e p l n (both (leb m (tag q)) (all (λ p. leb m (tag p)) (p ∷ l)) b).1 h

  -- one kind moved so that m comes to now, where something waits and no tag is below m
  pub kept_shift : (now m : ℕ) → ((q : Request) → tag (f q) ≡ tag q + now - m) → (q : Request) (l : List Request) (n : ℕ) → all (λ p. leb m (tag p)) (q ∷ l) ≡ true
      → kept true tag gap spacing (q ∷ l) n ≡ true → kept true tag gap spacing (map f (q ∷ l)) (n + now - m) ≡ true
  unfolding kept
  kept_shift now m e q l n b h =
      let c = both (apart tag gap (q ∷ l)) (follows tag spacing (q ∷ l) n) h in
      join (apart_shift now m e (q ∷ l) b c.0) (follows_shift now m e q l n b c.1)
