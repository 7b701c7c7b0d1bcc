-- Demand 3 by places: at the accepted events that find a place free a due request goes by reservation, under rule 1 after just those that stand before
-- it, under rule 2 after none but those. Words in quotes are demand 3's. Assumes nothing.
use mathlib.Core.Path.{◌≡◌, refl, sym, ap, subst, ◌∙◌}
use mathlib.Core.Bool.{Bool, true, false, ◌&&◌, true≢false, false≢true, and-false, or-true, or-false}
use mathlib.Core.List.{List, [], ◌∷◌, ◌++◌, map}
use mathlib.Core.Logic.{◌⊎◌, inl, inr, ⊎_elim}
use Prim.Native.Nat.{ℕ, zero, suc, ◌+◌, ◌≤◌, ◌<◌}
use native.Mathlib.Omega.{arith}
use lib.Dec.{ltb, leb, eqb}
use lib.ListN.{length, get_or, take, drop, length-take, length-drop, length-map, length-append}
use lib.Seq.{split_at, get_or-take, get_or-drop}
use borrow.Author.Tests.{ltb-true, lt-ltb, le-ltb, leb-true, leb-false, le-leb, eqb-true, eqb-false, eq-eqb, ne_eqb}
use Rattle.lists.specs.Words.{if◌then◌else◌, filter}
use Rattle.lists.specs.WordsLaws.{both, join}
use Rattle.lists.specs.Tab.{lt_or_le}
use Rattle.rules.specs.Tables.{Request, Table, name}
use Rattle.rules.specs.declared.Flight.{Flight}
use Rattle.rules.specs.Sound.{sound}
use Rattle.rules.specs.Choice.{due_at, due, room, choice}
use Rattle.rules.specs.Events.{enter}
use Rattle.rules.specs.declared.Event.{Event}
use Rattle.rules.specs.Refusals.{accepted}
use Rattle.rules.specs.Run.{step}
use Rattle.rules.specs.Chosen.{blank, at}
use Rattle.turns.specs.Turn.{tagged, is_due, ahead, sorted, finds_room, at_free, sent_by_reservation, by_name, Drawn, ByTurn}
use Rattle.turns.specs.TurnAt.{how_many, rtag_at, earlier_tag, before, turn_of, DueAt, ByTurnAt, TurnKept}
use Rattle.rules.specs.declared.Answer.TheVariants.{Nothing}
use Rattle.rules.proofs.StepSound.{accepted-step}
use Rattle.rules.proofs.Chosen.{due_means}
use Rattle.turns.proofs.Sorted.{Each, each_append, each-insert, length-sorted}
use Rattle.turns.proofs.Demand3.{demand_3_shared, demand_3_at}

-- HOW MANY

-- where none passes there are none
none_many : (n : ℕ) (f : ℕ → Bool) → ((l : ℕ) → l < n → f l ≡ false) → how_many n f ≡ 0
none_many zero f h = refl
none_many (suc n) f h = rw (h 0 (omega arith)) (none_many n (λ j. f (suc j)) (λ l k. h (suc l) (omega arith)))

-- two tests that agree
same_many : (n : ℕ) (f g : ℕ → Bool) → ((l : ℕ) → l < n → f l ≡ g l) → how_many n f ≡ how_many n g
same_many zero f g h = refl
same_many (suc n) f g h =
    rw (h 0 (omega arith), same_many n (λ j. f (suc j)) (λ j. g (suc j)) (λ l k. h (suc l) (omega arith)))

-- two tests that agree but at one place
one_more : (n : ℕ) (f g : ℕ → Bool) (j : ℕ) → j < n → f j ≡ true → g j ≡ false → ((l : ℕ) → l < n → (l ≡ j → ⊥) → f l ≡ g l)
    → how_many n f ≡ suc (how_many n g)
one_more zero f g j h p q s = absurd (omega arith)
one_more (suc n) f g zero h p q s =
    rw (p, q) (ap suc (same_many n (λ j. f (suc j)) (λ j. g (suc j)) (λ l k. s (suc l) (omega arith) (λ z. omega arith))))
one_more (suc n) f g (suc j) h p q s =
    let r = one_more n (λ j. f (suc j)) (λ j. g (suc j)) j (omega arith) p q (λ l k d. s (suc l) (omega arith) (λ z. d (omega arith))) in
    rw (s 0 (omega arith) (λ z. omega arith))
    (elim (g 0) as (λ b. (if b then suc (how_many n (λ j. f (suc j))) else how_many n (λ j. f (suc j))) ≡ suc (if b then suc (how_many n (λ j. g (suc j))) else how_many n (λ j. g (suc j))))
    [ true ↦ ap suc r | false ↦ r ])

-- a test that holds wherever another does holds as often
no_fewer : (n : ℕ) (f g : ℕ → Bool) → ((l : ℕ) → l < n → f l ≡ true → g l ≡ true) → how_many n f ≤ how_many n g
no_fewer zero f g h = omega arith
no_fewer (suc n) f g h = go (f 0) (g 0) (h 0 (omega arith)) (no_fewer n (λ j. f (suc j)) (λ j. g (suc j)) (λ l k. h (suc l) (omega arith)))
  where
    x : ℕ
    x = how_many n (λ j. f (suc j))

    y : ℕ
    y = how_many n (λ j. g (suc j))

    go : (a b : Bool) → (a ≡ true → b ≡ true) → x ≤ y → (if a then suc x else x) ≤ (if b then suc y else y)
    go true true i r = omega arith
    go true false i r = absurd (false≢true (i refl))
    go false true i r = omega arith
    go false false i r = r

-- and more often, where it also holds at a place where the other does not
more_many : (n : ℕ) (f g : ℕ → Bool) (j : ℕ) → j < n → f j ≡ false → g j ≡ true → ((l : ℕ) → l < n → f l ≡ true → g l ≡ true) → how_many n f < how_many n g
more_many zero f g j h p q s = absurd (omega arith)
more_many (suc n) f g zero h p q s =
    let r = no_fewer n (λ j. f (suc j)) (λ j. g (suc j)) (λ l k. s (suc l) (omega arith)) in
    rw (p, q) (omega arith)
more_many (suc n) f g (suc j) h p q s =
    go (f 0) (g 0) (s 0 (omega arith)) (more_many n (λ j. f (suc j)) (λ j. g (suc j)) j (omega arith) p q (λ l k. s (suc l) (omega arith)))
  where
    x : ℕ
    x = how_many n (λ j. f (suc j))

    y : ℕ
    y = how_many n (λ j. g (suc j))

    go : (a b : Bool) → (a ≡ true → b ≡ true) → x < y → (if a then suc x else x) < (if b then suc y else y)
    go true true i r = omega arith
    go true false i r = absurd (false≢true (i refl))
    go false true i r = omega arith
    go false false i r = r

-- as many places pass as entries do
list_many : (l : List Request) (f : ℕ → Bool) (g : Request → Bool) → ((j : ℕ) → j < length l → f j ≡ g (at l j)) → how_many (length l) f ≡ length (filter g l)
list_many [] f g h = refl
list_many (q ∷ l) f g h =
    let r = list_many l (λ j. f (suc j)) g (λ j k. h (suc j) (omega arith)) in
    rw (h 0 (omega arith), r)
    (elim (g q) as (λ b. (if b then suc (length (filter g l)) else length (filter g l)) ≡ length (if b then q ∷ filter g l else filter g l)) [ true ↦ refl | false ↦ refl ])

-- as many places pass as entries do: those of a by one test, those of b by another, and x not
split_many : (a b : List Request) (x : Request) (f : ℕ → Bool) (g k : Request → Bool)
    → ((n : ℕ) → n < length a → f n ≡ g (at (a ++ x ∷ b) n)) → f (length a) ≡ false
    → ((n : ℕ) → length a < n → n < length (a ++ x ∷ b) → f n ≡ k (at (a ++ x ∷ b) n))
    → how_many (length (a ++ x ∷ b)) f ≡ length (filter g a ++ filter k b)
split_many [] b x f g k p m s = rw m (list_many b (λ j. f (suc j)) k (λ j h. s (suc j) (omega arith) (omega arith)))
split_many (q ∷ a) b x f g k p m s =
    let r = split_many a b x (λ j. f (suc j)) g k (λ n h. p (suc n) (omega arith)) m (λ n h l. s (suc n) (omega arith) (omega arith)) in
    rw (p 0 (omega arith), r)
    (elim (g q) as (λ c. (if c then suc (length (filter g a ++ filter k b)) else length (filter g a ++ filter k b)) ≡ length ((if c then q ∷ filter g a else filter g a) ++ filter k b))
    [ true ↦ refl | false ↦ refl ])

-- THE ORDER of tags

-- a smaller tag, or an equal one and an earlier place
abbrev Order : (p j q i : ℕ) → Type 0
Order p j q i = (p < q) ⊎ ((p ≡ q) × (j < i))

order_is : (p j q i : ℕ) → earlier_tag p j q i ≡ true → Order p j q i
order_is p j q i h = go (ltb p q) refl
  where
    go : (b : Bool) → ltb p q ≡ b → Order p j q i
    go true e = inl (ltb-true p q e)
    go false e =
        let r : eqb p q && ltb j i ≡ true = rw e at h in
        let c = both (eqb p q) (ltb j i) r in
        inr (eqb-true p q c.0, ltb-true j i c.1)

is_order : (p j q i : ℕ) → Order p j q i → earlier_tag p j q i ≡ true
is_order p j q i (inl l) = rw (lt-ltb p q l)
is_order p j q i (inr (e, l)) =
    rw (eq-eqb p q e, lt-ltb j i l) (or-true (ltb p q))

-- among earlier places a tag that is not larger stands before, among later ones a smaller one
order_earlier : (p j q i : ℕ) → j < i → earlier_tag p j q i ≡ leb p q
order_earlier p j q i h = go (leb p q) refl
  where
    go : (b : Bool) → leb p q ≡ b → earlier_tag p j q i ≡ b
    go true e = is_order p j q i (⊎_elim (λ l. inl l) (λ l. inr (omega (arith, leb-true p q e), h)) (lt_or_le p q))
    go false e =
        let l = leb-false p q e in
        rw (le-ltb p q (omega arith), ne_eqb p q (λ z. omega arith))

order_later : (p j q i : ℕ) → i ≤ j → earlier_tag p j q i ≡ ltb p q
order_later p j q i h =
    rw (le-ltb j i h, and-false (eqb p q)) (or-false (ltb p q))

module _ (t : Table) where
  -- the number of waiting requests
  abbrev size : ℕ
  size = length t.waiting

  -- what it says that place j stands before place i
  before_is : (i j : ℕ) → before t i j ≡ true → (tagged t (at t.waiting j) ≡ true) × Order (rtag_at t j) j (rtag_at t i) i
  before_is i j h =
      let c = both (tagged t (at t.waiting j)) (earlier_tag (rtag_at t j) j (rtag_at t i) i) h in
      (c.0, order_is (rtag_at t j) j (rtag_at t i) i c.1)

  is_before : (i j : ℕ) → tagged t (at t.waiting j) ≡ true → Order (rtag_at t j) j (rtag_at t i) i → before t i j ≡ true
  is_before i j h o = join h (is_order (rtag_at t j) j (rtag_at t i) i o)

  -- no place stands before itself
  before_self : (i : ℕ) → before t i i ≡ false
  before_self i = rw (le-ltb (rtag_at t i) (rtag_at t i) (omega arith), le-ltb i i (omega arith), and-false (eqb (rtag_at t i) (rtag_at t i)), and-false (tagged t (at t.waiting i)))

  -- a place before one that stands before another stands before that
  before-before : (i j l : ℕ) → before t i j ≡ true → before t j l ≡ true → before t i l ≡ true
  before-before i j l h k = is_before i l (before_is j l k).0 (go (before_is i j h).1 (before_is j l k).1)
    where
      go : Order (rtag_at t j) j (rtag_at t i) i → Order (rtag_at t l) l (rtag_at t j) j → Order (rtag_at t l) l (rtag_at t i) i
      go (inl a) (inl b) = inl (omega arith)
      go (inl a) (inr b) = inl (omega (arith, b.0))
      go (inr a) (inl b) = inl (omega (arith, a.0))
      go (inr a) (inr b) = inr (omega (arith, a.0, b.0), omega (arith, a.1, b.1))

  -- of two places with a tag one stands before the other
  before-either : (i j : ℕ) → tagged t (at t.waiting i) ≡ true → tagged t (at t.waiting j) ≡ true → (i ≡ j → ⊥)
      → (before t i j ≡ true) ⊎ (before t j i ≡ true)
  before-either i j p q n =
      ⊎_elim (λ l. inl (is_before i j q (inl l)))
      (λ l.
      ⊎_elim (λ m. inr (is_before j i p (inl m)))
      (λ m.
      ⊎_elim (λ k. inl (is_before i j q (inr (omega arith, k)))) (λ k. inr (is_before j i p (inr (omega arith, omega (arith, less i j n k))))) (lt_or_le j i))
      (lt_or_le (rtag_at t i) (rtag_at t j)))
      (lt_or_le (rtag_at t j) (rtag_at t i))
    where
      less : (i j : ℕ) → (i ≡ j → ⊥) → i ≤ j → i < j
      less i j n h = omega arith

  -- what holds of n and of every number below it holds of every number below n + 1
  up_to : (P : ℕ → Type 0) (n : ℕ) → P n → ((l : ℕ) → l < n → P l) → (l : ℕ) → l < suc n → P l
  up_to P n p h l k = ⊎_elim (h l) (λ m. let e : n ≡ l = omega arith in subst P e p) (lt_or_le l n)

  -- place j stands before place i, and every other place below n that does stands before j
  record Last (i n j : ℕ) : Type 0 where
    inside : j < n
    stands : before t i j ≡ true
    others : (l : ℕ) → l < n → before t i l ≡ true → (l ≡ j → ⊥) → before t j l ≡ true

  -- of the places that stand before place i there is a last one, if there is any
  last_of : (i n : ℕ) → ((l : ℕ) → l < n → before t i l ≡ false) ⊎ ((j : ℕ) × Last i n j)
  last_of i zero = inl (λ l h. absurd (omega arith))
  last_of i (suc n) = go (before t i n) refl (last_of i n)
    where
      Goal : Type 0
      Goal = ((l : ℕ) → l < suc n → before t i l ≡ false) ⊎ ((j : ℕ) × Last i (suc n) j)

      Behind : ℕ → ℕ → Type 0
      Behind j l = before t i l ≡ true → (l ≡ j → ⊥) → before t j l ≡ true

      won : (j : ℕ) → Last i n j → before t j n ≡ true → Goal
      won j a b = inr (j, record { inside = omega (arith, a.inside); stands = a.stands; others = up_to (Behind j) n (λ h d. b) a.others })

      lost : (j : ℕ) → Last i n j → before t i n ≡ true → before t n j ≡ true → Goal
      lost j a e b = inr (n, record { inside = omega arith; stands = e; others = up_to (Behind n) n (λ h d. absurd (d refl)) rest })
        where
          rest : (l : ℕ) → l < n → Behind n l
          rest l k h d = at_or (eqb l j) refl
            where
              at_or : (b : Bool) → eqb l j ≡ b → before t n l ≡ true
              at_or true c = rw (eqb-true l j c) b
              at_or false c = before-before n j l b (a.others l k h (eqb-false l j c))

      go : (b : Bool) → before t i n ≡ b → ((l : ℕ) → l < n → before t i l ≡ false) ⊎ ((j : ℕ) × Last i n j) → Goal
      go false e (inl none) = inl (up_to (λ l. before t i l ≡ false) n e none)
      go false e (inr (j, a)) = inr (j, record { inside = omega (arith, a.inside); stands = a.stands; others = up_to (Behind j) n (λ h d. absurd (true≢false (sym h ∙ e))) a.others })
      go true e (inl none) = inr (n, record { inside = omega arith; stands = e; others = up_to (Behind n) n (λ h d. absurd (d refl)) (λ l k h d. absurd (true≢false (sym h ∙ none l k))) })
      go true e (inr (j, a)) =
          ⊎_elim (won j a) (lost j a e)
          (before-either j n (before_is i j a.stands).0 (before_is i n e).0 (λ z. omega (arith, a.inside)))

  -- just one more place stands before i than before the last of those
  last_turn : (i j : ℕ) → Last i size j → turn_of t i ≡ suc (turn_of t j)
  last_turn i j a = one_more size (before t i) (before t j) j a.inside a.stands (before_self j) agree
    where
      same : (b c : Bool) → (b ≡ true → c ≡ true) → (c ≡ true → b ≡ true) → b ≡ c
      same true true p q = refl
      same true false p q = sym (p refl)
      same false true p q = q refl
      same false false p q = refl

      agree : (l : ℕ) → l < size → (l ≡ j → ⊥) → before t i l ≡ before t j l
      agree l h d = same (before t i l) (before t j l) (λ e. a.others l h e d) (λ e. before-before i j l a.stands e)

  -- every number below the turn of a place is the turn of one that stands before it
  turn-of : (k i : ℕ) → turn_of t i ≡ k → (n : ℕ) → n < k → (j : ℕ) × (j < size) × (before t i j ≡ true) × (turn_of t j ≡ n)
  turn-of zero i e n h = absurd (omega arith)
  turn-of (suc k) i e n h = go (last_of i size) (λ j. turn-of k j)
    where
      Goal : Type 0
      Goal = (j : ℕ) × (j < size) × (before t i j ≡ true) × (turn_of t j ≡ n)

      go : ((l : ℕ) → l < size → before t i l ≡ false) ⊎ ((j : ℕ) × Last i size j)
          → ((j : ℕ) → turn_of t j ≡ k → (n : ℕ) → n < k → (l : ℕ) × (l < size) × (before t j l ≡ true) × (turn_of t l ≡ n)) → Goal
      go (inl none) r = absurd (omega (arith, none_many size (before t i) none, e))
      go (inr (j, a)) r =
          let m : turn_of t j ≡ k = omega (arith, last_turn i j a, e) in
          ⊎_elim (λ l. let (x, c, d, f) = r j m n l in (x, c, before-before i j x a.stands d, f)) (λ l. (j, a.inside, a.stands, omega (arith, m))) (lt_or_le n k)

  -- a place that stands before another has an earlier turn
  turn-earlier : (i j : ℕ) → j < size → before t i j ≡ true → turn_of t j < turn_of t i
  turn-earlier i j h b = more_many size (before t j) (before t i) j h (before_self j) b (λ l k e. before-before i j l b e)

  -- the turn of a place is the number of those ahead of it
  turn_is : (i : ℕ) → i < size → turn_of t i ≡ length (ahead t (at t.waiting i) (take i t.waiting) (drop (suc i) t.waiting))
  turn_is i h =
      ap (λ (l : List Request). how_many (length l) (before t i)) e
      ∙ split_many a b x (before t i) (λ q. tagged t q && leb q.rtag x.rtag) (λ q. tagged t q && ltb q.rtag x.rtag)
      (λ n k.
      ap (tagged t (at t.waiting n) &&◌) (order_earlier (rtag_at t n) n (rtag_at t i) i (omega (arith, long)))
      ∙ ap (λ (l : List Request). tagged t (at l n) && leb (at l n).rtag x.rtag) e)
      (ap (before t i) long ∙ before_self i)
      (λ n k m.
      ap (tagged t (at t.waiting n) &&◌) (order_later (rtag_at t n) n (rtag_at t i) i (omega (arith, long)))
      ∙ ap (λ (l : List Request). tagged t (at l n) && ltb (at l n).rtag x.rtag) e)
    where
      a : List Request
      a = take i t.waiting

      b : List Request
      b = drop (suc i) t.waiting

      x : Request
      x = at t.waiting i

      e : t.waiting ≡ a ++ x ∷ b
      e = split_at t.waiting i blank h

      long : length a ≡ i
      long = simp length-take (omega arith)

-- DEMAND 3

-- a due place has a request that is due
is_due_lem : (t : Table) (i : ℕ) → DueAt t i → is_due t (at t.waiting i) ≡ true
unfolding due_at
is_due_lem t i d = join d.has_tag (le-leb (rtag_at t i) t.time d.at_or_before)

-- RULE 1: the request at a due place goes by reservation, after just those that stand before it
goes : (t : Table) (i : ℕ) (es : List Event) → sound t ≡ true → t.setup.rule ≡ 1 → DueAt t i → turn_of t i < length (at_free t es)
    → get_or (at_free t es) (turn_of t i) Nothing ≡ sent_by_reservation (at t.waiting i)
goes t i es s one d h =
    demand_3_at t (take i t.waiting) (drop (suc i) t.waiting) (at t.waiting i) es s one (split_at t.waiting i blank d.waits)
    (is_due_lem t i d) (turn_of t i) (turn_is t i d.waits) h

-- what stands before a due place is due
due-before : (t : Table) (i j : ℕ) → DueAt t i → j < length t.waiting → before t i j ≡ true → DueAt t j
due-before t i j d h b =
    let c = before_is t i j b in
    record { waits = h; has_tag = c.0; at_or_before = ⊎_elim (λ l. omega (arith, d.at_or_before)) (λ l. omega (arith, l.0, d.at_or_before)) c.1 }

-- WHAT STANDS BEFORE A PLACE, by name
abbrev Ahead : Table → ℕ → Flight → Type 0
Ahead t i f = (j : ℕ) × (j < length t.waiting) × (before t i j ≡ true) × (f ≡ name (at t.waiting j))

-- what holds of each place that passes holds of each request that a filter leaves
each-filter : (P : Request → Type 0) (g : Request → Bool) (l : List Request) → ((n : ℕ) → n < length l → g (at l n) ≡ true → P (at l n)) → Each P (filter g l)
each-filter P g [] h = tt
each-filter P g (q ∷ l) h = go (g q) refl (each-filter P g l (λ n k. h (suc n) (omega arith)))
  where
    go : (b : Bool) → g q ≡ b → Each P (filter g l) → Each P (if b then q ∷ filter g l else filter g l)
    go true e r = (h 0 (omega arith) e, r)
    go false e r = r

-- those ahead of the request at place i stand at places before it
ahead_stand : (t : Table) (i : ℕ) → i < length t.waiting
    → Each (λ q. Ahead t i (name q)) (ahead t (at t.waiting i) (take i t.waiting) (drop (suc i) t.waiting))
ahead_stand t i h =
    each_append Stands (filter early (take i w)) (filter late (drop (suc i) w))
    (each-filter Stands early (take i w)
    (λ n k e.
    let l : n < i = omega (arith, length-take i w) in
    let here : at (take i w) n ≡ at w n = get_or-take i w n blank l in
    (n, omega arith, ap (tagged t (at w n) &&◌) (order_earlier (rtag_at t n) n (rtag_at t i) i l) ∙ ap early (sym here) ∙ e, ap name here)))
    (each-filter Stands late (drop (suc i) w)
    (λ n k e.
    let here : at (drop (suc i) w) n ≡ at w (suc i + n) = get_or-drop (suc i) w n blank in
    let l : suc i + n < length w = omega (arith, length-drop (suc i) w) in
    (suc i + n, l, ap (tagged t (at w (suc i + n)) &&◌) (order_later (rtag_at t (suc i + n)) (suc i + n) (rtag_at t i) i (omega arith)) ∙ ap late (sym here) ∙ e, ap name here)))
  where
    w : List Request
    w = t.waiting

    Stands : Request → Type 0
    Stands q = Ahead t i (name q)

    early : Request → Bool
    early q = tagged t q && leb q.rtag (rtag_at t i)

    late : Request → Bool
    late q = tagged t q && ltb q.rtag (rtag_at t i)

module _ (P : Flight → Type 0) where
  -- it holds of every name of the list
  abbrev Named : List Flight → Type 0
  Named [] = Unit {0}
  Named (f ∷ l) = P f × Named l

  -- of the names of requests of which it holds
  named-map : (l : List Request) → Each (λ q. P (name q)) l → Named (map name l)
  named-map [] u = tt
  named-map (q ∷ l) u = (u.0, named-map l u.1)

  -- of one in the middle, and of the others
  named_mid : (a : List Flight) (f : Flight) (b : List Flight) → Named (a ++ f ∷ b) → P f × Named (a ++ b)
  named_mid [] f b u = u
  named_mid (g ∷ a) f b u = let c = named_mid a f b u.1 in (c.0, (u.0, c.1))

  -- and so of each that is drawn from them
  named_drawn : (s l : List Flight) → Drawn s l → Named l → (n : ℕ) (d : Flight) → n < length s → P (get_or s n d)
  named_drawn [] l r u n d h = absurd (omega arith)
  named_drawn (f ∷ s) l (a, b, e, r) u zero d h = (named_mid a f b (rw e at u)).0
  named_drawn (f ∷ s) l (a, b, e, r) u (suc n) d h = named_drawn s (a ++ b) r (named_mid a f b (rw e at u)).1 n d (omega arith)

-- no more are drawn than there are
drawn_length : (s l : List Flight) → Drawn s l → length s ≤ length l
drawn_length [] l r = omega arith
drawn_length (f ∷ s) l (a, b, e, r) = rw (e, length-append a (f ∷ b)) (omega (arith, drawn_length s (a ++ b) r, length-append a b))

-- it holds of every request of a sorted list too
each-sorted : (P : Request → Type 0) (l : List Request) → Each P l → Each P (sorted l)
each-sorted P [] u = tt
each-sorted P (q ∷ l) u = each-insert P q (sorted l) u.0 (each-sorted P l u.1)

-- WHAT BOTH RULES SHARE, by places: a request that is due and passes goes after none but those that stand before it, each by reservation
by_turn : (t : Table) (i : ℕ) (es : List Event) → sound t ≡ true → i < length t.waiting → due t (at t.waiting i) ≡ true → ByTurnAt t i (at_free t es)
by_turn t i es s h d =
    record {
      turn = length c.sent;
      at-latest = omega (arith, drawn_length c.sent (map name those) c.drawn, length-map those name, length-sorted them, turn_is t i h);
      none_by_weight = λ n k l.
          let (j, m, b, e) = named_drawn (Ahead t i) c.sent (map name those) c.drawn (named-map (Ahead t i) those (each-sorted (λ q. Ahead t i (name q)) them (ahead_stand t i h))) n (name x) k in
          (j, m, b, c.some_first n k l ∙ ap by_name e);
      then_this = c.then_this;
    }
  where
    x : Request
    x = at t.waiting i

    them : List Request
    them = ahead t x (take i t.waiting) (drop (suc i) t.waiting)

    those : List Request
    those = sorted them

    c : ByTurn t.setup.rule those x (at_free t es)
    c = demand_3_shared t (take i t.waiting) (drop (suc i) t.waiting) x es s (split_at t.waiting i blank h) d

-- Under rule 1: "Take any sound table at its last accepted time and a waiting request whose reservation tag is at or before that time. Let k be how many
-- waiting requests stand before it by reservation tag, equal tags by order of acceptance (requests of guests without a reservation have no such
-- tag). In any sequence of later arrivals, completions and ticks, refused ones among them, the accepted events that find a place free at the
-- array (a completion frees its own first) send exactly those k first, then this request at the (k+1)th, each by reservation."
-- Document 02, K7: "In demand 3 under rule 2, the request must meet that too, k counts every waiting request whose reservation tag stands before it,
-- its limit due or not, and it is sent at the (k+1)th such event at the latest, no send before it being by weight."
-- The table is t, the request that at place i, k is turn_of t i, the sequence es; at_free has the answers to those events, in order.
pub demand_3_places : (t : Table) (i : ℕ) (es : List Event) → sound t ≡ true → TurnKept t i (at_free t es)
demand_3_places t i es s =
    record {
      rule_1 = λ one d. record {
        each_goes = λ j h b. (turn-earlier t i j h b, goes t j es s one (due-before t i j d h b));
        those_first = turn-of t (turn_of t i) i refl;
        then_this = goes t i es s one d;
      };
      rule_2 = λ two d o. by_turn t i es s d.waits ((due_means t (at t.waiting i)).1 (record { has_tag = d.has_tag; at_or_before = d.at_or_before; by_rule_2 = λ e. o }));
    }

-- where no place is free the choice sends nothing
choice_nothing : (t : Table) → room t ≡ false → (choice t).answer ≡ Nothing
unfolding choice
choice_nothing t h = rw h

-- An accepted event that finds no place free sends nothing.
pub no_place_no_send : (t : Table) (e : Event) → accepted t e ≡ true → finds_room t e ≡ false → (step t e).answer ≡ Nothing
no_place_no_send t e a f =
    let r : room (enter t e) ≡ false = rw a at f in
    rw (accepted-step t e a) (choice_nothing (enter t e) r)
