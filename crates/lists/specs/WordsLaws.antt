-- Laws of the words of Words.antt. Assumes nothing.
use Rattle.std.specs.Prelude.{◌≡◌, refl, Bool, true, false, not, ◌&&◌, ◌||◌, ℕ, zero, suc, min, ◌≤◌, ◌<◌, ◌+◌, ◌⊎◌, leb, eqb, length, get_or, if◌then◌else◌}
use Rattle.std.proofs.Common.{sym, ap, ap₂, ◌∙◌, true≢false, inl, inr, arith, le-leb, leb-true, leb-false, eqb-true, eq-eqb, ne_eqb}
use Rattle.std.proofs.lemmas.Bool.{false≢true, eqb-false}
use Rattle.std.proofs.Math.Bool.{and-false, and-true, and_assoc}
use mathlib.Core.List.{List, [], ◌∷◌, ◌++◌, map, Memᴰ}
use Rattle.lists.specs.Words.{all, filter, without, each, below, lowest, empty}
use Rattle.lists.specs.Tab.{remove_at}

-- TWO TESTS

-- two tests that both hold, one by one
pub both : (a b : Bool) → a && b ≡ true → (a ≡ true) × (b ≡ true)
both true b h = (refl, h)
both false b h = absurd (false≢true h)

-- and together
pub join : {a b : Bool} → a ≡ true → b ≡ true → a && b ≡ true
join p q = rw (p, q)

-- two tests that do not both hold: one of them fails
pub either_fails : (a b : Bool) → a && b ≡ false → (a ≡ false) ⊎ (b ≡ false)
either_fails true b h = inr h
either_fails false b h = inl refl

-- where the first fails, both together do
pub left_fails : {a : Bool} (b : Bool) → a ≡ false → a && b ≡ false
left_fails b p = rw p

-- and where the second does
pub right_fails : (a : Bool) {b : Bool} → b ≡ false → a && b ≡ false
right_fails true p = p
right_fails false p = refl

-- two tests of which none holds
pub neither : (a b : Bool) → a || b ≡ false → (a ≡ false) × (b ≡ false)
neither true b h = absurd (true≢false h)
neither false b h = (refl, h)

-- the test of equality does not look at the order of its two numbers
pub eqb_sym : (a b : ℕ) → eqb a b ≡ eqb b a
eqb_sym a b = go (eqb a b) refl
  where
    go : (c : Bool) → eqb a b ≡ c → eqb a b ≡ eqb b a
    go true e = e ∙ sym (eq-eqb b a (sym (eqb-true a b e)))
    go false e = e ∙ sym (ne_eqb b a (λ q. eqb-false a b e (sym q)))

-- TESTS ON LISTS

-- two lists that pass, one behind the other, do
pub all_append : {A : Type 0} (f : A → Bool) (a b : List A) → all f a ≡ true → all f b ≡ true → all f (a ++ b) ≡ true
all_append f [] b p q = q
all_append f (x ∷ a) b p q = let h = both (f x) (all f a) p in join h.0 (all_append f a b h.1 q)

-- all pass two tests
pub all_both : {A : Type 0} (f g : A → Bool) (l : List A) → all f l ≡ true → all g l ≡ true → all (λ x. f x && g x) l ≡ true
all_both f g [] p q = refl
all_both f g (x ∷ l) p q =
    let a = both (f x) (all f l) p in
    let b = both (g x) (all g l) q in
    join (join a.0 b.0) (all_both f g l a.1 b.1)

-- and each of the two apart
pub both_all : {A : Type 0} (f g : A → Bool) (l : List A) → all (λ x. f x && g x) l ≡ true → (all f l ≡ true) × (all g l ≡ true)
both_all f g [] h = (refl, refl)
both_all f g (x ∷ l) h =
    let a = both (f x && g x) (all (λ x. f x && g x) l) h in
    let b = both (f x) (g x) a.0 in
    let d = both_all f g l a.1 in
    (join b.0 d.0, join b.1 d.1)

-- a test that each entry passes after a change
pub all_map : {A B : Type 0} (f : A → Bool) (g : B → Bool) (k : A → B) → ((x : A) → f x ≡ true → g (k x) ≡ true) → (l : List A) → all f l ≡ true → all g (map k l) ≡ true
all_map f g k h [] p = refl
all_map f g k h (x ∷ l) p = let c = both (f x) (all f l) p in join (h x c.0) (all_map f g k h l c.1)

-- an entry in the middle passes, and so do the others
pub all_mid : {A : Type 0} (f : A → Bool) (a : List A) (x : A) (b : List A) → all f (a ++ x ∷ b) ≡ true → (f x ≡ true) × (all f (a ++ b) ≡ true)
all_mid f [] x b h = both (f x) (all f b) h
all_mid f (y ∷ a) x b h = let c = both (f y) (all f (a ++ x ∷ b)) h in let d = all_mid f a x b c.1 in (d.0, join c.0 d.1)

-- the entry at every place passes: all do
pub places_all : {A : Type 0} (f : A → Bool) (l : List A) (d : A) → ((j : ℕ) → j < length l → f (get_or l j d) ≡ true) → all f l ≡ true
places_all f [] d h = refl
places_all f (x ∷ l) d h = join (h 0 (omega arith)) (places_all f l d (λ j k. h (suc j) (omega arith)))

-- a test on changed entries is a test on the entries
pub all_of_map : {A B : Type 0} (f : B → Bool) (k : A → B) (l : List A) → all f (map k l) ≡ all (λ x. f (k x)) l
all_of_map f k [] = refl
all_of_map f k (x ∷ l) = ap (f (k x) &&◌) (all_of_map f k l)

-- all pass: the entry at every place does
pub all-at : {A : Type 0} (f : A → Bool) (l : List A) (d : A) → all f l ≡ true → (j : ℕ) → j < length l → f (get_or l j d) ≡ true
all-at f [] d h j k = absurd (omega arith)
all-at f (x ∷ l) d h zero k = (both (f x) (all f l) h).0
all-at f (x ∷ l) d h (suc j) k = all-at f l d (both (f x) (all f l) h).1 j (omega arith)

-- where all pass a test, what another test leaves of them does
pub all_filter : {A : Type 0} (f k : A → Bool) (l : List A) → all f l ≡ true → all f (filter k l) ≡ true
all_filter f k [] h = refl
all_filter f k (x ∷ l) h =
    let c = both (f x) (all f l) h in
    let i = all_filter f k l c.1 in
    elim (k x) as (λ z. all f (if z then x ∷ filter k l else filter k l) ≡ true) [ true ↦ join c.0 i | false ↦ i ]

-- a test on a list with one more at its end
pub all_snoc : {A : Type 0} (f : A → Bool) (l : List A) (x : A) → all f (l ++ (x ∷ [])) ≡ all f l && f x
all_snoc f [] x = and-true (f x)
all_snoc f (y ∷ l) x = ap (f y &&◌) (all_snoc f l x) ∙ sym (and_assoc (f y) (all f l) (f x))

-- a filter leaves nothing exactly where no entry passes
pub none_left : {A : Type 0} (f : A → Bool) (l : List A) → empty (filter f l) ≡ all (λ x. not (f x)) l
none_left f [] = refl
none_left f (x ∷ l) =
    elim (f x) as (λ b. empty (if b then x ∷ filter f l else filter f l) ≡ not b && all (λ x. not (f x)) l)
    [ true ↦ refl | false ↦ none_left f l ]

-- the entry at one place does not pass: not all do
pub place_not : {A : Type 0} (f : A → Bool) (l : List A) (d : A) (i : ℕ) → i < length l → f (get_or l i d) ≡ false → all f l ≡ false
place_not f [] d i h e = absurd (omega arith)
place_not f (x ∷ l) d zero h e = rw e
place_not f (x ∷ l) d (suc i) h e = rw (place_not f l d i (omega arith) e) (and-false (f x))

-- the first place that passes is the one that `without` takes out
pub without_at : {A : Type 0} (f : A → Bool) (l : List A) (d : A) (i : ℕ) → i < length l → f (get_or l i d) ≡ true → ((j : ℕ) → j < i → f (get_or l j d) ≡ false) → without f l ≡ remove_at i l
without_at f [] d i h e n = absurd (omega arith)
without_at f (x ∷ l) d zero h e n = rw e
without_at f (x ∷ l) d (suc i) h e n = rw (n 0 (omega arith)) (ap (x ∷◌) (without_at f l d i (omega arith) e (λ j k. n (suc j) (omega arith))))

-- every number below n passes: each one does
pub below_at : (n : ℕ) (f : ℕ → Bool) → below n f ≡ true → (g : ℕ) → g < n → f g ≡ true
below_at zero f p g h = absurd (omega arith)
below_at (suc n) f p g h = go (eqb g n) refl (λ k. below_at n f (both (f n) (below n f) p).1 g k)
  where
    go : (b : Bool) → eqb g n ≡ b → (g < n → f g ≡ true) → f g ≡ true
    go true e k = rw (eqb-true g n e) (both (f n) (below n f) p).0
    go false e k = k (omega (arith, eqb-false g n e))

-- and the way back
pub at-below : (n : ℕ) (f : ℕ → Bool) → ((g : ℕ) → g < n → f g ≡ true) → below n f ≡ true
at-below zero f h = refl
at-below (suc n) f h = join (h n (omega arith)) (at-below n f (λ g k. h g (omega arith)))

-- two lists, one behind the other, pass: each does
pub all_parts : {A : Type 0} (f : A → Bool) (a b : List A) → all f (a ++ b) ≡ true → (all f a ≡ true) × (all f b ≡ true)
all_parts f [] b h = (refl, h)
all_parts f (x ∷ a) b h = let c = both (f x) (all f (a ++ b)) h in let d = all_parts f a b c.1 in (join c.0 d.0, d.1)

-- what a filter leaves passes its test
pub filter_passes : {A : Type 0} (f : A → Bool) (l : List A) → all f (filter f l) ≡ true
filter_passes f [] = refl
filter_passes f (x ∷ l) = go (f x) refl (filter_passes f l)
  where
    go : (b : Bool) → f x ≡ b → all f (filter f l) ≡ true → all f (if b then x ∷ filter f l else filter f l) ≡ true
    go true e h = join e h
    go false e h = h

-- where what a filter leaves passes a test, an entry of the whole list that the filter leaves does, by its place
pub all-passing-at : {A : Type 0} (f k : A → Bool) (l : List A) (d : A) → all f (filter k l) ≡ true → (j : ℕ) → j < length l → k (get_or l j d) ≡ true → f (get_or l j d) ≡ true
all-passing-at f k [] d h j l e = absurd (omega arith)
all-passing-at f k (x ∷ xs) d h zero l e =
    let c : f x && all f (filter k xs) ≡ true = rw e at h in
    (both (f x) (all f (filter k xs)) c).0
all-passing-at f k (x ∷ xs) d h (suc j) l e = all-passing-at f k xs d (go (k x) h) j (omega arith) e
  where
    go : (b : Bool) → all f (if b then x ∷ filter k xs else filter k xs) ≡ true → all f (filter k xs) ≡ true
    go true h = (both (f x) (all f (filter k xs)) h).1
    go false h = h

-- where all pass a test, those do that are left when one is taken out
pub all_without : {A : Type 0} (f k : A → Bool) (l : List A) → all f l ≡ true → all f (without k l) ≡ true
all_without f k [] h = refl
all_without f k (x ∷ l) h =
    let c = both (f x) (all f l) h in
    let i = all_without f k l c.1 in
    elim (k x) as (λ z. all f (if z then l else x ∷ without k l) ≡ true) [ true ↦ c.1 | false ↦ join c.0 i ]

-- a list from which one was taken out is no longer than before
pub length_without : {A : Type 0} (k : A → Bool) (l : List A) → length (without k l) ≤ length l
length_without k [] = omega arith
length_without k (x ∷ l) =
    let h = length_without k l in
    elim (k x) as (λ z. length (if z then l else x ∷ without k l) ≤ suc (length l)) [ true ↦ omega arith | false ↦ omega arith ]

-- and shorter by one, where an entry passes
pub length-without-one : {A : Type 0} (k : A → Bool) (l : List A) → all (λ x. not (k x)) l ≡ false → suc (length (without k l)) ≡ length l
length-without-one k [] h = absurd (true≢false h)
length-without-one k (x ∷ l) h = go (k x) h (length-without-one k l)
  where
    go : (b : Bool) → not b && all (λ x. not (k x)) l ≡ false → (all (λ x. not (k x)) l ≡ false → suc (length (without k l)) ≡ length l) → suc (length (if b then l else x ∷ without k l)) ≡ suc (length l)
    go true h i = refl
    go false h i = ap suc (i h)

-- no number of a list is below its smallest
pub lowest-all : (l : List ℕ) (m : ℕ) → m ≤ lowest l → all (leb m) l ≡ true
unfolding lowest
lowest-all [] m h = refl
lowest-all (x ∷ []) m h = join (le-leb m x h) refl
lowest-all (x ∷ y ∷ l) m h = join (le-leb m x (omega arith)) (lowest-all (y ∷ l) m (omega arith))

-- MAPS

-- two lists changed, one behind the other
pub map-append : {A B : Type 0} (f : A → B) (a b : List A) → map f (a ++ b) ≡ map f a ++ map f b
map-append f [] b = refl
map-append f (x ∷ a) b = ap (f x ∷◌) (map-append f a b)

-- a change that another map does not see
pub map_same : {A B : Type 0} (g : A → B) (f : A → A) → ((x : A) → g (f x) ≡ g x) → (l : List A) → map g (map f l) ≡ map g l
map_same g f h [] = refl
map_same g f h (x ∷ l) = ap₂ ◌∷◌ (h x) (map_same g f h l)

-- a change that a test does not see
pub all_same : {A : Type 0} (f : A → Bool) (k : A → A) → ((x : A) → f (k x) ≡ f x) → (l : List A) → all f (map k l) ≡ all f l
all_same f k h [] = refl
all_same f k h (x ∷ l) = ap₂ ◌&&◌ (h x) (all_same f k h l)

-- two changes that are the same where a test holds
pub map_on : {A B : Type 0} (p : A → Bool) (f k : A → B) → ((x : A) → p x ≡ true → f x ≡ k x) → (l : List A) → all p l ≡ true → map f l ≡ map k l
map_on p f k h [] a = refl
map_on p f k h (x ∷ l) a = let c = both (p x) (all p l) a in ap₂ ◌∷◌ (h x c.0) (map_on p f k h l c.1)

-- two functions that agree on every entry of the list
pub map_places : {A B : Type 0} (f k : A → B) (l : List A) (d : A) → ((j : ℕ) → j < length l → f (get_or l j d) ≡ k (get_or l j d)) → map f l ≡ map k l
map_places f k [] d h = refl
map_places f k (x ∷ l) d h = ap₂ ◌∷◌ (h 0 (omega arith)) (map_places f k l d (λ j i. h (suc j) (omega arith)))

-- no change
pub map_id : {A : Type 0} (l : List A) → map (λ x. x) l ≡ l
map_id [] = refl
map_id (x ∷ l) = ap (x ∷◌) (map_id l)

-- what passes after a change that the test does not see
pub filter_map : {A : Type 0} (f : A → Bool) (k : A → A) → ((x : A) → f (k x) ≡ f x) → (l : List A) → filter f (map k l) ≡ map k (filter f l)
filter_map f k e [] = refl
filter_map f k e (x ∷ l) =
    let h = filter_map f k e l in
    rw (e x)
    (elim (f x) as (λ c. (if c then k x ∷ filter f (map k l) else filter f (map k l)) ≡ map k (if c then x ∷ filter f l else filter f l))
    [ true ↦ ap (k x ∷◌) h | false ↦ h ])

-- what passes of two lists, one behind the other
pub filter-append : {A : Type 0} (f : A → Bool) (a b : List A) → filter f (a ++ b) ≡ filter f a ++ filter f b
filter-append f [] b = refl
filter-append f (x ∷ a) b =
    let h = filter-append f a b in
    elim (f x) as (λ c. (if c then x ∷ filter f (a ++ b) else filter f (a ++ b)) ≡ (if c then x ∷ filter f a else filter f a) ++ filter f b)
    [ true ↦ ap (x ∷◌) h | false ↦ h ]

-- two tests one after the other are both at once
pub filter-filter : {A : Type 0} (f g : A → Bool) (l : List A) → filter g (filter f l) ≡ filter (λ x. f x && g x) l
filter-filter f g [] = refl
filter-filter f g (x ∷ l) = go (f x) refl (g x) refl (filter-filter f g l)
  where
    go : (a : Bool) → f x ≡ a → (b : Bool) → g x ≡ b → filter g (filter f l) ≡ filter (λ y. f y && g y) l
        → filter g (filter f (x ∷ l)) ≡ filter (λ y. f y && g y) (x ∷ l)
    go true e true i h = rw (e, i) (ap (x ∷◌) h)
    go true e false i h = rw (e, i) h
    go false e b i h = rw e h

-- EACH

-- a change by places that a map does not see
pub map_each : {A B : Type 0} (g : A → B) (k : ℕ → A → A) → ((i : ℕ) (x : A) → g (k i x) ≡ g x) → (i : ℕ) (l : List A) → map g (each k i l) ≡ map g l
map_each g k h i [] = refl
map_each g k h i (x ∷ l) = ap₂ ◌∷◌ (h i x) (map_each g k h (suc i) l)

-- a change by places, at a place
pub get_or-each : {A : Type 0} (k : ℕ → A → A) (i : ℕ) (l : List A) (g : ℕ) (d : A) → g < length l → get_or (each k i l) g d ≡ k (i + g) (get_or l g d)
get_or-each k i [] g d h = absurd (omega arith)
get_or-each k i (x ∷ l) zero d h = ap (λ n. k n x) (omega arith)
get_or-each k i (x ∷ l) (suc g) d h = get_or-each k (suc i) l g d (omega arith) ∙ ap (λ n. k n (get_or l g d)) (omega arith)

-- ENTRIES

-- all entries pass: each one does
pub all-each : {A : Type 0} (f : A → Bool) (l : List A) → all f l ≡ true → (x : A) → Memᴰ x l → f x ≡ true
all-each f [] h x m = elim m [ ]
all-each f (y ∷ ys) h x (Memᴰ.head e) = ap f e ∙ (both (f y) (all f ys) h).0
all-each f (y ∷ ys) h x (Memᴰ.tail m) = all-each f ys (both (f y) (all f ys) h).1 x m

-- each entry passes: all do
pub each_all : {A : Type 0} (f : A → Bool) (l : List A) → ((x : A) → Memᴰ x l → f x ≡ true) → all f l ≡ true
each_all f [] h = refl
each_all f (x ∷ l) h = join (h x (Memᴰ.head refl)) (each_all f l (λ y m. h y (Memᴰ.tail m)))

-- not all entries pass: there is one that does not
pub all_but : {A : Type 0} (f : A → Bool) (l : List A) → all f l ≡ false → (x : A) × Memᴰ x l × (f x ≡ false)
all_but f [] h = absurd (true≢false h)
all_but {A} f (x ∷ l) h = go (f x) refl (λ k. all_but f l k)
  where
    go : (b : Bool) → f x ≡ b → (all f l ≡ false → (y : A) × Memᴰ y l × (f y ≡ false)) → (y : A) × Memᴰ y (x ∷ l) × (f y ≡ false)
    go true e k = let (y, m, n) = k (rw e at h) in (y, Memᴰ.tail m, n)
    go false e k = (x, Memᴰ.head refl, e)

-- one entry does not pass: not all do
pub but_all : {A : Type 0} (f : A → Bool) (l : List A) (x : A) → Memᴰ x l → f x ≡ false → all f l ≡ false
but_all f l x m h = go (all f l) refl
  where
    go : (b : Bool) → all f l ≡ b → b ≡ false
    go true e = absurd (true≢false (sym (all-each f l e x m) ∙ h))
    go false e = refl

-- THE SMALLEST

-- the smallest of a list with one more number at its end
pub lowest_snoc : (l : List ℕ) (x : ℕ) → 0 < length l → lowest (l ++ (x ∷ [])) ≡ min (lowest l) x
unfolding lowest
lowest_snoc [] x h = absurd (omega arith)
lowest_snoc (y ∷ []) x h = refl
lowest_snoc (y ∷ z ∷ l) x h = omega (arith, lowest_snoc (z ∷ l) x (omega arith))

-- of a list's entries one has the smallest number
pub lowest-of : {A : Type 0} (f : A → ℕ) (l : List A) (d : A) → 0 < length l → (i : ℕ) × (i < length l) × (f (get_or l i d) ≡ lowest (map f l))
unfolding lowest
lowest-of f [] d h = absurd (omega arith)
lowest-of f (x ∷ []) d h = (0, omega arith, refl)
lowest-of f (x ∷ y ∷ l) d h = go (leb (f x) (lowest (map f (y ∷ l)))) refl (lowest-of f (y ∷ l) d (omega arith))
  where
    go : (b : Bool) → leb (f x) (lowest (map f (y ∷ l))) ≡ b → (i : ℕ) × (i < length (y ∷ l)) × (f (get_or (y ∷ l) i d) ≡ lowest (map f (y ∷ l)))
        → (i : ℕ) × (i < length (x ∷ y ∷ l)) × (f (get_or (x ∷ y ∷ l) i d) ≡ min (f x) (lowest (map f (y ∷ l))))
    go true e (i, h, n) = (0, omega arith, omega (arith, leb-true (f x) (lowest (map f (y ∷ l))) e))
    go false e (i, h, n) = (suc i, omega arith, omega (arith, leb-false (f x) (lowest (map f (y ∷ l))) e))

-- and none has a smaller one
pub lowest_under : {A : Type 0} (f : A → ℕ) (l : List A) (d : A) (i : ℕ) → i < length l → lowest (map f l) ≤ f (get_or l i d)
unfolding lowest
lowest_under f [] d i h = absurd (omega arith)
lowest_under f (x ∷ []) d zero h = omega arith
lowest_under f (x ∷ []) d (suc i) h = absurd (omega arith)
lowest_under f (x ∷ y ∷ l) d zero h = omega arith
lowest_under f (x ∷ y ∷ l) d (suc i) h = omega (arith, lowest_under f (y ∷ l) d i (omega arith))
