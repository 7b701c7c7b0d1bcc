-- The figures of waits are the sum and the largest of a guest's waits, one for each send, over any run. Assumes nothing.
use mathlib.Core.Path.{◌≡◌, refl, sym, subst}
use mathlib.Core.Bool.{Bool, true, false}
use mathlib.Core.List.{List, [], ◌∷◌, ◌++◌}
use Prim.Native.Nat.{ℕ, zero, suc, ◌+◌, ◌≤◌, ◌<◌, max}
use native.Mathlib.Omega.{arith}
use lib.Dec.{leb, eqb}
use lib.ListN.{length, get_or, length-append, length-map}
use borrow.Author.Tests.{leb-true, leb-false}
use Rattle.lists.specs.Words.{if◌then◌else◌}
use Rattle.rules.specs.Tables.{Table}
use Rattle.rules.specs.Events.{enter}
use Rattle.rules.specs.Run.{step}
use Rattle.rules.specs.declared.Phase.{Phase}
use Rattle.rules.specs.declared.Phase.TheVariants.{Reservation, Weight}
use Rattle.rules.specs.declared.Event.{Event}
use Rattle.rules.specs.declared.Event.TheVariants.{Arrival, Completion, Tick}
use Rattle.rules.specs.declared.Answer.{Answer}
use Rattle.rules.specs.declared.Answer.TheVariants.{Nothing, Sent, Refused}
use Rattle.book.specs.Book.{noted}
use Rattle.book.specs.Figures.{Figures, unseen, figures_at, change, arrived, completed as ended, sent_by, counted}
use Rattle.book.specs.Page.{Page, named, lies_ahead, waited, booked, turned, turned_by, first_page}
use Rattle.book.specs.Waits.{wait_in, waits_by, sum, largest}
use Rattle.book.specs.Balance.{sends}
use Rattle.book.proofs.Turning.{unseen-at, changed-at, counted_long, booked_long}

-- LISTS OF NUMBERS

-- the sum of two lists, one behind the other
sum-append : (a b : List ℕ) → sum (a ++ b) ≡ sum a + sum b
sum-append [] b = omega arith
sum-append (n ∷ a) b = omega (arith, sum-append a b)

-- the largest of two lists, one behind the other
largest-append : (a b : List ℕ) → largest (a ++ b) ≡ max (largest a) (largest b)
largest-append [] b = omega arith
largest-append (n ∷ a) b = omega (arith, largest-append a b)

-- No number of a list is above its largest,
pub largest_most : (l : List ℕ) (j : ℕ) → j < length l → get_or l j 0 ≤ largest l
largest_most [] j h = absurd (omega arith)
largest_most (n ∷ l) zero h = omega arith
largest_most (n ∷ l) (suc j) h = omega (arith, largest_most l j (omega arith))

-- which is one of them, where there is one.
pub largest-there : (l : List ℕ) → 0 < length l → (j : ℕ) × (j < length l) × (get_or l j 0 ≡ largest l)
largest-there [] h = absurd (omega arith)
largest-there (n ∷ []) h = (0, omega arith, omega arith)
largest-there (n ∷ m ∷ l) h = go (leb n (largest (m ∷ l))) refl (largest-there (m ∷ l) (omega arith))
  where
    go : (b : Bool) → leb n (largest (m ∷ l)) ≡ b → (j : ℕ) × (j < length (m ∷ l)) × (get_or (m ∷ l) j 0 ≡ largest (m ∷ l))
        → (j : ℕ) × (j < length (n ∷ m ∷ l)) × (get_or (n ∷ m ∷ l) j 0 ≡ max n (largest (m ∷ l)))
    go true e (j, k, q) = (suc j, omega arith, omega (arith, leb-true n (largest (m ∷ l)) e))
    go false e (j, k, q) = (0, omega arith, omega (arith, leb-false n (largest (m ∷ l)) e))

-- THE FIGURES

-- the figures k are f with these waits besides
pub record Waits (f k : Figures) (ws : List ℕ) : Type 0 where
  pub summed : k.summed ≡ f.summed + sum ws
  pub longest : k.longest ≡ max f.longest (largest ws)
  pub count : sends k ≡ sends f + length ws

-- none besides
no_waits : (f : Figures) → Waits f f []
no_waits f = record { summed = omega arith; longest = omega arith; count = omega arith }

-- some, and then others
more-waits : (f k l : Figures) (a b : List ℕ) → Waits f k a → Waits k l b → Waits f l (a ++ b)
more-waits f k l a b x y =
    record {
      summed = omega (arith, x.summed, y.summed, sum-append a b);
      longest = omega (arith, x.longest, y.longest, largest-append a b);
      count = omega (arith, x.count, y.count, length-append a b);
    }

-- an event that is counted ends no wait
counted-waits : (e : Event) (l : List Figures) (g : ℕ) → g < length l → Waits (figures_at l g) (figures_at (counted e l) g) []
counted-waits (Arrival a now) l g h =
    let f = figures_at l g in
    subst (λ (k : Figures). Waits f k []) (sym (changed-at a.guest g arrived l h))
    (elim (eqb a.guest g) as (λ b. Waits f (if b then arrived f else f) [])
    [ true ↦ record { summed = omega arith; longest = omega arith; count = omega arith } | false ↦ no_waits f ])
counted-waits (Completion x now) l g h =
    let f = figures_at l g in
    subst (λ (k : Figures). Waits f k []) (sym (changed-at x.guest g ended l h))
    (elim (eqb x.guest g) as (λ b. Waits f (if b then ended f else f) [])
    [ true ↦ record { summed = omega arith; longest = omega arith; count = omega arith } | false ↦ no_waits f ])
counted-waits (Tick now) l g h = no_waits (figures_at l g)

-- a send ends one
sent_waits : (ph : Phase) (b : Bool) (w : ℕ) (f : Figures) → Waits f (sent_by ph b w f) (w ∷ [])
sent_waits Reservation b w f = record { summed = omega arith; longest = omega arith; count = omega arith }
sent_waits Weight b w f = record { summed = omega arith; longest = omega arith; count = omega arith }

-- an answer ends the wait that it says
booked-waits : (a : Answer) (e : Event) (u v : Table) (p : Page) (g : ℕ) → g < length p.figures
    → Waits (figures_at p.figures g) (figures_at (booked a e u v p).figures g) (wait_in g a e u p)
unfolding booked
booked-waits Nothing e u v p g h = counted-waits e p.figures g h
booked-waits (Sent ph x i) e u v p g h =
    let l = counted e p.figures in
    let f = figures_at l g in
    let w = waited u (named x i) (noted e p.book) in
    let c = sent_by ph (lies_ahead u (named x i)) w in
    more-waits (figures_at p.figures g) f (figures_at (change x c l) g) [] (if eqb x g then w ∷ [] else []) (counted-waits e p.figures g h)
    (subst (λ (k : Figures). Waits f k (if eqb x g then w ∷ [] else [])) (sym (changed-at x g c l (rw (counted_long e p.figures) h)))
    (elim (eqb x g) as (λ b. Waits f (if b then c f else f) (if b then w ∷ [] else [])) [ true ↦ sent_waits ph (lies_ahead u (named x i)) w f | false ↦ no_waits f ]))
booked-waits (Refused r) e u v p g h = no_waits (figures_at p.figures g)

-- Over any run the figures grow by the waits of the run: their sum, the largest of them, and how many they are.
pub run-waits : (es : List Event) (p : Page) (g : ℕ) → g < length p.figures
    → Waits (figures_at p.figures g) (figures_at (turned_by p es).figures g) (waits_by g p es)
unfolding turned turned_by waits_by
run-waits [] p g h = no_waits (figures_at p.figures g)
run-waits (e ∷ es) p g h =
    let a = (step p.table e).answer in
    let u = enter p.table e in
    let v = (step p.table e).table in
    more-waits (figures_at p.figures g) (figures_at (turned p e).figures g) (figures_at (turned_by (turned p e) es).figures g) (wait_in g a e u p) (waits_by g (turned p e) es)
    (booked-waits a e u v p g h)
    (run-waits es (turned p e) g (rw (booked_long a e u v p) h))

-- the figures k of waits are those of the waits ws
pub record WaitsAre (k : Figures) (ws : List ℕ) : Type 0 where
  pub summed : k.summed ≡ sum ws
  pub longest : k.longest ≡ largest ws
  pub count : sends k ≡ length ws

-- From any table: the summed wait of a guest is the sum of its waits, the longest is the largest of them, 0 where it has none, and it has one for each send.
pub first-waits : (t : Table) (es : List Event) (g : ℕ) → g < length t.guests
    → WaitsAre (figures_at (turned_by (first_page t) es).figures g) (waits_by g (first_page t) es)
first-waits t es g h =
    let ws = waits_by g (first_page t) es in
    let k = figures_at (turned_by (first_page t) es).figures g in
    let w : Waits unseen k ws = rw (unseen-at t.guests g) at (run-waits es (first_page t) g (rw (length-map t.guests (λ h. unseen)) h)) in
    record { summed = omega (arith, w.summed); longest = omega (arith, w.longest); count = omega (arith, w.count) }
