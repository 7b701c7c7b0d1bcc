-- How large the figures grow: each count at most the number of events, each wait at most the ceiling, so that the sum is two 64-bit numbers.
-- Assumes nothing.
use mathlib.Core.Path.{◌≡◌, refl, sym, subst}
use mathlib.Core.Bool.{Bool, true, false}
use mathlib.Core.List.{List, [], ◌∷◌}
use Prim.Native.Nat.{ℕ, suc, ◌+◌, ◌*◌, ◌^◌, ◌≤◌, ◌<◌}
use native.Mathlib.Omega.{arith}
use native.Mathlib.Nat.{lt_of_le_of_lt, mul-le-mul_left, mul-lt-mul_of_pos_right}
use lib.Dec.{eqb}
use lib.ListN.{length, length-set}
use Rattle.lists.specs.Words.{if◌then◌else◌}
use Rattle.rules.specs.Numbers.{ceiling}
use Rattle.rules.specs.Tables.{Table}
use Rattle.rules.specs.Events.{enter}
use Rattle.rules.specs.Refusals.{accepted}
use Rattle.rules.specs.Run.{step}
use Rattle.rules.specs.declared.Phase.{Phase}
use Rattle.rules.specs.declared.Phase.TheVariants.{Reservation, Weight}
use Rattle.rules.specs.declared.Event.{Event}
use Rattle.rules.specs.declared.Event.TheVariants.{Arrival, Completion, Tick}
use Rattle.rules.specs.declared.Answer.{Answer}
use Rattle.rules.specs.declared.Answer.TheVariants.{Nothing, Sent, Refused}
use Rattle.rules.proofs.EnterSound.{accepted-fits, enter_time}
use Rattle.book.specs.Book.{noted}
use Rattle.book.specs.Figures.{Figures, figures_at, change, arrived, completed as ended, sent_by, counted}
use Rattle.book.specs.Page.{Page, named, lies_ahead, waited, booked, turned, turned_by, first_page}
use Rattle.book.proofs.Turning.{unseen-at, changed-at, turned-refused}

-- figures after at most n events and m sends
pub record Small (n m : ℕ) (f : Figures) : Type 0 where
  pub arrivals : f.arrivals ≤ n
  pub completions : f.completions ≤ n
  pub reservation : f.reservation ≤ m
  pub weight : f.weight ≤ m
  pub ahead : f.ahead ≤ m
  pub longest : f.longest ≤ ceiling
  pub summed : f.summed ≤ m * ceiling

-- all guests' are such
abbrev SmallAll : (n m : ℕ) → List Figures → Type 0
SmallAll n m l = (g : ℕ) → g < length l → Small n m (figures_at l g)

-- as many of each are no more than more
small_more : (n m i j : ℕ) (f : Figures) → n ≤ i → m ≤ j → Small n m f → Small i j f
small_more n m i j f h k s =
    record {
      arrivals = omega (arith, s.arrivals);
      completions = omega (arith, s.completions);
      reservation = omega (arith, s.reservation);
      weight = omega (arith, s.weight);
      ahead = omega (arith, s.ahead);
      longest = s.longest;
      summed = omega (arith, s.summed);
    }

-- one guest's change
small_change : (n m i j : ℕ) → n ≤ i → m ≤ j → (h : ℕ) (c : Figures → Figures) → ((f : Figures) → Small n m f → Small i j (c f))
    → (l : List Figures) → SmallAll n m l → SmallAll i j (change h c l)
small_change n m i j a b h c k l s g z =
    let y : g < length l = rw (length-set l h (c (figures_at l h))) at z in
    subst (Small i j) (sym (changed-at h g c l y))
    (elim (eqb h g) as (λ b. Small i j (if b then c (figures_at l g) else figures_at l g))
    [ true ↦ k (figures_at l g) (s g y) | false ↦ small_more n m i j (figures_at l g) a b (s g y) ])

-- an event is counted
counted_small : (n m : ℕ) (e : Event) (l : List Figures) → SmallAll n m l → SmallAll (suc n) m (counted e l)
counted_small n m (Arrival a now) l s =
    small_change n m (suc n) m (omega arith) (omega arith) a.guest arrived (λ f k. record {
      arrivals = omega (arith, k.arrivals);
      completions = omega (arith, k.completions);
      reservation = k.reservation;
      weight = k.weight;
      ahead = k.ahead;
      longest = k.longest;
      summed = k.summed;
    }) l s
counted_small n m (Completion f now) l s =
    small_change n m (suc n) m (omega arith) (omega arith) f.guest ended (λ f k. record {
      arrivals = omega (arith, k.arrivals);
      completions = omega (arith, k.completions);
      reservation = k.reservation;
      weight = k.weight;
      ahead = k.ahead;
      longest = k.longest;
      summed = k.summed;
    }) l s
counted_small n m (Tick now) l s = λ g h. small_more n m (suc n) m (figures_at l g) (omega arith) (omega arith) (s g h)

-- a send that waited no longer than the ceiling
sent_small : (n m : ℕ) (ph : Phase) (b : Bool) (w : ℕ) (f : Figures) → w ≤ ceiling → Small n m f → Small n (suc m) (sent_by ph b w f)
sent_small n m Reservation b w f h s =
    record {
      arrivals = s.arrivals;
      completions = s.completions;
      reservation = omega (arith, s.reservation);
      weight = omega (arith, s.weight);
      ahead = elim b as (λ b. f.ahead + (if b then 1 else 0) ≤ suc m) [ true ↦ omega (arith, s.ahead) | false ↦ omega (arith, s.ahead) ];
      longest = omega (arith, s.longest);
      summed = omega (arith, s.summed);
    }
sent_small n m Weight b w f h s =
    record {
      arrivals = s.arrivals;
      completions = s.completions;
      reservation = omega (arith, s.reservation);
      weight = omega (arith, s.weight);
      ahead = omega (arith, s.ahead);
      longest = omega (arith, s.longest);
      summed = omega (arith, s.summed);
    }

-- an answer at a time that is not above the ceiling
booked_small : (n m : ℕ) (a : Answer) (e : Event) (u v : Table) (p : Page) → u.time ≤ ceiling → SmallAll n m p.figures → SmallAll (suc n) (suc m) (booked a e u v p).figures
unfolding booked
booked_small n m Nothing e u v p h s = λ g k. small_more (suc n) m (suc n) (suc m) (figures_at (counted e p.figures) g) (omega arith) (omega arith) (counted_small n m e p.figures s g k)
booked_small n m (Sent ph g i) e u v p h s =
    let w = waited u (named g i) (noted e p.book) in
    small_change (suc n) m (suc n) (suc m) (omega arith) (omega arith) g (sent_by ph (lies_ahead u (named g i)) w)
    (λ f k. sent_small (suc n) m ph (lies_ahead u (named g i)) w f (omega arith) k) (counted e p.figures) (counted_small n m e p.figures s)
booked_small n m (Refused r) e u v p h s = λ g k. small_more n m (suc n) (suc m) (figures_at p.figures g) (omega arith) (omega arith) (s g k)

-- an event
small_turned : (n : ℕ) (p : Page) (e : Event) → SmallAll n n p.figures → SmallAll (suc n) (suc n) (turned p e).figures
unfolding turned
small_turned n p e s = go (accepted p.table e) refl
  where
    go : (b : Bool) → accepted p.table e ≡ b → SmallAll (suc n) (suc n) (turned p e).figures
    go true h =
        booked_small n n (step p.table e).answer e (enter p.table e) (step p.table e).table p
        (omega (arith, enter_time p.table e, accepted-fits p.table e h)) s
    go false h =
        subst (λ (x : Page). SmallAll (suc n) (suc n) x.figures) (sym (turned-refused p e h))
        (λ g k. small_more n n (suc n) (suc n) (figures_at p.figures g) (omega arith) (omega arith) (s g k))

-- a run of events
small_run : (es : List Event) (n : ℕ) (p : Page) → SmallAll n n p.figures → SmallAll (n + length es) (n + length es) (turned_by p es).figures
unfolding turned_by
small_run [] n p s = λ g k. small_more n n (n + 0) (n + 0) (figures_at p.figures g) (omega arith) (omega arith) (s g k)
small_run (e ∷ es) n p s =
    let r = small_run es (suc n) (turned p e) (small_turned n p e s) in
    λ g k. small_more (suc n + length es) (suc n + length es) (n + length (e ∷ es)) (n + length (e ∷ es)) (figures_at (turned_by (turned p e) es).figures g) (omega arith) (omega arith) (r g k)

module _ (t : Table) (es : List Event) (g : ℕ) (h : g < length (turned_by (first_page t) es).figures) where
  -- After a run of events from any table each count is at most the number of events, each wait at most the ceiling.
  pub figures_small : Small (length es) (length es) (figures_at (turned_by (first_page t) es).figures g)
  figures_small =
      small_more (0 + length es) (0 + length es) (length es) (length es) (figures_at (turned_by (first_page t) es).figures g) (omega arith) (omega arith)
      (small_run es 0 (first_page t) nothing_yet g h)
    where
      nothing_yet : SmallAll 0 0 (first_page t).figures
      nothing_yet g k =
          subst (Small 0 0) (sym (unseen-at t.guests g))
          (record {
            arrivals = omega arith;
            completions = omega arith;
            reservation = omega arith;
            weight = omega arith;
            ahead = omega arith;
            longest = omega arith;
            summed = omega arith;
          })

  -- So the summed wait is at most that number times the ceiling,
  pub summed_most : (figures_at (turned_by (first_page t) es).figures g).summed ≤ length es * ceiling
  summed_most = figures_small.summed

  -- the longest wait is at most the ceiling,
  pub longest_most : (figures_at (turned_by (first_page t) es).figures g).longest ≤ ceiling
  longest_most = figures_small.longest

  -- and of fewer than 2^64 events the sum is two 64-bit numbers.
  pub summed_fits : length es < 2 ^ 64 → (figures_at (turned_by (first_page t) es).figures g).summed < 2 ^ 128
  summed_fits k =
      let c : ceiling ≤ 2 ^ 64 = omega arith in
      let z : 0 < 2 ^ 64 = omega arith in
      lt_of_le_of_lt summed_most (lt_of_le_of_lt (mul-le-mul_left (length es) c) (mul-lt-mul_of_pos_right k z))
