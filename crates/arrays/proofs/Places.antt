-- The phases that the functions leave are those of the definitions: what is noted, closed up and cleared, over what was lent. Assumes nothing.
use Prim.Native.Nat.{ℕ, zero, suc, ◌+◌, ◌-◌, ◌≤◌, ◌<◌}
use mathlib.Core.Path.{◌≡◌, refl, sym, ap, ◌∙◌}
use mathlib.Core.Bool.{true, false}
use mathlib.Core.List.{List, [], ◌∷◌, ◌++◌}
use mathlib.Core.Logic.{⊎_elim}
use native.Mathlib.Omega.{arith}
use lib.Dec.{ltb, leb, eqb}
use lib.ListN.{length, get_or, set, drop, replicate, length-set, length-append, get_or-eq_default, get_or-append}
use Rattle.std.proofs.Common.{length-drop, get_or-drop, get_or-append-add}
use Rattle.std.proofs.lemmas.List.{length-replicate, get_or-replicate}
use lib.Seq.{get_or-set_same, get_or-set_other, get_or-append_seam}
use borrow.Author.Tests.{lt-ltb, le-ltb, leb-true, eqb-true}
use Rattle.lists.specs.Words.{below}
use Rattle.lists.specs.WordsLaws.{both, below_at}
use Rattle.lists.specs.Lines.{whether}
use Rattle.lists.specs.RowsLaws.{length-rows, row-at}
use Rattle.lists.specs.Stores.{stores, length-stores, stores_other, stores_at}
use Rattle.lists.specs.Parts.{zeros}
use Rattle.lists.specs.Tab.{length-tab, get_or-tab, is_tab, lt_or_le, remove_at, length-remove_at, get_or-remove_at-below, get_or-remove_at_from}
use Rattle.rules.specs.Tables.{same}
use Rattle.rules.specs.declared.Flight.{Flight}
use Rattle.rules.specs.declared.Phase.{Phase}
use Rattle.rules.specs.declared.Answer.{Answer}
use Rattle.rules.specs.declared.Answer.TheVariants.{Nothing, Sent, Refused}
use Rattle.table.specs.View.{flight_form, flights_of, nameless}
use Rattle.arrays.specs.Phases.{phase_number, good_phase, in_step, phases_of, place_of, joined, phases_over}
use Rattle.arrays.specs.Steps.{name_at, closed, noted, Placed}

-- WHERE A REQUEST STANDS

-- at the first place that has its name
pub place_found : (f : Flight) (l : List Flight) (i : ℕ) → i < length l → same f (get_or l i nameless) ≡ true → ((j : ℕ) → j < i → same f (get_or l j nameless) ≡ false) → place_of f l ≡ i
unfolding place_of
place_found f [] i h e n = absurd (omega arith)
place_found f (x ∷ l) zero h e n = rw e refl
place_found f (x ∷ l) (suc i) h e n = rw (n 0 (omega arith)) (ap suc (place_found f l i (omega arith) e (λ j k. n (suc j) (omega arith))))

-- behind the last where none has it
pub place_none : (f : Flight) (l : List Flight) → ((j : ℕ) → j < length l → same f (get_or l j nameless) ≡ false) → place_of f l ≡ length l
unfolding place_of
place_none f [] n = refl
place_none f (x ∷ l) n = rw (n 0 (omega arith)) (ap suc (place_none f l (λ j k. n (suc j) (omega arith))))

-- in a lent flight table of n requests
module _ (fs : List ℕ) (n : ℕ) (f : Flight) where
  name-at : (j : ℕ) → j < n → get_or (flights_of fs n) j nameless ≡ name_at fs j
  name-at j l = row-at flight_form fs n j l

  pub place_at_lem : (i : ℕ) → i < n → same f (name_at fs i) ≡ true → ((j : ℕ) → j < i → same f (name_at fs j) ≡ false) → i ≡ place_of f (flights_of fs n)
  place_at_lem i l e h =
      sym
      (place_found f (flights_of fs n) i (omega (arith, length-rows flight_form fs n, l)) (ap (same f) (name-at i l) ∙ e)
      (λ j k. ap (same f) (name-at j (omega (arith, k, l))) ∙ h j k))

  pub place_past : ((j : ℕ) → j < n → same f (name_at fs j) ≡ false) → n ≡ place_of f (flights_of fs n)
  place_past h =
      sym
      (place_none f (flights_of fs n) (λ j k. let l : j < n = omega (arith, length-rows flight_form fs n, k) in ap (same f) (name-at j l) ∙ h j l)
      ∙ length-rows flight_form fs n)

-- WRITTEN OVER

-- a list that has l from the front, zeros up to d places, and then what stood there
pub over_is : (d : ℕ) (l ps ws : List ℕ) → length ws ≡ length ps → ((k : ℕ) → k < length ps → k < d → get_or l k 0 ≡ get_or ws k 0) → ((k : ℕ) → k < length ps → d ≤ k → get_or ps k 0 ≡ get_or ws k 0) → phases_over d l ps ≡ ws
unfolding phases_over
over_is d l ps ws e h r =
    is_tab 0 (length ps) (λ i. whether (ltb i d) (get_or l i 0) (get_or ps i 0)) ws e
    (λ k m. ⊎_elim (λ b. rw (lt-ltb k d b) (h k m b)) (λ b. rw (le-ltb k d b) (r k m b)) (lt_or_le k d))

-- what stands where in it
pub over-at : (d : ℕ) (l ps : List ℕ) (k : ℕ) → k < length ps → k < d → get_or (phases_over d l ps) k 0 ≡ get_or l k 0
unfolding phases_over
over-at d l ps k m b = get_or-tab (length ps) (λ i. whether (ltb i d) (get_or l i 0) (get_or ps i 0)) k 0 m ∙ rw (lt-ltb k d b) refl

pub over_past : (d : ℕ) (l ps : List ℕ) (k : ℕ) → k < length ps → d ≤ k → get_or (phases_over d l ps) k 0 ≡ get_or ps k 0
unfolding phases_over
over_past d l ps k m b = get_or-tab (length ps) (λ i. whether (ltb i d) (get_or l i 0) (get_or ps i 0)) k 0 m ∙ rw (le-ltb k d b) refl

pub length_over : (d : ℕ) (l ps : List ℕ) → length (phases_over d l ps) ≡ length ps
unfolding phases_over
length_over d l ps = length-tab (length ps) (λ i. whether (ltb i d) (get_or l i 0) (get_or ps i 0))

-- zeros
pub cleared_is : (d : ℕ) (ps : List ℕ) → zeros ps d ≡ phases_over d [] ps
cleared_is d ps =
    sym
    (over_is d [] ps (zeros ps d) (length-stores (λ k. k) (λ k. 0) ps d)
    (λ k m b. sym (stores_at (λ k. k) (λ k. 0) ps (λ i j h f. omega arith) d k b m))
    (λ k m b. sym (stores_other (λ k. k) (λ k. 0) ps d k (λ j h f. omega arith))))

-- zeros in place of the first d
pub filled_is : (d : ℕ) (ps : List ℕ) → d ≤ length ps → replicate d 0 ++ drop d ps ≡ phases_over d [] ps
filled_is d ps h =
    let front : List ℕ = replicate d 0 in
    let long : length front ≡ d = length-replicate d 0 in
    sym
    (over_is d [] ps (front ++ drop d ps) (omega (arith, length-append front (drop d ps), length-drop d ps, long, h))
    (λ k m b. sym (get_or-append front (drop d ps) 0 k (omega (arith, long, b)) ∙ get_or-replicate d k 0 0 b))
    (λ k m b.
    let e : k ≡ length front + (k - d) = omega (arith, long, b) in
    let f : d + (k - d) ≡ k = omega (arith, b) in
    ap (λ j. get_or ps j 0) (sym f) ∙ sym (get_or-drop d ps (k - d) 0) ∙ sym (get_or-append-add front (drop d ps) (k - d) 0) ∙ ap (λ j. get_or (front ++ drop d ps) j 0) (sym e)))

-- one more at the end
pub put_is : (d p : ℕ) (l ps ws : List ℕ) → ws ≡ phases_over d l ps → d ≤ length ps → length l < d → set ws (length l) p ≡ phases_over d (l ++ (p ∷ [])) ps
put_is d p l ps ws e room free = sym (over_is d (l ++ (p ∷ [])) ps (set ws (length l) p) (length-set ws (length l) p ∙ same_length) front rest)
  where
    same_length : length ws ≡ length ps
    same_length = ap length e ∙ length_over d l ps

    inside : (k : ℕ) → k < length ps → k < d → get_or ws k 0 ≡ get_or l k 0
    inside k m b = ap (λ (v : List ℕ). get_or v k 0) e ∙ over-at d l ps k m b

    -- in front of the new one, at it, and behind it
    before : (k : ℕ) → k < length ps → k < d → k < length l → get_or (l ++ (p ∷ [])) k 0 ≡ get_or (set ws (length l) p) k 0
    before k m b c = get_or-append l (p ∷ []) 0 k c ∙ sym (get_or-set_other ws (length l) k p 0 (λ q. omega (arith, c, q)) ∙ inside k m b)

    here : (k : ℕ) → k < length ps → k ≡ length l → get_or (l ++ (p ∷ [])) k 0 ≡ get_or (set ws (length l) p) k 0
    here k m q =
        ap (λ (j : ℕ). get_or (l ++ (p ∷ [])) j 0) q ∙ get_or-append_seam l p [] 0
        ∙ sym (ap (λ (j : ℕ). get_or (set ws (length l) p) j 0) q ∙ get_or-set_same ws (length l) p 0 (omega (arith, m, q, same_length)))

    behind : (k : ℕ) → k < length ps → k < d → length l < k → get_or (l ++ (p ∷ [])) k 0 ≡ get_or (set ws (length l) p) k 0
    behind k m b c =
        get_or-eq_default (l ++ (p ∷ [])) 0 (rw length-append (omega (arith, c)))
        ∙ sym (get_or-set_other ws (length l) k p 0 (λ q. omega (arith, c, q)) ∙ inside k m b ∙ get_or-eq_default l 0 (omega (arith, c)))

    front : (k : ℕ) → k < length ps → k < d → get_or (l ++ (p ∷ [])) k 0 ≡ get_or (set ws (length l) p) k 0
    front k m b =
        ⊎_elim (before k m b)
        (λ c. ⊎_elim (λ e. here k m (omega (arith, c, e))) (λ e. behind k m b (omega (arith, e))) (lt_or_le k (suc (length l))))
        (lt_or_le k (length l))

    rest : (k : ℕ) → k < length ps → d ≤ k → get_or ps k 0 ≡ get_or (set ws (length l) p) k 0
    rest k m b = sym (get_or-set_other ws (length l) k p 0 (λ q. omega (arith, b, q, free)) ∙ ap (λ (v : List ℕ). get_or v k 0) e ∙ over_past d l ps k m b)

-- ONE STORE where something is sent

-- none, where an answer sends nothing
pub note_none : (a : Answer) (i : ℕ) (ps : List ℕ) → ((p : Phase) (g d : ℕ) → a ≡ Sent p g d → ⊥) → ps ≡ noted a i ps
note_none Nothing i ps n = refl
note_none (Sent p g d) i ps n = absurd (n p g d refl)
note_none (Refused r) i ps n = refl

-- one, where it does
pub note_sent : (a : Answer) (p : Phase) (g d n i : ℕ) (ps : List ℕ) → a ≡ Sent p g d → n ≡ phase_number p → set ps i n ≡ noted a i ps
note_sent a p g d n i ps e h = rw e (ap (set ps i) h)

-- and there is room for it
pub placed_sent : (a : Answer) (p : Phase) (g d i : ℕ) (ps : List ℕ) → a ≡ Sent p g d → Placed a i ps → i < length ps
placed_sent a p g d i ps e h = rw e at h

-- there is room where there is for what is sent
pub placed_by : (a : Answer) (i : ℕ) (ps : List ℕ) → ((p : Phase) (g d : ℕ) → a ≡ Sent p g d → i < length ps) → Placed a i ps
placed_by Nothing i ps h = tt
placed_by (Sent p g d) i ps h = h p g d refl
placed_by (Refused r) i ps h = tt

-- what an answer sends stands last
pub noted-over : (d : ℕ) (l ps ws : List ℕ) (i : ℕ) → ws ≡ phases_over d l ps → d ≤ length ps → length l ≡ i → (a : Answer) → ((p : Phase) (g j : ℕ) → a ≡ Sent p g j → i < d)
    → noted a i ws ≡ phases_over d (joined a l) ps
noted-over d l ps ws i e room long Nothing f = e
noted-over d l ps ws i e room long (Sent p g j) f = rw (sym long) (put_is d (phase_number p) l ps ws e room (omega (arith, long, f p g j refl)))
noted-over d l ps ws i e room long (Refused r) f = e

-- PHASES IN STEP with a flight table of d places in which n requests fly

module _ (n d : ℕ) (ps : List ℕ) (step : in_step n d ps ≡ true) (room : d ≤ length ps) where
  parts : (leb n d ≡ true) × (below d (λ i. good_phase (ltb i n) (get_or ps i 0)) ≡ true)
  unfolding in_step
  parts = both (leb n d) (below d (λ i. good_phase (ltb i n) (get_or ps i 0))) step

  -- not more fly than there are places
  pub flies_most : n ≤ d
  flies_most = leb-true n d parts.0

  -- behind the last stand zeros
  pub zero_behind : (k : ℕ) → k < d → n ≤ k → get_or ps k 0 ≡ 0
  zero_behind k l m =
      let g : good_phase (ltb k n) (get_or ps k 0) ≡ true = below_at d (λ i. good_phase (ltb i n) (get_or ps i 0)) parts.1 k l in
      let z : eqb (get_or ps k 0) 0 ≡ true = rw (le-ltb k n m) at g in
      eqb-true (get_or ps k 0) 0 z

  length_phases : length (phases_of ps n) ≡ n
  length_phases = length-tab n (λ i. get_or ps i 0)

  phase_of : (k : ℕ) → k < n → get_or (phases_of ps n) k 0 ≡ get_or ps k 0
  phase_of k l = get_or-tab n (λ i. get_or ps i 0) k 0 l

  -- they are what they say
  pub step-over : ps ≡ phases_over d (phases_of ps n) ps
  step-over =
      sym
      (over_is d (phases_of ps n) ps ps refl
      (λ k m b. ⊎_elim (phase_of k) (λ c. get_or-eq_default (phases_of ps n) 0 (omega (arith, length_phases, c)) ∙ sym (zero_behind k b c)) (lt_or_le k n))
      (λ k m b. refl))

  -- what is sent is noted behind those that fly
  pub noted_is : (a : Answer) → ((p : Phase) (g j : ℕ) → a ≡ Sent p g j → n < d) → noted a n ps ≡ phases_over d (joined a (phases_of ps n)) ps
  noted_is a f = noted-over d (phases_of ps n) ps ps n step-over room length_phases a f

  module _ (place : ℕ) (flies : place < n) where
    abbrev moves : ℕ → List ℕ → List ℕ
    moves k xs = stores (λ k. place + k) (λ k. get_or ps (place + k + 1) 0) k xs

    abbrev left : List ℕ
    left = remove_at place (phases_of ps n)

    length-left : length left ≡ n - 1
    length-left = length-remove_at place (phases_of ps n) (omega (arith, length_phases, flies)) ∙ ap (λ (k : ℕ). k - 1) length_phases

    length-moves : (k : ℕ) → length (moves k ps) ≡ length ps
    length-moves k = length-stores (λ k. place + k) (λ k. get_or ps (place + k + 1) 0) ps k

    -- what is left at each place
    left_at : (k : ℕ) → k < n - 1 → get_or left k 0 ≡ get_or (moves (n - 1 - place) ps) k 0
    left_at k l = ⊎_elim before behind (lt_or_le k place)
      where
        before : k < place → get_or left k 0 ≡ get_or (moves (n - 1 - place) ps) k 0
        before c =
            get_or-remove_at-below place (phases_of ps n) k 0 c ∙ phase_of k (omega (arith, c, flies))
            ∙ sym (stores_other (λ k. place + k) (λ k. get_or ps (place + k + 1) 0) ps (n - 1 - place) k (λ j h e. omega (arith, c, e)))

        behind : place ≤ k → get_or left k 0 ≡ get_or (moves (n - 1 - place) ps) k 0
        behind c =
            let q : k ≡ place + (k - place) = omega (arith, c) in
            get_or-remove_at_from place (phases_of ps n) k 0 c ∙ phase_of (suc k) (omega (arith, l))
            ∙ ap (λ (j : ℕ). get_or ps j 0) (omega (arith, q))
            ∙ sym
            (ap (λ (j : ℕ). get_or (moves (n - 1 - place) ps) j 0) q
            ∙ stores_at (λ k. place + k) (λ k. get_or ps (place + k + 1) 0) ps (λ i j h e. omega (arith, h, e)) (n - 1 - place) (k - place) (omega (arith, l, c)) (omega (arith, l, c, room, flies_most)))

    -- one leaves
    pub closed_is : closed n place ps ≡ phases_over d (remove_at place (phases_of ps n)) ps
    closed_is = sym (over_is d left ps (closed n place ps) (length-set (moves (n - 1 - place) ps) (n - 1) 0 ∙ length-moves (n - 1 - place)) front rest)
      where
        other : (k : ℕ) → (k ≡ n - 1 → ⊥) → get_or (closed n place ps) k 0 ≡ get_or (moves (n - 1 - place) ps) k 0
        other k q = get_or-set_other (moves (n - 1 - place) ps) (n - 1) k 0 0 q

        past : (k : ℕ) → n ≤ k → get_or (closed n place ps) k 0 ≡ get_or ps k 0
        past k c =
            other k (λ q. omega (arith, q, c, flies))
            ∙ stores_other (λ k. place + k) (λ k. get_or ps (place + k + 1) 0) ps (n - 1 - place) k (λ j h e. omega (arith, h, e, c, flies))

        last : (k : ℕ) → k < length ps → k ≡ n - 1 → get_or left k 0 ≡ get_or (closed n place ps) k 0
        last k m q =
            get_or-eq_default left 0 (omega (arith, length-left, q))
            ∙ sym (ap (λ (j : ℕ). get_or (closed n place ps) j 0) q ∙ get_or-set_same (moves (n - 1 - place) ps) (n - 1) 0 0 (omega (arith, length-moves (n - 1 - place), m, q)))

        gone : (k : ℕ) → k < d → n ≤ k → get_or left k 0 ≡ get_or (closed n place ps) k 0
        gone k b c = get_or-eq_default left 0 (omega (arith, length-left, c)) ∙ sym (past k c ∙ zero_behind k b c)

        front : (k : ℕ) → k < length ps → k < d → get_or left k 0 ≡ get_or (closed n place ps) k 0
        front k m b =
            ⊎_elim (λ c. left_at k c ∙ sym (other k (λ q. omega (arith, q, c))))
            (λ c. ⊎_elim (λ f. last k m (omega (arith, c, f, flies))) (gone k b) (lt_or_le k n))
            (lt_or_le k (n - 1))

        rest : (k : ℕ) → k < length ps → d ≤ k → get_or ps k 0 ≡ get_or (closed n place ps) k 0
        rest k m b = sym (past k (omega (arith, b, flies_most)))

    -- and what is sent is noted behind those that stay
    pub noted-closed : (a : Answer) → noted a (n - 1) (closed n place ps) ≡ phases_over d (joined a (remove_at place (phases_of ps n))) ps
    noted-closed a = noted-over d left ps (closed n place ps) (n - 1) closed_is room length-left a (λ p g j e. omega (arith, flies, flies_most))

    pub length-closed : length (closed n place ps) ≡ length ps
    length-closed = length-set (moves (n - 1 - place) ps) (n - 1) 0 ∙ length-moves (n - 1 - place)
