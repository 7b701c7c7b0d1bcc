-- What becomes of the waiting requests' names and limit tags: an arrival adds one at the end, a send takes one out at its place, and nothing else changes
-- them. So a book that follows the names has each request at its place. Assumes nothing.
use mathlib.Core.Path.{◌≡◌, refl, sym, ap, subst, ◌∙◌}
use mathlib.Core.Bool.{Bool, true, false, not, ◌&&◌, true≢false}
use mathlib.Core.List.{List, [], ◌∷◌, ◌++◌, map, append-nil}
use Prim.Native.Nat.{ℕ, zero, suc, ◌+◌, ◌<◌}
use native.Mathlib.Omega.{arith}
use lib.Dec.{ltb, eqb}
use lib.ListN.{length, get_or, length-map, get_or-map}
use lib.Seq.{get_or_at}
use borrow.Author.Tests.{ltb-true, eqb-true, eq-eqb, le-ltb, not-true}
use Rattle.lists.specs.Words.{if◌then◌else◌, all}
use Rattle.lists.specs.WordsLaws.{both, join, all_parts, all-at, all-passing-at, map-append, map_same, without_at}
use Rattle.lists.specs.Tab.{remove_at, length-remove_at}
use Rattle.lists.specs.RowsLaws.{map-remove_at}
use Rattle.rules.specs.Tables.{Request, Table, limited, owner, settings_of, of, mine, idle, name, same, lacks}
use Rattle.rules.specs.Sound.{distinct, kept}
use Rattle.rules.specs.Choice.{Result, sending, earlier, drop_of, dropped, choice}
use Rattle.rules.specs.Chosen.{blank, at, Chosen, full, reservation, weight, nothing}
use Rattle.rules.specs.Events.{called_by, smallest, shifted, adjusted, stamped, stamped_for, placed, arrive_as, arrive, complete, wait, enter}
use Rattle.rules.specs.Arrived.{last_of}
use Rattle.rules.specs.Answers.{taken}
use Rattle.rules.specs.declared.Flight.{Flight}
use Rattle.rules.specs.declared.Arriving.{Arriving}
use Rattle.rules.specs.declared.Event.{Event}
use Rattle.rules.specs.declared.Event.TheVariants.{Arrival, Completion, Tick}
use Rattle.rules.specs.declared.Phase.{Phase}
use Rattle.rules.specs.declared.Phase.TheVariants.{Reservation, Weight}
use Rattle.rules.specs.declared.Refusal.{Refusal}
use Rattle.rules.specs.declared.Answer.TheVariants.{Nothing, Sent, Refused}
use Rattle.rules.proofs.Facts.{Sound, orderly_is, any_orderly, waiting-known}
use Rattle.rules.proofs.Conditions.{same_is, is_same}
use Rattle.rules.proofs.Chosen.{chosen}
use Rattle.rules.proofs.Answered.{unrefused, nothing_sent}
use Rattle.rules.proofs.ArriveSound.{adjusted-length}
use Rattle.book.specs.Stubs.{Stub, stub}
use Rattle.book.specs.Book.{Entry, called, noted, struck, accepted_at}
use Rattle.book.specs.Page.{named, ltag_of, lies_ahead}

-- NAMES

-- names that differ have not the same guest and id
pub is_other : (a b : Flight) → (a ≡ b → ⊥) → same a b ≡ false
is_other a b n = go (same a b) refl
  where
    go : (c : Bool) → same a b ≡ c → c ≡ false
    go true e = absurd (n (same_is a b e))
    go false e = refl

-- each name of a first part stands once
distinct-left : (a b : List Flight) → distinct (a ++ b) ≡ true → distinct a ≡ true
unfolding distinct
distinct-left [] b h = refl
distinct-left (x ∷ a) b h =
    let c = both (lacks x (a ++ b)) (distinct (a ++ b)) h in
    join (all_parts (λ y. not (same x y)) a b c.0).0 (distinct-left a b c.1)

-- a list lacks the name at none of its places
lacks_not : (x : Flight) (l : List Flight) (d : Flight) → lacks x l ≡ true → (j : ℕ) → j < length l → x ≡ get_or l j d → ⊥
lacks_not x l d h j k e =
    let n : not (same x (get_or l j d)) ≡ true = all-at (λ y. not (same x y)) l d h j k in
    true≢false (sym (is_same x (get_or l j d) e) ∙ not-true (same x (get_or l j d)) n)

-- where each name stands once, two places with one name are the same
one_place : (l : List Flight) (d : Flight) → distinct l ≡ true → (i j : ℕ) → i < length l → j < length l → get_or l i d ≡ get_or l j d → i ≡ j
unfolding distinct
one_place [] d h i j a b e = absurd (omega arith)
one_place (x ∷ l) d h zero zero a b e = refl
one_place (x ∷ l) d h zero (suc j) a b e = absurd (lacks_not x l d (both (lacks x l) (distinct l) h).0 j (omega arith) e)
one_place (x ∷ l) d h (suc i) zero a b e = absurd (lacks_not x l d (both (lacks x l) (distinct l) h).0 i (omega arith) (sym e))
one_place (x ∷ l) d h (suc i) (suc j) a b e = ap suc (one_place l d (both (lacks x l) (distinct l) h).1 i j (omega arith) (omega arith) e)

-- in a sound table a name waits at one place
pub one-waits : (u : Table) → Sound u → (i j : ℕ) → i < length u.waiting → j < length u.waiting → name (at u.waiting i) ≡ name (at u.waiting j) → i ≡ j
one-waits u s i j a b e =
    one_place (map name u.waiting) (name blank) (distinct-left (map name u.waiting) u.flight s.names_once) i j
    (rw (length-map u.waiting name) a) (rw (length-map u.waiting name) b)
    (get_or-map name u.waiting i blank ∙ e ∙ sym (get_or-map name u.waiting j blank))

-- THE CHOICE

-- the request named f is sent from the table u, which becomes v: where it stood, and what becomes of the others
pub record SentFrom (u : Table) (f : Flight) (v : Table) : Type 0 where
  pub place : ℕ
  pub inside : place < length u.waiting
  -- it has the name, and no other place has
  pub named : name (at u.waiting place) ≡ f
  pub only : (j : ℕ) → j < length u.waiting → name (at u.waiting j) ≡ f → j ≡ place
  -- its guest exists
  pub known : f.guest < length u.guests
  -- the others keep their names and limit tags, and close up
  pub stubs : map stub v.waiting ≡ remove_at place (map stub u.waiting)
  pub shorter : length v.waiting + 1 ≡ length u.waiting

-- a drop of reservation tags leaves the stubs
dropped_stubs : (p : Request) (u : Table) → map stub (dropped p u).waiting ≡ map stub u.waiting
unfolding dropped earlier
dropped_stubs p u =
    map_same stub (λ q. if of p.guest q then earlier (drop_of u p) q else q)
    (λ q. elim (of p.guest q) as (λ b. stub (if b then earlier (drop_of u p) q else q) ≡ stub q) [ true ↦ refl | false ↦ refl ]) u.waiting

-- a table that has the stubs of u but for place i: the request there went
sent_at_lem : (u : Table) → Sound u → (i : ℕ) → i < length u.waiting → (v : Table) → map stub v.waiting ≡ remove_at i (map stub u.waiting)
    → SentFrom u (name (at u.waiting i)) v
sent_at_lem u s i h v e =
    record {
      place = i;
      inside = h;
      named = refl;
      only = λ j k n. one-waits u s j i k h n;
      known = ltb-true (at u.waiting i).guest (length u.guests) (all-at (λ q. ltb q.guest (length u.guests)) u.waiting blank (waiting-known u s) i h);
      stubs = e;
      shorter =
          omega (
            arith,
            length-map v.waiting stub,
            length-map u.waiting stub,
            ap length e,
            length-remove_at i (map stub u.waiting) (rw (length-map u.waiting stub) h),
          );
    }

-- What the choice sends at a sound table stood at one place, and the others close up.
pub choice-goes : (u : Table) → Sound u → (ph : Phase) (g i : ℕ) → (choice u).answer ≡ Sent ph g i → SentFrom u (named g i) (choice u).table
unfolding sending
choice-goes u s ph g i = go (choice u) (chosen u)
  where
    is : (q : Request) (p : Phase) → Sent p q.guest q.id ≡ Sent ph g i → name q ≡ named g i
    is q p h = let a : q.guest ≡ g = cc in let b : q.id ≡ i = cc in λ j. record { guest = a j; id = b j }

    gone : (k : ℕ) → map stub (remove_at k u.waiting) ≡ remove_at k (map stub u.waiting)
    gone k = map-remove_at stub k u.waiting

    go : (r : Result) → Chosen u r → r.answer ≡ Sent ph g i → SentFrom u (named g i) r.table
    go r (full f e) h = absurd (nothing_sent (sym (ap Result.answer e) ∙ h))
    go r (reservation k f a e) h =
        subst (λ (x : Flight). SentFrom u x r.table) (is (at u.waiting k) Reservation (sym (ap Result.answer e) ∙ h))
        (sent_at_lem u s k a.inside r.table (ap (λ (x : Result). map stub x.table.waiting) e ∙ gone k))
    go r (weight k f n a e) h =
        subst (λ (x : Flight). SentFrom u x r.table) (is (at u.waiting k) Weight (sym (ap Result.answer e) ∙ h))
        (sent_at_lem u s k a.inside r.table
        (ap (λ (x : Result). map stub x.table.waiting) e
        ∙ dropped_stubs (at u.waiting k) (sending u (at u.waiting k) (remove_at k u.waiting))
        ∙ gone k))
    go r (nothing f n m e) h = absurd (nothing_sent (sym (ap Result.answer e) ∙ h))

-- Where it answers that nothing is sent, it leaves the table as it was.
pub choice_nothing : (u : Table) → (choice u).answer ≡ Nothing → (choice u).table ≡ u
choice_nothing u = go (choice u) (chosen u)
  where
    go : (r : Result) → Chosen u r → r.answer ≡ Nothing → r.table ≡ u
    go r (full f e) h = ap Result.table e
    go r (reservation k f a e) h = absurd (nothing_sent (sym h ∙ ap Result.answer e))
    go r (weight k f n a e) h = absurd (nothing_sent (sym h ∙ ap Result.answer e))
    go r (nothing f n m e) h = ap Result.table e

-- And it never refuses.
pub choice_refuses_none : (u : Table) (r : Refusal) → (choice u).answer ≡ Refused r → ⊥
choice_refuses_none u r h = true≢false (sym (unrefused u) ∙ ap taken h)

-- AN EVENT, up to the choice

-- the stub of the request that arrives: its limit tag is that of the last row of the table u that it entered
abbrev pub stub_in : Arriving → (t u : Table) → Stub
stub_in a t u = record { guest = a.guest; id = a.id; ltag = (last_of t u).ltag }

-- the settling of the shares leaves the stubs
adjusted_stubs : (b : Bool) (now : ℕ) (t : Table) → map stub (adjusted b now t).waiting ≡ map stub t.waiting
unfolding adjusted shifted
adjusted_stubs false now t = refl
adjusted_stubs true now t = map_same stub (shifted now (smallest t)) (λ q. refl) t.waiting

-- an arrival, at a guest that is idle or not
arrive_stubs : (b : Bool) (now : ℕ) (a : Arriving) (t : Table)
    → map stub (arrive_as b now a t).waiting ≡ map stub t.waiting ++ (stub_in a t (arrive_as b now a t) ∷ [])
unfolding arrive_as placed stamped
arrive_stubs b now a t =
    let w = (adjusted b now t).waiting in
    let q = stamped_for b now a t in
    map-append stub w (q ∷ [])
    ∙ ap (◌++ (stub q ∷ [])) (adjusted_stubs b now t)
    ∙ ap (λ (x : Request). map stub t.waiting ++ (record { guest = a.guest; id = a.id; ltag = x.ltag } ∷ []))
    (sym (get_or_at w q [] blank (length t.waiting) (adjusted-length t now b)))

-- An arrival's request stands last, and the others keep their names and limit tags.
pub enter_stubs : (t : Table) (a : Arriving) (now : ℕ)
    → map stub (enter t (Arrival a now)).waiting ≡ map stub t.waiting ++ (stub_in a t (enter t (Arrival a now)) ∷ [])
unfolding enter arrive
enter_stubs t a now = arrive_stubs (idle t a.guest) now a t

-- A completion leaves what waits as it was.
pub enter_completion : (t : Table) (f : Flight) (now : ℕ) → (enter t (Completion f now)).waiting ≡ t.waiting
unfolding enter complete
enter_completion t f now = refl

-- And so does a tick.
pub enter_tick : (t : Table) (now : ℕ) → (enter t (Tick now)).waiting ≡ t.waiting
unfolding enter wait
enter_tick t now = refl

-- NAMES, as the stubs have them

-- the name of a stub
abbrev pub name_in : Stub → Flight
name_in s = record { guest = s.guest; id = s.id }

-- the names that wait are those of the stubs
pub names_in : (w : List Request) → map name w ≡ map name_in (map stub w)
names_in [] = refl
names_in (q ∷ w) = ap (name q ∷◌) (names_in w)

-- the name that an event brings, if it brings one
abbrev pub comes : Event → List Flight
comes (Arrival a now) = called_by a ∷ []
comes (Completion f now) = []
comes (Tick now) = []

-- An event's request comes last among the names that wait.
pub enter-names : (t : Table) (e : Event) → map name (enter t e).waiting ≡ map name t.waiting ++ comes e
enter-names t (Arrival a now) =
    names_in (enter t (Arrival a now)).waiting
    ∙ ap (map name_in) (enter_stubs t a now)
    ∙ map-append name_in (map stub t.waiting) (stub_in a t (enter t (Arrival a now)) ∷ [])
    ∙ ap (◌++ (called_by a ∷ [])) (sym (names_in t.waiting))
enter-names t (Completion f now) = ap (map name) (enter_completion t f now) ∙ sym (append-nil (map name t.waiting))
enter-names t (Tick now) = ap (map name) (enter_tick t now) ∙ sym (append-nil (map name t.waiting))

-- And it is noted last in the book.
pub noted-names : (e : Event) (b : List Entry) → map called (noted e b) ≡ map called b ++ comes e
noted-names (Arrival a now) b = map-append called b (record { guest = a.guest; id = a.id; time = now } ∷ [])
noted-names (Completion f now) b = sym (append-nil (map called b))
noted-names (Tick now) b = sym (append-nil (map called b))

-- THE BOOK AND THE TAG OF A REQUEST THAT IS SENT

-- the entry that stands where there is none
abbrev pub no_entry : Entry
no_entry = record { guest = 0; id = 0; time = 0 }

-- the entry at place i
abbrev pub entry : List Entry → ℕ → Entry
entry b i = get_or b i no_entry

-- the first entry of a name has the time of its acceptance
accepted-first : (f : Flight) (b : List Entry) (p : ℕ) → p < length b → same f (called (entry b p)) ≡ true → ((j : ℕ) → j < p → same f (called (entry b j)) ≡ false)
    → accepted_at f b ≡ (entry b p).time
accepted-first f [] p h e n = absurd (omega arith)
accepted-first f (x ∷ b) zero h e n = rw e
accepted-first f (x ∷ b) (suc p) h e n = rw (n 0 (omega arith)) (accepted-first f b p (omega arith) e (λ j k. n (suc j) (omega arith)))

-- the first request of a name has its limit tag
ltag_first : (f : Flight) (w : List Request) (p : ℕ) → p < length w → same f (name (at w p)) ≡ true → ((j : ℕ) → j < p → same f (name (at w j)) ≡ false)
    → ltag_of f w ≡ (at w p).ltag
ltag_first f [] p h e n = absurd (omega arith)
ltag_first f (x ∷ w) zero h e n = rw e
ltag_first f (x ∷ w) (suc p) h e n = rw (n 0 (omega arith)) (ltag_first f w p (omega arith) e (λ j k. n (suc j) (omega arith)))

-- in a sound table the limit tag of a guest without a limit is 0
no_limit_tag : (u : Table) → Sound u → (p : ℕ) → p < length u.waiting → limited (settings_of u.guests (at u.waiting p)) ≡ false → (at u.waiting p).ltag ≡ 0
unfolding kept
no_limit_tag u s p h e =
    let g = (at u.waiting p).guest in
    let x = owner u.guests g in
    let k = (orderly_is x (mine g u.waiting) (any_orderly u s g)).limits in
    let z : eqb x.lnext 0 && all (λ q. eqb q.ltag 0) (mine g u.waiting) ≡ true = rw e at k in
    eqb-true (at u.waiting p).ltag 0
    (all-passing-at (λ q. eqb q.ltag 0) (of g) u.waiting blank (both (eqb x.lnext 0) (all (λ q. eqb q.ltag 0) (mine g u.waiting)) z).1 p h
    (eq-eqb g g refl))

module _ (w : List Request) (b : List Entry) (m : map called b ≡ map name w) where
  -- a book that follows the names has the name of each place
  pub book_at : (j : ℕ) → called (entry b j) ≡ name (at w j)
  book_at j = sym (get_or-map called b j no_entry) ∙ ap (λ (l : List Flight). get_or l j (name blank)) m ∙ get_or-map name w j blank

  -- and as many entries
  pub book_long_lem : length b ≡ length w
  book_long_lem = sym (length-map b called) ∙ ap length m ∙ length-map w name

module _ (u : Table) (f : Flight) (v : Table) (c : SentFrom u f v) where
  -- the place of the request that is sent has its name
  sent_here : same f (name (at u.waiting c.place)) ≡ true
  sent_here = is_same f (name (at u.waiting c.place)) (sym c.named)

  -- and no place before it has
  sent_first : (j : ℕ) → j < c.place → same f (name (at u.waiting j)) ≡ false
  sent_first j h = is_other f (name (at u.waiting j)) (λ e. let z : j ≡ c.place = c.only j (omega (arith, c.inside)) (sym e) in omega arith)

  -- The limit tag of the request that is sent is the one at its place.
  pub sent_ltag : ltag_of f u.waiting ≡ (at u.waiting c.place).ltag
  sent_ltag = ltag_first f u.waiting c.place c.inside sent_here sent_first

  -- In a sound table it lies ahead where it is later than the time: a guest without a limit has 0 there.
  pub sent_ahead : Sound u → lies_ahead u f ≡ ltb u.time (at u.waiting c.place).ltag
  unfolding lies_ahead
  sent_ahead s = go (limited (owner u.guests f.guest).settings) refl
    where
      tag : ℕ
      tag = (at u.waiting c.place).ltag

      go : (b : Bool) → limited (owner u.guests f.guest).settings ≡ b → b && ltb u.time (ltag_of f u.waiting) ≡ ltb u.time tag
      go true e = ap (ltb u.time) sent_ltag
      go false e =
          let z : tag ≡ 0 = no_limit_tag u s c.place c.inside (ap (λ (x : Flight). limited (owner u.guests x.guest).settings) c.named ∙ e) in
          sym (le-ltb u.time tag (omega arith))

  -- The names that still wait are those that waited, without the one at its place.
  pub sent_names : map name v.waiting ≡ remove_at c.place (map name u.waiting)
  sent_names =
      names_in v.waiting
      ∙ ap (map name_in) c.stubs
      ∙ map-remove_at name_in c.place (map stub u.waiting)
      ∙ ap (remove_at c.place) (sym (names_in u.waiting))

  module _ (b : List Entry) (m : map called b ≡ map name u.waiting) where
    -- The time of acceptance is that of the entry at the place of the request that is sent.
    pub sent_since : accepted_at f b ≡ (entry b c.place).time
    sent_since =
        accepted-first f b c.place (rw (book_long_lem u.waiting b m) c.inside) (ap (same f) (book_at u.waiting b m c.place) ∙ sent_here)
        (λ j h. ap (same f) (book_at u.waiting b m j) ∙ sent_first j h)

    -- And that entry is struck.
    pub sent_struck : struck f b ≡ remove_at c.place b
    sent_struck =
        without_at (λ n. same f (called n)) b no_entry c.place (rw (book_long_lem u.waiting b m) c.inside) (ap (same f) (book_at u.waiting b m c.place) ∙ sent_here)
        (λ j h. ap (same f) (book_at u.waiting b m j) ∙ sent_first j h)

    -- Then the book follows the names again.
    pub sent_book : map called (struck f b) ≡ map name v.waiting
    sent_book = ap (map called) sent_struck ∙ map-remove_at called c.place b ∙ ap (remove_at c.place) m ∙ sym sent_names
