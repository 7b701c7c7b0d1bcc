-- Demand 3: at the accepted events that find a place free a due request goes by reservation, behind some of those that stand before it; that is proved
-- once for both rules for limits, and under rule 1 it goes behind just all of them. Assumes nothing.
use mathlib.Core.Path.{◌≡◌, refl, sym, ap, subst, ◌∙◌}
use mathlib.Core.Bool.{Bool, true, false}
use mathlib.Core.List.{List, [], ◌∷◌, ◌++◌, map, Permᴰ}
use Prim.Native.Nat.{ℕ, zero, suc, ◌≤◌, ◌<◌}
use native.Mathlib.Omega.{arith}
use lib.Dec.{leb}
use lib.ListN.{length, get_or, length-map, get_or-map}
use borrow.Author.Tests.{leb-true}
use Rattle.lists.specs.Words.{filter}
use Rattle.lists.specs.WordsLaws.{both, join}
use Rattle.rules.specs.Tables.{Request, Table, name}
use Rattle.rules.specs.declared.Flight.{Flight}
use Rattle.rules.specs.Sound.{sound}
use Rattle.rules.specs.Choice.{due_at, passes_at, passes, due, room, choice}
use Rattle.rules.specs.Events.{enter}
use Rattle.rules.specs.declared.Event.{Event}
use Rattle.rules.specs.Refusals.{accepted}
use Rattle.turns.specs.Turn.{tagged, is_due, ahead, sorted, at_free, sent_by_reservation, by_name, Drawn, ByTurn, InTurn}
use Rattle.rules.specs.declared.Answer.{Answer}
use Rattle.rules.specs.declared.Answer.TheVariants.{Nothing}
use Rattle.turns.proofs.Sorted.{each_weaken, sorted_perm, length-sorted}
use Rattle.turns.proofs.LineMoves.{Behind, place_of}
use Rattle.rules.proofs.EnterSound.{accepted-later}
use Rattle.rules.proofs.StepSound.{accepted-step, refused_keeps}
use Rattle.turns.proofs.Turn.{Front, Turns, this, other, front-enter, front-choice}

-- ONE EVENT of a run

-- where no place is free the choice leaves the table
choice-full : (t : Table) → room t ≡ false → (choice t).table ≡ t
unfolding choice
choice-full t h = rw h

-- a refused event does not count
free-refused : (t : Table) (e : Event) (es : List Event) → accepted t e ≡ false → at_free t (e ∷ es) ≡ at_free t es
unfolding at_free
free-refused t e es a = rw a (ap (λ (u : Table). at_free u es) (refused_keeps t e a))

-- nor does one that finds no place free
free-full : (t : Table) (e : Event) (es : List Event) → accepted t e ≡ true → room (enter t e) ≡ false → at_free t (e ∷ es) ≡ at_free (enter t e) es
unfolding at_free
free-full t e es a r = rw (a, r, accepted-step t e a) (ap (λ (u : Table). at_free u es) (choice-full (enter t e) r))

-- one that finds a place free counts, with its answer
free-room : (t : Table) (e : Event) (es : List Event) → accepted t e ≡ true → room (enter t e) ≡ true
    → at_free t (e ∷ es) ≡ (choice (enter t e)).answer ∷ at_free (choice (enter t e)).table es
unfolding at_free
free-room t e es a r = rw (a, r, accepted-step t e a)

-- THE RUN

-- the answers send those of the names s and then x, in this order and by reservation, as far as there are answers
abbrev Begins : (s : List Flight) (x : Flight) → List Answer → Type 0
Begins s x [] = Unit {0}
Begins [] x (y ∷ got) = y ≡ by_name x
Begins (f ∷ s) x (y ∷ got) = (y ≡ by_name f) × Begins s x got

-- they are drawn from the names n, and under rule 1 they are all of these
record Sends (r : ℕ) (n : List Flight) (x : Flight) (got : List Answer) : Type 0 where
  sent : List Flight
  drawn : Drawn sent n
  exact : r ≡ 1 → sent ≡ n
  begins : Begins sent x got

-- all can be drawn
drawn_all : (n : List Flight) → Drawn n n
drawn_all [] = tt
drawn_all (f ∷ n) = ([], n, refl, drawn_all n)

-- one more is drawn and sent
sends-one : (r : ℕ) (a : List Flight) (f : Flight) (b : List Flight) (x : Flight) (y : Answer) (got : List Answer) → y ≡ by_name f → (r ≡ 1 → a ≡ [])
    → Sends r (a ++ b) x got → Sends r (a ++ f ∷ b) x (y ∷ got)
sends-one r a f b x y got e i k =
    record { sent = f ∷ k.sent; drawn = (a, b, refl, k.drawn); exact = λ o. rw (i o) (ap (f ∷◌) (k.exact o ∙ ap (◌++ b) (i o))); begins = (e, k.begins) }

-- the front of the line goes first, whatever the events
sends_run : (r : ℕ) (es : List Event) (t : Table) (n : List Flight) (x : Flight) → Front r t n x → Sends r n x (at_free t es)
unfolding at_free
sends_run r [] t n x c = record { sent = n; drawn = drawn_all n; exact = λ o. refl; begins = tt }
sends_run r (e ∷ es) t n x c = go (accepted t e) refl (room (enter t e)) refl (λ u m d. sends_run r es u m x d)
  where
    Rest : Type 0
    Rest = (u : Table) (m : List Flight) → Front r u m x → Sends r m x (at_free u es)

    turns : (u : Table) → Rest → Turns r u n x → Sends r n x ((choice u).answer ∷ at_free (choice u).table es)
    turns u k (this i j) = record { sent = []; drawn = tt; exact = λ o. sym (i o); begins = j }
    turns u k (other a f b i o j d) = rw i (sends-one r a f b x _ _ j o (k (choice u).table (a ++ b) d))

    go : (a : Bool) → accepted t e ≡ a → (b : Bool) → room (enter t e) ≡ b → Rest → Sends r n x (at_free t (e ∷ es))
    go false a b f k = rw (free-refused t e es a) (k t n c)
    go true a false f k = rw (free-full t e es a f) (k (enter t e) n (front-enter r t e n x (accepted-later t e a) c))
    go true a true f k = rw (free-room t e es a f) (turns (enter t e) k (front-choice r (enter t e) n x f (front-enter r t e n x (accepted-later t e a) c)))

-- what is sent, read at a place
begins-at : (s : List Flight) (x : Flight) (got : List Answer) → Begins s x got → (i : ℕ) → i < length s → i < length got → get_or got i Nothing ≡ by_name (get_or s i x)
begins-at s x [] h i p q = absurd (omega arith)
begins-at [] x (y ∷ got) h i p q = absurd (omega arith)
begins-at (f ∷ s) x (y ∷ got) h zero p q = h.0
begins-at (f ∷ s) x (y ∷ got) h (suc i) p q = begins-at s x got h.1 i (omega arith) (omega arith)

-- and then x
begins-then : (s : List Flight) (x : Flight) (got : List Answer) → Begins s x got → length s < length got → get_or got (length s) Nothing ≡ by_name x
begins-then s x [] h q = absurd (omega arith)
begins-then [] x (y ∷ got) h q = h
begins-then (f ∷ s) x (y ∷ got) h q = begins-then s x got h.1 (omega arith)

-- a due request and those ahead of it are the front of the line
front_of : (t : Table) (a b : List Request) (x : Request) → t.waiting ≡ a ++ x ∷ b → due t x ≡ true
    → Front t.setup.rule t (map name (sorted (ahead t x a b))) (name x)
unfolding due_at
front_of t a b x w d = go (place_of (tagged t) x a b ripe.0)
  where
    parts : (is_due t x ≡ true) × (passes t x ≡ true)
    parts = both (is_due t x) (passes t x) d

    ripe : (tagged t x ≡ true) × (leb x.rtag t.time ≡ true)
    ripe = both (tagged t x) (leb x.rtag t.time) parts.0

    s : List Request
    s = sorted (ahead t x a b)

    k : x.rtag ≤ t.time
    k = leb-true x.rtag t.time ripe.1

    go : Behind x s (filter (tagged t) (a ++ x ∷ b)) → Front t.setup.rule t (map name s) (name x)
    go (r, e, o, u) =
        record {
          rule = refl;
          head = s;
          own = x;
          rest = r;
          stands = ap (λ (w : List Request). sorted (filter (tagged t) w)) w ∙ e;
          named = refl;
          owned = refl;
          ready = each_weaken _ _ (λ p i. omega (arith, k)) s u;
          own_ready = k;
          may = parts.1;
        }

-- DEMAND 3, WHAT BOTH RULES SHARE, phrase by phrase.
-- "Take any sound table at its last accepted time": t, and its time.
-- "and a waiting request": x, with those of a accepted before it and those of b after it.
-- "whose reservation tag is at or before that time": due, and under rule 2 it is unlimited too, or its limit tag is at or before
-- that time.
-- "Let k be how many waiting requests stand before it by reservation tag, equal tags by order of acceptance (requests of guests without a
-- reservation have no such tag)": ahead has them, their limits due or not, k is its length.
-- "In any sequence of later arrivals, completions and ticks, refused ones among them": es is any list of events.
-- "the accepted events that find a place free at the array (a completion frees its own first)": at_free has their answers, in order.
-- ByTurn: they send some of those ahead, each once, and then x, each by reservation; under rule 1 all of those, by reservation tag and equal tags
-- by order of acceptance.
-- An answer names a request by guest and id. Requests that wait or are in flight in a sound table have distinct names, and an arrival of
-- a name in use is refused; so what goes under the name of one of those, or of x, is that very request.
-- Soundness is not used: a table that is not sound accepts nothing.
pub demand_3_shared : (t : Table) (a b : List Request) (x : Request) (es : List Event) → sound t ≡ true → t.waiting ≡ a ++ x ∷ b → due t x ≡ true
    → ByTurn t.setup.rule (sorted (ahead t x a b)) x (at_free t es)
demand_3_shared t a b x es s w d =
    let c = sends_run t.setup.rule es t (map name (sorted (ahead t x a b))) (name x) (front_of t a b x w d) in
    record {
      sent = c.sent;
      drawn = c.drawn;
      none_over = c.exact;
      some_first = begins-at c.sent (name x) (at_free t es) c.begins;
      then_this = begins-then c.sent (name x) (at_free t es) c.begins;
    }

-- RULE 1

-- what is due is all that the reservation phase asks
due-one : (t : Table) (x : Request) → t.setup.rule ≡ 1 → is_due t x ≡ true → due t x ≡ true
unfolding passes_at
due-one t x e d = join d (rw e refl)

-- so those go in turn, then x
in_turn : (those : List Request) (x : Request) (got : List Answer) → ByTurn 1 those x got → InTurn those x got
in_turn those x got c = record { those_first = first; then_this = λ h. rw long at (c.then_this (rw long h)) }
  where
    all : c.sent ≡ map name those
    all = c.none_over refl

    long : length c.sent ≡ length those
    long = ap length all ∙ length-map those name

    first : (n : ℕ) → n < length those → n < length got → get_or got n Nothing ≡ sent_by_reservation (get_or those n x)
    first n p q =
        c.some_first n (rw long p) q
        ∙ ap (λ (l : List Flight). by_name (get_or l n (name x))) all
        ∙ ap by_name (get_or-map name those n x)

-- DEMAND 3 under rule 1: the answers "send exactly those k first, then this request at the (k+1)th, each by reservation": InTurn, where those are the requests
-- ahead, rearranged, k of them, by reservation tag and equal tags by order of acceptance.
pub demand_3 : (t : Table) (a b : List Request) (x : Request) (es : List Event) → sound t ≡ true → t.setup.rule ≡ 1 → t.waiting ≡ a ++ x ∷ b → is_due t x ≡ true
    → (those : List Request) × (those ≡ sorted (ahead t x a b)) × Permᴰ those (ahead t x a b) × (length those ≡ length (ahead t x a b)) × InTurn those x (at_free t es)
demand_3 t a b x es s one w d =
    let those = sorted (ahead t x a b) in
    let c = subst (λ (r : ℕ). ByTurn r those x (at_free t es)) one (demand_3_shared t a b x es s w (due-one t x one d)) in
    (those, refl, sorted_perm (ahead t x a b), length-sorted (ahead t x a b), in_turn those x (at_free t es) c)

-- demand 3 under rule 1, "then this request at the (k+1)th": the answer at place k, counted from 0
pub demand_3_at : (t : Table) (a b : List Request) (x : Request) (es : List Event) → sound t ≡ true → t.setup.rule ≡ 1 → t.waiting ≡ a ++ x ∷ b → is_due t x ≡ true
    → (k : ℕ) → k ≡ length (ahead t x a b) → k < length (at_free t es) → get_or (at_free t es) k Nothing ≡ sent_by_reservation x
demand_3_at t a b x es s one w d k e h =
    let c = demand_3 t a b x es s one w d in
    let n : k ≡ length c.0 = e ∙ sym c.3 in
    rw n (c.4.then_this (rw n at h))
