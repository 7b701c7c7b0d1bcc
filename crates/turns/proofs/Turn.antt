-- The front of the line over a run: it begins with requests of given names and then x, their reservation tags due, and x passes. Entering an event
-- keeps that, and with a place free the choice sends x or one that stands before it, by reservation; under rule 1 the first. Names, because arrivals
-- rewrite the share tags inside requests. Assumes nothing.
use mathlib.Core.Path.{◌≡◌, refl, sym, ap, ◌∙◌, fun_ext}
use mathlib.Core.Bool.{Bool, true, false, not, ◌&&◌, ◌||◌, true≢false}
use mathlib.Core.List.{List, [], ◌∷◌, ◌++◌, map, append_assoc}
use Prim.Native.Nat.{ℕ, ◌≤◌}
use native.Mathlib.Omega.{arith}
use lib.Dec.{ltb, leb, eqb}
use borrow.Author.Tests.{leb-true, le-leb}
use Rattle.lists.specs.Words.{if◌then◌else◌}
use Rattle.lists.specs.WordsLaws.{join, map-append, map_same}
use Rattle.rules.specs.Tables.{Request, Table, limited, settings_of, idle, name}
use Rattle.rules.specs.declared.Settings.{Settings}
use Rattle.rules.specs.declared.Flight.{Flight}
use Rattle.rules.specs.Choice.{picked, least, due_at, open_at, passes_at, passes, due, sending, by_reservation, room, choice}
use Rattle.rules.specs.Events.{moment, smallest, shifted, adjusted, stamped, raised, stamped_for, placed, arrive_as, arrive, complete, wait, enter}
use Rattle.rules.specs.declared.Arriving.{Arriving}
use Rattle.rules.specs.declared.Event.{Event}
use Rattle.rules.specs.declared.Event.TheVariants.{Arrival, Completion, Tick}
use Rattle.turns.specs.Turn.{tagged, by_name}
use Rattle.turns.proofs.Sorted.{Each, UpTo, each_weaken, each_append}
use Rattle.rules.proofs.SameSettings.{SameSettings, same-owner, adjusted-settings, placed-settings}
use Rattle.turns.proofs.Line.{line_of, first, in_line, first_in_line, out-of-line, Found, last, sooner, finds}
use Rattle.turns.proofs.LineMoves.{arrived, line-map, upto_map}

-- the line of a table: its waiting requests that have a reservation tag
abbrev pub line : Table → List Request
line t = line_of (tagged t) t.waiting

-- the line begins with requests of the names n and then one of the name x, their tags at or before the time; x passes, and the rule is r
pub record Front (r : ℕ) (t : Table) (n : List Flight) (x : Flight) : Type 0 where
  pub rule : t.setup.rule ≡ r
  pub head : List Request
  pub own : Request
  pub rest : List Request
  pub stands : line t ≡ head ++ own ∷ rest
  pub named : map name head ≡ n
  pub owned : name own ≡ x
  pub ready : UpTo t.time head
  pub own_ready : own.rtag ≤ t.time
  pub may : passes t own ≡ true

-- THE SETTINGS stay, and with them who has a reservation tag and who passes

-- the same settings, the same requests in line
tagged-same : (t u : Table) → SameSettings u t → tagged u ≡ tagged t
tagged-same t u s = fun_ext (λ q. ap (λ (s : Settings). ltb 0 s.reservation) (same-owner u t s q.guest))

-- what passes does so later too
passes-later : (r : ℕ) (s : Settings) (m n : ℕ) (q : Request) → m ≤ n → passes_at r s m q ≡ true → passes_at r s n q ≡ true
unfolding passes_at open_at
passes-later r s m n q h = go (eqb r 2) (limited s)
  where
    go : (b l : Bool) → (if b then not l || leb q.ltag m else true) ≡ true → (if b then not l || leb q.ltag n else true) ≡ true
    go false l e = refl
    go true false e = refl
    go true true e = le-leb q.ltag n (omega (arith, leb-true q.ltag m e))

-- ENTERING an event keeps the front of the line

-- moving share tags leaves the front
front-adjusted : (b : Bool) (now r : ℕ) (t : Table) (n : List Flight) (x : Flight) → Front r t n x → Front r (adjusted b now t) n x
unfolding adjusted shifted passes_at open_at
front-adjusted false now r t n x c = c
front-adjusted true now r t n x c =
    record {
      rule = c.rule;
      head = map f c.head;
      own = f c.own;
      rest = map f c.rest;
      stands = rw (tagged-same t (adjusted true now t) (adjusted-settings true now t))
          (line-map (tagged t) f (λ q. refl) (λ q. refl) t.waiting ∙ ap (map f) c.stands ∙ map-append f c.head (c.own ∷ c.rest));
      named = map_same name f (λ q. refl) c.head ∙ c.named;
      owned = c.owned;
      ready = upto_map (tagged t) f (λ q. refl) (λ q. refl) t.time c.head c.ready;
      own_ready = c.own_ready;
      may = ap (λ (s : Settings). passes_at t.setup.rule s t.time c.own) (same-owner (adjusted true now t) t (adjusted-settings true now t) c.own.guest) ∙ c.may;
    }
  where
    f : Request → Request
    f = shifted now (smallest t)

-- a request that is placed with no tag before now stands behind the front
front-placed : (now : ℕ) (q : Request) (r : ℕ) (t : Table) (n : List Flight) (x : Flight) → t.time ≤ now → (tagged t q ≡ true → now ≤ q.rtag)
    → Front r t n x → Front r (placed now q t) n x
unfolding placed
front-placed now q r t n x h k c =
    go
    (arrived (tagged t) t.waiting q (c.head ++ (c.own ∷ [])) c.rest (c.stands ∙ sym (append_assoc c.head (c.own ∷ []) c.rest))
    (λ b. let j = k b in each_append _ c.head (c.own ∷ []) (each_weaken _ _ (λ p i. omega arith) c.head c.ready) (omega (arith, c.own_ready), tt)))
  where
    go : (l : List Request) × (line_of (tagged t) (t.waiting ++ (q ∷ [])) ≡ (c.head ++ (c.own ∷ [])) ++ l) → Front r (placed now q t) n x
    go (l, e) =
        record {
          rule = c.rule;
          head = c.head;
          own = c.own;
          rest = l;
          stands = rw (tagged-same t (placed now q t) (placed-settings now q t)) (e ∙ append_assoc c.head (c.own ∷ []) l);
          named = c.named;
          owned = c.owned;
          ready = each_weaken _ _ (λ p i. omega arith) c.head c.ready;
          own_ready = omega (arith, c.own_ready);
          may = ap (λ (s : Settings). passes_at t.setup.rule s now c.own) (same-owner (placed now q t) t (placed-settings now q t) c.own.guest)
              ∙ passes-later t.setup.rule (settings_of t.guests c.own) t.time now c.own h c.may;
        }

-- a tag that is given is not before now
stamped-late : (b : Bool) (now : ℕ) (a : Arriving) (t : Table) → tagged t (stamped_for b now a t) ≡ true → now ≤ (stamped_for b now a t).rtag
unfolding stamped raised
stamped-late b now a t e = rw e (omega arith)

-- moving share tags leaves the time
time_adjusted : (b : Bool) (now : ℕ) (t : Table) → (adjusted b now t).time ≡ t.time
unfolding adjusted
time_adjusted true now t = refl
time_adjusted false now t = refl

-- so an arrival leaves the front
front-arrive : (b : Bool) (now : ℕ) (a : Arriving) (r : ℕ) (t : Table) (n : List Flight) (x : Flight) → t.time ≤ now → Front r t n x → Front r (arrive_as b now a t) n x
unfolding arrive_as
front-arrive b now a r t n x h c =
    let q = stamped_for b now a t in
    front-placed now q r (adjusted b now t) n x (rw (time_adjusted b now t) h)
    (λ e. stamped-late b now a t (sym (ap (λ (R : Request → Bool). R q) (tagged-same t (adjusted b now t) (adjusted-settings b now t))) ∙ e))
    (front-adjusted b now r t n x c)

-- and so does the passing of time
front-later : (r : ℕ) (t : Table) (m : ℕ) (f : List Flight) (n : List Flight) (x : Flight) → t.time ≤ m → Front r t n x
    → Front r (record { setup = t.setup; time = m; guests = t.guests; waiting = t.waiting; flight = f }) n x
front-later r t m f n x h c =
    record {
      rule = c.rule;
      head = c.head;
      own = c.own;
      rest = c.rest;
      stands = c.stands;
      named = c.named;
      owned = c.owned;
      ready = each_weaken _ _ (λ p i. omega arith) c.head c.ready;
      own_ready = omega (arith, c.own_ready);
      may = passes-later t.setup.rule (settings_of t.guests c.own) t.time m c.own h c.may;
    }

-- and every event that is not before the table's time
pub front-enter : (r : ℕ) (t : Table) (e : Event) (n : List Flight) (x : Flight) → t.time ≤ moment e → Front r t n x → Front r (enter t e) n x
unfolding enter arrive complete wait
front-enter r t (Arrival a m) n x h c = front-arrive (idle t a.guest) m a r t n x h c
front-enter r t (Completion f m) n x h c = front-later r t m _ n x h c
front-enter r t (Tick m) n x h c = front-later r t m t.flight n x h c

-- THE CHOICE sends x, or one that stands before it

-- what the reservation phase asks of a request in line
abbrev pub ready? : Table → Request → Bool
ready? t q = leb q.rtag t.time && passes t q

-- a request is due where it is in line and the reservation phase has what it asks
due_is : (t : Table) → due t ≡ (λ q. tagged t q && ready? t q)
unfolding due_at
due_is t = fun_ext (λ q. elim (tagged t q) as (λ b. (b && leb q.rtag t.time) && passes t q ≡ b && ready? t q) [ true ↦ refl | false ↦ refl ])

-- the pick of the reservation phase is the first in line that is due and passes, and the others stay in line
pub pick_is_first : (t : Table) → first (ready? t) (line t) ≡ in_line (tagged t) (least (due t) Request.rtag t.waiting)
pick_is_first t = rw (due_is t) (first_in_line (tagged t) (ready? t) t.waiting)

-- under rule 1 every request passes, so none that is due is passed over
none_over : (t : Table) → t.setup.rule ≡ 1 → (l : List Request) → UpTo t.time l → Each (λ q. ready? t q ≡ false) l → l ≡ []
unfolding passes_at
none_over t e [] u h = refl
none_over t e (q ∷ l) u h = absurd (true≢false (sym (join (le-leb q.rtag t.time u.0) (rw e refl)) ∙ h.0))

-- what a choice with a place free does to such a front: it sends x, or one y that stands before it, by reservation; under rule 1 the first
pub data Turns (r : ℕ) (t : Table) (n : List Flight) (x : Flight) : Type 0 where
  this : (r ≡ 1 → n ≡ []) → (choice t).answer ≡ by_name x → Turns r t n x
  other : (a : List Flight) (y : Flight) (b : List Flight) → n ≡ a ++ y ∷ b → (r ≡ 1 → a ≡ []) → (choice t).answer ≡ by_name y
      → Front r (choice t).table (a ++ b) x → Turns r t n x

-- what holds of every request of two lists holds of those of the first, and of both without one between them
each_left : (P : Request → Type 0) (a b : List Request) → Each P (a ++ b) → Each P a
each_left P [] b u = tt
each_left P (q ∷ a) b u = (u.0, each_left P a b u.1)

each-without : (P : Request → Type 0) (a : List Request) (y : Request) (b : List Request) → Each P (a ++ y ∷ b) → Each P (a ++ b)
each-without P [] y b u = u.1
each-without P (q ∷ a) y b u = (u.0, each-without P a y b u.1)

-- one y picked by reservation is sent, where a place is free
sends_picked : (t : Table) (y : Request) (v : List Request) → room t ≡ true → least (due t) Request.rtag t.waiting ≡ picked y v
    → ((choice t).answer ≡ by_name (name y)) × ((choice t).table ≡ sending t y v)
unfolding choice by_reservation
sends_picked t y v h e = (rw (h, e) refl, rw (h, e) refl)

pub front-choice : (r : ℕ) (t : Table) (n : List Flight) (x : Flight) → room t ≡ true → Front r t n x → Turns r t n x
unfolding sending
front-choice r t n x h c =
    go (finds (ready? t) c.head c.own c.rest (join (le-leb c.own.rtag t.time c.own_ready) c.may))
  where
    out : (p : Request) (l : List Request) → first (ready? t) (c.head ++ c.own ∷ c.rest) ≡ picked p l
        → (v : List Request) × (least (due t) Request.rtag t.waiting ≡ picked p v) × (line_of (tagged t) v ≡ l)
    out p l e = out-of-line (tagged t) (least (due t) Request.rtag t.waiting) p l (sym (pick_is_first t) ∙ ap (first (ready? t)) c.stands ∙ e)

    go : Found (ready? t) c.head c.own c.rest (first (ready? t) (c.head ++ c.own ∷ c.rest)) → Turns r t n x
    go (last s k) =
        let (v, p, l) = out c.own (c.head ++ c.rest) k in
        this (λ o. sym c.named ∙ ap (map name) (none_over t (c.rule ∙ o) c.head c.ready s)) ((sends_picked t c.own v h p).0 ∙ ap by_name c.owned)
    go (sooner a y b i s k) =
        let (v, p, l) = out y ((a ++ b) ++ c.own ∷ c.rest) k in
        let ready : UpTo t.time (a ++ y ∷ b) = rw i at c.ready in
        other (map name a) (name y) (map name b) (sym c.named ∙ ap (map name) i ∙ map-append name a (y ∷ b))
        (λ o. ap (map name) (none_over t (c.rule ∙ o) a (each_left _ a (y ∷ b) ready) s))
        (sends_picked t y v h p).0
        (rw (sends_picked t y v h p).1
        (record {
          rule = c.rule;
          head = a ++ b;
          own = c.own;
          rest = c.rest;
          stands = l;
          named = map-append name a b;
          owned = c.owned;
          ready = each-without _ a y b ready;
          own_ready = c.own_ready;
          may = c.may;
        }))
