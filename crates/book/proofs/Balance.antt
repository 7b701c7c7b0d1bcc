-- Document 02, K1: "Show that accepted arrivals equal waiting plus in flight plus completed, per guest, the first two counted as entries in the
-- gate's tables at the end." Shown of every event, then of any run. Assumes nothing.
use mathlib.Core.Path.{◌≡◌, refl, sym, ap, subst, ◌∙◌}
use mathlib.Core.Bool.{Bool, true, false, false≢true}
use mathlib.Core.List.{List, [], ◌∷◌, ◌++◌}
use Prim.Native.Nat.{ℕ, zero, suc, ◌+◌, ◌-◌, ◌≤◌, ◌<◌}
use native.Mathlib.Omega.{arith}
use native.Mathlib.Nat.{zero-add}
use lib.Dec.{eqb}
use lib.ListN.{length, get_or, length-append, length-map}
use Rattle.lists.specs.Words.{if◌then◌else◌, filter}
use Rattle.lists.specs.WordsLaws.{filter-append}
use Rattle.lists.specs.Tab.{remove_at}
use Rattle.rules.specs.Tables.{Request, Table, mine}
use Rattle.rules.specs.Answers.{taken}
use Rattle.rules.specs.Events.{enter}
use Rattle.rules.specs.Refusals.{accepted}
use Rattle.rules.specs.Run.{step, after, newcomer, fresh}
use Rattle.rules.specs.Order as order
use Rattle.rules.specs.declared.Settings.{Settings}
use Rattle.rules.specs.declared.Flight.{Flight}
use Rattle.rules.specs.declared.Phase.{Phase}
use Rattle.rules.specs.declared.Phase.TheVariants.{Reservation, Weight}
use Rattle.rules.specs.declared.Event.{Event}
use Rattle.rules.specs.declared.Event.TheVariants.{Arrival, Completion, Tick}
use Rattle.rules.specs.declared.Answer.{Answer}
use Rattle.rules.specs.declared.Answer.TheVariants.{Nothing, Sent, Refused}
use Rattle.rules.proofs.Answered.{step-taken}
use Rattle.rules.proofs.Arrived.{completed}
use Rattle.rules.proofs.InFlight.{joined_by, left_by, enter_flight, in_order_of-sending}
use Rattle.rules.proofs.InOrder.{step_waits}
use Rattle.rules.proofs.SameSettings.{same_count, step-settings, run-settings}
use Rattle.book.specs.Figures.{Figures, unseen, figures_at, change, arrived, completed as ended, sent_by, counted}
use Rattle.book.specs.Book.{noted}
use Rattle.book.specs.Page.{Page, named, lies_ahead, waited, booked, turned, turned_by, first_page}
use Rattle.book.specs.Balance.{waits_of, flies_of, sends, Balanced}
use Rattle.book.proofs.Turning.{unseen-at, changed-at, counted_long, booked_long, turned-refused, turned-table, turned-after, turned_keeps}

-- WHAT AN EVENT AND ITS ANSWER ARE TO A GUEST, as numbers

-- one, where the test holds
abbrev one : Bool → ℕ
one b = if b then 1 else 0

-- an event brings a request of guest g
abbrev arrives_of : ℕ → Event → ℕ
arrives_of g (Arrival a now) = one (eqb a.guest g)
arrives_of g (Completion f now) = 0
arrives_of g (Tick now) = 0

-- an event ends one of guest g
abbrev ends_of : ℕ → Event → ℕ
ends_of g (Arrival a now) = 0
ends_of g (Completion f now) = one (eqb f.guest g)
ends_of g (Tick now) = 0

-- an answer sends one of guest g
abbrev sends_of : ℕ → Answer → ℕ
sends_of g Nothing = 0
sends_of g (Sent ph h i) = one (eqb h g)
sends_of g (Refused r) = 0

-- THE TABLES

-- what an event brings of guest g, counted
brings_long : (g : ℕ) (e : Event) → length (order.brings g e) ≡ arrives_of g e
brings_long g (Arrival a now) = elim (eqb a.guest g) as (λ b. length (if b then a.id ∷ [] else []) ≡ one b) [ true ↦ refl | false ↦ refl ]
brings_long g (Completion f now) = refl
brings_long g (Tick now) = refl

-- what an answer sends of guest g, counted
sends_long : (g : ℕ) (a : Answer) → length (order.sends g a) ≡ sends_of g a
sends_long g Nothing = refl
sends_long g (Sent ph h i) = elim (eqb h g) as (λ b. length (if b then i ∷ [] else []) ≡ one b) [ true ↦ refl | false ↦ refl ]
sends_long g (Refused r) = refl

-- of guest g, what waited and what an accepted event brings is what waits and what is sent
waiting_counts : (g : ℕ) (t : Table) (e : Event) → accepted t e ≡ true
    → waits_of g t + arrives_of g e ≡ waits_of g (step t e).table + sends_of g (step t e).answer
waiting_counts g t e h =
    let v = (step t e).table in
    let a = (step t e).answer in
    let q : order.waits g t ++ order.brings g e ≡ order.sends g a ++ order.waits g v = rw h at (step_waits g t e) in
    omega (
      arith,
      ap length q,
      length-append (order.waits g t) (order.brings g e),
      length-append (order.sends g a) (order.waits g v),
      length-map (mine g t.waiting) Request.id,
      length-map (mine g v.waiting) Request.id,
      brings_long g e,
      sends_long g a,
    )

-- a list with one place taken out has one fewer that passes, where that one passes
filter-taken : {A : Type 0} (k : A → Bool) (l : List A) (i : ℕ) (d : A) → i < length l
    → length (filter k l) ≡ length (filter k (remove_at i l)) + one (k (get_or l i d))
filter-taken k [] i d h = absurd (omega arith)
filter-taken k (x ∷ l) zero d h =
    elim (k x) as (λ b. length (if b then x ∷ filter k l else filter k l) ≡ length (filter k l) + one b) [ true ↦ omega arith | false ↦ omega arith ]
filter-taken k (x ∷ l) (suc i) d h =
    let q = filter-taken k l i d (omega arith) in
    elim (k x) as (λ b. length (if b then x ∷ filter k l else filter k l) ≡ length (if b then x ∷ filter k (remove_at i l) else filter k (remove_at i l)) + one (k (get_or l i d)))
    [ true ↦ omega arith | false ↦ q ]

-- those of guest g among requests in flight
abbrev flying : ℕ → List Flight → ℕ
flying g l = length (filter (λ f. eqb f.guest g) l)

-- with what an answer sends
joined_counts : (g : ℕ) (a : Answer) (l : List Flight) → flying g (joined_by a l) ≡ flying g l + sends_of g a
joined_counts g Nothing l = omega arith
joined_counts g (Sent ph h i) l =
    let f : Flight = record { guest = h; id = i } in
    ap length (filter-append (λ f. eqb f.guest g) l (f ∷ []))
    ∙ length-append (filter (λ f. eqb f.guest g) l) (filter (λ f. eqb f.guest g) (f ∷ []))
    ∙ elim (eqb h g) as (λ b. flying g l + length (if b then f ∷ [] else []) ≡ flying g l + one b) [ true ↦ refl | false ↦ refl ]
joined_counts g (Refused r) l = omega arith

-- with what an accepted event has taken out
left_counts : (g : ℕ) (t : Table) (e : Event) → accepted t e ≡ true → flying g t.flight ≡ flying g (left_by e t.flight) + ends_of g e
left_counts g t (Arrival a now) h = omega arith
left_counts g t (Completion f now) h =
    let c = completed t f now h in
    let out : left_by (Completion f now) t.flight ≡ remove_at c.place t.flight = sym (enter_flight t (Completion f now)) ∙ c.taken_out in
    filter-taken (λ f. eqb f.guest g) t.flight c.place f c.inside
    ∙ ap (λ (x : Flight). flying g (remove_at c.place t.flight) + one (eqb x.guest g)) c.named
    ∙ ap (λ (l : List Flight). flying g l + one (eqb f.guest g)) (sym out)
left_counts g t (Tick now) h = omega arith

-- of guest g, what was in flight and what is sent is what is in flight and what an accepted event ends
flight_counts : (g : ℕ) (t : Table) (e : Event) → accepted t e ≡ true
    → flies_of g t + sends_of g (step t e).answer ≡ flies_of g (step t e).table + ends_of g e
flight_counts g t e h =
    let a = (step t e).answer in
    omega (
      arith,
      left_counts g t e h,
      joined_counts g a (left_by e t.flight),
      ap (flying g) (in_order_of-sending t e h),
    )

-- THE FIGURES

-- the figures k have grown from f by so many arrivals, completions and sends
record Grown (f k : Figures) (arrive end send : ℕ) : Type 0 where
  arrivals : k.arrivals ≡ f.arrivals + arrive
  completions : k.completions ≡ f.completions + end
  sent : sends k ≡ sends f + send

-- nothing happens to them
grown_none : (f : Figures) → Grown f f 0 0 0
grown_none f = record { arrivals = omega arith; completions = omega arith; sent = omega arith }

-- an event is counted
counted_grown : (e : Event) (l : List Figures) (g : ℕ) → g < length l → Grown (figures_at l g) (figures_at (counted e l) g) (arrives_of g e) (ends_of g e) 0
counted_grown (Arrival a now) l g h =
    let f = figures_at l g in
    subst (λ (k : Figures). Grown f k (one (eqb a.guest g)) 0 0) (sym (changed-at a.guest g arrived l h))
    (elim (eqb a.guest g) as (λ b. Grown f (if b then arrived f else f) (one b) 0 0)
    [ true ↦ record { arrivals = refl; completions = omega arith; sent = omega arith } | false ↦ grown_none f ])
counted_grown (Completion f now) l g h =
    let k = figures_at l g in
    subst (λ (x : Figures). Grown k x 0 (one (eqb f.guest g)) 0) (sym (changed-at f.guest g ended l h))
    (elim (eqb f.guest g) as (λ b. Grown k (if b then ended k else k) 0 (one b) 0)
    [ true ↦ record { arrivals = omega arith; completions = refl; sent = omega arith } | false ↦ grown_none k ])
counted_grown (Tick now) l g h = grown_none (figures_at l g)

-- a send counts once, whatever its phase
sent_once : (ph : Phase) (b : Bool) (w : ℕ) (f : Figures) → Grown f (sent_by ph b w f) 0 0 1
sent_once Reservation b w f = record { arrivals = omega arith; completions = omega arith; sent = omega arith }
sent_once Weight b w f = record { arrivals = omega arith; completions = omega arith; sent = omega arith }

-- and is counted at its guest
sent_grown : (ph : Phase) (x : Bool) (w h : ℕ) (l : List Figures) (g : ℕ) → g < length l
    → Grown (figures_at l g) (figures_at (change h (sent_by ph x w) l) g) 0 0 (one (eqb h g))
sent_grown ph x w h l g k =
    let f = figures_at l g in
    subst (λ (y : Figures). Grown f y 0 0 (one (eqb h g))) (sym (changed-at h g (sent_by ph x w) l k))
    (elim (eqb h g) as (λ b. Grown f (if b then sent_by ph x w f else f) 0 0 (one b)) [ true ↦ sent_once ph x w f | false ↦ grown_none f ])

-- an answer that is no refusal: each guest's figures grow by what the event and the answer are to it
booked_grown : (a : Answer) (e : Event) (u v : Table) (p : Page) (g : ℕ) → taken a ≡ true → g < length p.figures
    → Grown (figures_at p.figures g) (figures_at (booked a e u v p).figures g) (arrives_of g e) (ends_of g e) (sends_of g a)
unfolding booked
booked_grown Nothing e u v p g h k = counted_grown e p.figures g k
booked_grown (Sent ph x i) e u v p g h k =
    let c = counted_grown e p.figures g k in
    let s = sent_grown ph (lies_ahead u (named x i)) (waited u (named x i) (noted e p.book)) x (counted e p.figures) g (rw (counted_long e p.figures) k) in
    record {
      arrivals = omega (arith, c.arrivals, s.arrivals);
      completions = omega (arith, c.completions, s.completions);
      sent = omega (arith, c.sent, s.sent);
    }
booked_grown (Refused r) e u v p g h k = absurd (false≢true h)

-- THE BALANCE

-- A page balances where it begins.
pub balanced_first : (t : Table) → Balanced t (first_page t)
balanced_first t =
    record {
      guests = length-map t.guests (λ h. unseen);
      waiting = λ g h. rw unseen-at;
      flight = λ g h. rw unseen-at;
    }

-- An event, accepted or refused, keeps it in balance.
pub balanced_turned : (t : Table) (p : Page) (e : Event) → Balanced t p → Balanced t (turned p e)
unfolding turned
balanced_turned t p e b = go (accepted p.table e) refl
  where
    a : Answer
    a = (step p.table e).answer

    v : Table
    v = (step p.table e).table

    long : length (turned p e).figures ≡ length p.figures
    long = booked_long a e (enter p.table e) v p

    grown : accepted p.table e ≡ true → (g : ℕ) → g < length p.figures
        → Grown (figures_at p.figures g) (figures_at (turned p e).figures g) (arrives_of g e) (ends_of g e) (sends_of g a)
    grown h g k = booked_grown a e (enter p.table e) v p g (step-taken p.table e ∙ h) k

    go : (c : Bool) → accepted p.table e ≡ c → Balanced t (turned p e)
    go true h =
        record {
          guests = long ∙ b.guests ∙ sym (same_count v p.table (step-settings p.table e)) ∙ sym (ap (λ (x : Table). length x.guests) (turned-table p e));
          waiting = λ g k.
              let l : g < length p.figures = rw long at k in
              let x = grown h g l in
              omega (arith, b.waiting g l, x.arrivals, x.sent, waiting_counts g p.table e h, ap (waits_of g) (turned-table p e));
          flight = λ g k.
              let l : g < length p.figures = rw long at k in
              let x = grown h g l in
              omega (arith, b.flight g l, x.completions, x.sent, flight_counts g p.table e h, ap (flies_of g) (turned-table p e));
        }
    go false h = rw (turned-refused p e h) b

-- So a page balances after any run of events from any table.
pub balance : (t : Table) (es : List Event) → Balanced t (turned_by (first_page t) es)
balance t es = turned_keeps (Balanced t) (balanced_turned t) es (first_page t) (balanced_first t)

-- ARRIVALS

-- Of each guest, what waited and was in flight at first and what came is what waits and is in flight now and what was completed.
pub arrivals_balance : (t : Table) (p : Page) → Balanced t p → (g : ℕ) → g < length p.figures
    → waits_of g t + flies_of g t + (figures_at p.figures g).arrivals ≡ waits_of g p.table + flies_of g p.table + (figures_at p.figures g).completions
arrivals_balance t p b g h = omega (arith, b.waiting g h, b.flight g h)

-- what the program subtracts is there, and what it finds left is what waits and is in flight: f are the figures of guest g, and t the table
pub record Covered (t : Table) (g : ℕ) (f : Figures) : Type 0 where
  pub sent : sends f ≤ f.arrivals
  pub ended : f.completions ≤ sends f
  pub left-waiting : f.arrivals - sends f ≡ waits_of g t
  pub left-flying : sends f - f.completions ≡ flies_of g t

-- Where nothing of a guest waited or was in flight at first, what is left of it is found by subtracting.
pub covered : (t : Table) (p : Page) → Balanced t p → (g : ℕ) → g < length p.figures → waits_of g t ≡ 0 → flies_of g t ≡ 0
    → Covered p.table g (figures_at p.figures g)
covered t p b g h w f =
    let x = b.waiting g h in
    let y = b.flight g h in
    record { sent = omega arith; ended = omega arith; left-waiting = omega arith; left-flying = omega arith }

-- FROM A FRESH TABLE

-- the page after a run of events from a fresh table
abbrev pub page_for : (d c rule : ℕ) (ss : List Settings) → List Event → Page
page_for d c rule ss es = turned_by (first_page (fresh d c rule ss)) es

-- and its figures of guest g
abbrev pub figures_for : (d c rule : ℕ) (ss : List Settings) → List Event → ℕ → Figures
figures_for d c rule ss es g = figures_at (page_for d c rule ss es).figures g

module _ (d c rule : ℕ) (ss : List Settings) (es : List Event) where
  -- its table is the gate's
  pub fresh-table : (page_for d c rule ss es).table ≡ after (fresh d c rule ss) es
  fresh-table = turned-after es (first_page (fresh d c rule ss))

  -- and every guest has figures
  pub fresh-known : length (page_for d c rule ss es).figures ≡ length ss
  unfolding fresh
  fresh-known =
      (balance (fresh d c rule ss) es).guests
      ∙ ap (λ (x : Table). length x.guests) fresh-table
      ∙ same_count (after (fresh d c rule ss) es) (fresh d c rule ss) (run-settings es (fresh d c rule ss))
      ∙ length-map ss newcomer

  -- The accepted arrivals of a run from a fresh table are what waits and is in flight at the end, counted in the gate's tables, and what was completed.
  pub fresh_arrivals : (g : ℕ) → g < length ss
      → (figures_for d c rule ss es g).arrivals ≡ waits_of g (after (fresh d c rule ss) es) + flies_of g (after (fresh d c rule ss) es) + (figures_for d c rule ss es g).completions
  unfolding fresh
  fresh_arrivals g h =
      sym (zero-add (figures_for d c rule ss es g).arrivals)
      ∙ arrivals_balance (fresh d c rule ss) (page_for d c rule ss es) (balance (fresh d c rule ss) es) g (rw fresh-known h)
      ∙ ap (λ (x : Table). waits_of g x + flies_of g x + (figures_for d c rule ss es g).completions) fresh-table

  -- And what is left is found by subtracting.
  pub fresh_covered : (g : ℕ) → g < length ss → Covered (after (fresh d c rule ss) es) g (figures_for d c rule ss es g)
  unfolding fresh
  fresh_covered g h =
      subst (λ (x : Table). Covered x g (figures_for d c rule ss es g)) fresh-table
      (covered (fresh d c rule ss) (page_for d c rule ss es) (balance (fresh d c rule ss) es) g (rw fresh-known h) refl refl)
