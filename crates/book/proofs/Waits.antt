-- The book over any run: it has the waiting requests in their order, and no time ahead, so a wait is always that of the request that is sent.
-- Assumes nothing.
use mathlib.Core.Path.{◌≡◌, refl, sym, ap, subst, ◌∙◌}
use mathlib.Core.Bool.{Bool, true, false}
use mathlib.Core.List.{List, [], ◌∷◌, ◌++◌, map}
use Prim.Native.Nat.{ℕ, ◌+◌, ◌≤◌, ◌<◌}
use native.Mathlib.Omega.{arith}
use lib.Dec.{leb}
use lib.ListN.{length}
use borrow.Author.Tests.{leb-true, le-leb}
use Rattle.lists.specs.Words.{all}
use Rattle.lists.specs.WordsLaws.{both, join, all_append, all-at, all_without}
use Rattle.rules.specs.Tables.{Table, name, same}
use Rattle.rules.specs.Choice.{Result, choice}
use Rattle.rules.specs.Events.{moment, enter}
use Rattle.rules.specs.Refusals.{accepted}
use Rattle.rules.specs.Run.{step, fresh}
use Rattle.rules.specs.declared.Settings.{Settings}
use Rattle.rules.specs.declared.Flight.{Flight}
use Rattle.rules.specs.declared.Phase.{Phase}
use Rattle.rules.specs.declared.Event.{Event}
use Rattle.rules.specs.declared.Event.TheVariants.{Arrival, Completion, Tick}
use Rattle.rules.specs.declared.Answer.{Answer}
use Rattle.rules.specs.declared.Answer.TheVariants.{Nothing, Sent, Refused}
use Rattle.rules.proofs.EnterSound.{accepted-later, enter_time, enter-sound}
use Rattle.rules.proofs.StepSound.{accepted-step}
use Rattle.rules.proofs.Bounds.{accepted_time}
use Rattle.book.specs.Book.{Entry, called, noted}
use Rattle.book.specs.Page.{Page, named, waited, booked, turned, turned_by, first_page}
use Rattle.book.proofs.Places.{SentFrom, choice-goes, choice_nothing, choice_refuses_none, comes, enter-names, noted-names, no_entry, entry, book_at, book_long_lem, sent_since, sent_book}
use Rattle.book.proofs.Turning.{turned-refused, turned-table, turned_keeps}

-- THE NAMES OF THE BOOK

-- the book has the waiting requests in their order
abbrev pub Follows : Page → Type 0
Follows p = map called p.book ≡ map name p.table.waiting

-- an event that is noted and entered leaves it so
pub noted-follows : (p : Page) (e : Event) → Follows p → map called (noted e p.book) ≡ map name (enter p.table e).waiting
noted-follows p e f = noted-names e p.book ∙ ap (◌++ comes e) f ∙ sym (enter-names p.table e)

module _ (p : Page) (e : Event) (h : accepted p.table e ≡ true) where
  -- the table that the choice finds
  abbrev found : Table
  found = enter p.table e

  -- the answer to an accepted event is the choice's
  answer_is : {a : Answer} → (step p.table e).answer ≡ a → (choice found).answer ≡ a
  answer_is k = sym (ap Result.answer (accepted-step p.table e h)) ∙ k

  -- and so is the table
  table_is : (choice found).table ≡ (step p.table e).table
  table_is = sym (ap Result.table (accepted-step p.table e h))

  -- where an accepted event sends a request, it stood at one place
  pub step-goes : (ph : Phase) (g i : ℕ) → (step p.table e).answer ≡ Sent ph g i → SentFrom found (named g i) (step p.table e).table
  step-goes ph g i k = subst (SentFrom found (named g i)) table_is (choice-goes found (enter-sound p.table e h) ph g i (answer_is k))

  -- the book after an accepted event
  booked-follows : Follows p → (a : Answer) → (step p.table e).answer ≡ a
      → map called (booked a e found (step p.table e).table p).book ≡ map name (step p.table e).table.waiting
  unfolding booked
  booked-follows f Nothing k = noted-follows p e f ∙ ap (λ (t : Table). map name t.waiting) (sym (choice_nothing found (answer_is k)) ∙ table_is)
  booked-follows f (Sent ph g i) k =
      sent_book found (named g i) (step p.table e).table (step-goes ph g i k) (noted e p.book) (noted-follows p e f)
  booked-follows f (Refused r) k = absurd (choice_refuses_none found r (answer_is k))

-- An event keeps the book to the waiting requests.
pub follows-turned : (p : Page) (e : Event) → Follows p → Follows (turned p e)
unfolding turned
follows-turned p e f = go (accepted p.table e) refl
  where
    go : (b : Bool) → accepted p.table e ≡ b → Follows (turned p e)
    go true h =
        booked-follows p e h f (step p.table e).answer refl ∙ ap (λ (t : Table). map name t.waiting) (sym (turned-table p e))
    go false h = rw (turned-refused p e h) f

-- The book has exactly the waiting requests, in their order, after any run of events from a page where it has them,
pub book_waits : (es : List Event) (p : Page) → Follows p → Follows (turned_by p es)
book_waits es p f = turned_keeps Follows follows-turned es p f

-- and so from a fresh table.
pub fresh_book : (d c rule : ℕ) (ss : List Settings) (es : List Event) → Follows (turned_by (first_page (fresh d c rule ss)) es)
unfolding fresh
fresh_book d c rule ss es = book_waits es (first_page (fresh d c rule ss)) refl

-- THE TIMES OF THE BOOK

-- every entry's time is at most now
abbrev pub up_to : (now : ℕ) → List Entry → Bool
up_to now b = all (λ n. leb n.time now) b

-- no entry's time is ahead of the table's
abbrev pub Past : Page → Type 0
Past p = up_to p.table.time p.book ≡ true

-- a later time is as good
up-to-later : (m n : ℕ) (b : List Entry) → m ≤ n → up_to m b ≡ true → up_to n b ≡ true
up-to-later m n [] h k = refl
up-to-later m n (x ∷ b) h k =
    let c = both (leb x.time m) (up_to m b) k in
    let l = leb-true x.time m c.0 in
    join (le-leb x.time n (omega arith)) (up-to-later m n b h c.1)

-- an event that is noted has its own time
noted-up-to : (e : Event) (b : List Entry) → up_to (moment e) b ≡ true → up_to (moment e) (noted e b) ≡ true
noted-up-to (Arrival a now) b h = all_append (λ n. leb n.time now) b (record { guest = a.guest; id = a.id; time = now } ∷ []) h (join (le-leb now now (omega arith)) refl)
noted-up-to (Completion f now) b h = h
noted-up-to (Tick now) b h = h

-- what an answer strikes is an entry less
booked-up-to : (a : Answer) (e : Event) (u v : Table) (p : Page) → up_to (moment e) p.book ≡ true → up_to (moment e) (booked a e u v p).book ≡ true
unfolding booked
booked-up-to Nothing e u v p h = noted-up-to e p.book h
booked-up-to (Sent ph g i) e u v p h =
    all_without (λ n. leb n.time (moment e)) (λ n. same (named g i) (called n)) (noted e p.book) (noted-up-to e p.book h)
booked-up-to (Refused r) e u v p h = h

-- An event leaves no entry's time ahead of the table's.
pub past_turned : (p : Page) (e : Event) → Past p → Past (turned p e)
unfolding turned
past_turned p e f = go (accepted p.table e) refl
  where
    go : (b : Bool) → accepted p.table e ≡ b → Past (turned p e)
    go true h =
        subst (λ (n : ℕ). up_to n (turned p e).book ≡ true) (sym (ap Table.time (turned-table p e) ∙ accepted_time p.table e h))
        (booked-up-to (step p.table e).answer e (enter p.table e) (step p.table e).table p
        (up-to-later p.table.time (moment e) p.book (accepted-later p.table e h) f))
    go false h = rw (turned-refused p e h) f

-- So it is after any run of events.
pub book_past : (es : List Event) (p : Page) → Past p → Past (turned_by p es)
book_past es p f = turned_keeps Past past_turned es p f

-- A WAIT

-- the request named f stood in the book b, at one place, and from its acceptance to now it waited so long
pub record Stood (b : List Entry) (f : Flight) (now wait : ℕ) : Type 0 where
  pub place : ℕ
  pub inside : place < length b
  pub its_own : called (entry b place) ≡ f
  pub since : (entry b place).time + wait ≡ now

-- What is counted as the wait of a request that is sent is the time from its own acceptance to the send.
pub sent_waited : (p : Page) → Follows p → Past p → (e : Event) → accepted p.table e ≡ true → (ph : Phase) (g i : ℕ) → (step p.table e).answer ≡ Sent ph g i
    → Stood (noted e p.book) (named g i) (moment e) (waited (enter p.table e) (named g i) (noted e p.book))
sent_waited p f q e h ph g i k =
    let u = enter p.table e in
    let b = noted e p.book in
    let c = step-goes p e h ph g i k in
    let m = noted-follows p e f in
    let l : c.place < length b = rw (book_long_lem u.waiting b m) c.inside in
    let early : up_to (moment e) b ≡ true = noted-up-to e p.book (up-to-later p.table.time (moment e) p.book (accepted-later p.table e h) q) in
    record {
      place = c.place;
      inside = l;
      its_own = book_at u.waiting b m c.place ∙ c.named;
      since =
          omega (
            arith,
            sent_since u (named g i) (step p.table e).table c b m,
            enter_time p.table e,
            leb-true (entry b c.place).time (moment e) (all-at (λ n. leb n.time (moment e)) b no_entry early c.place l),
          );
    }
