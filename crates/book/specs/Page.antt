-- A page: the table, the book and the figures of every guest, and how an event turns it. What is sent, the answer says; what the limit tag of
-- the request was, the table as the choice found it.
use Rattle.std.specs.Prelude.{Bool, ◌&&◌, List, [], ◌∷◌, ℕ, ◌-◌, ltb, if◌then◌else◌}
use Rattle.rules.specs.Tables.{Request, Table, limited, owner, name, same}
use Rattle.rules.specs.Events.{enter}
use Rattle.rules.specs.Run.{step}
use Rattle.rules.specs.declared.Flight.{Flight}
use Rattle.rules.specs.declared.Event.{Event}
use Rattle.rules.specs.declared.Answer.{Answer}
use Rattle.rules.specs.declared.Answer.TheVariants.{Nothing, Sent, Refused}
use Rattle.book.specs.Book.{Entry, noted, struck, accepted_at}
use Rattle.book.specs.Figures.{Figures, unseens, change, sent_by, counted}

-- the table, the book, and the figures of each guest in order
pub record Page : Type 0 where
  pub table : Table
  pub book : List Entry
  pub figures : List Figures

-- the name of guest g and id i
abbrev pub named : (g i : ℕ) → Flight
named g i = record { guest = g; id = i }

-- the limit tag of the waiting request named f
abbrev pub ltag_of : Flight → List Request → ℕ
ltag_of f [] = 0
ltag_of f (q ∷ w) = if same f (name q) then q.ltag else ltag_of f w

-- at the table u the limit tag of the request named f lies ahead of the time. A guest without a limit has no such tag
unfoldable pub lies_ahead : Table → Flight → Bool
lies_ahead u f = limited (owner u.guests f.guest).settings && ltb u.time (ltag_of f u.waiting)

-- the request named f goes at the table u, which the choice found: how long it waited
abbrev pub waited : Table → Flight → List Entry → ℕ
waited u f b = u.time - accepted_at f b

-- the page after an event: u is the table as the choice found it, v the table afterwards. A refused event is passed over
unfoldable pub booked : Answer → Event → (u v : Table) → Page → Page
booked Nothing e u v p = record { table = v; book = noted e p.book; figures = counted e p.figures }
booked (Sent phase g i) e u v p =
    record {
      table = v;
      book = struck (named g i) (noted e p.book);
      figures = change g (sent_by phase (lies_ahead u (named g i)) (waited u (named g i) (noted e p.book))) (counted e p.figures);
    }
booked (Refused r) e u v p = p

-- one event turns the page
unfoldable pub turned : Page → Event → Page
turned p e = booked (step p.table e).answer e (enter p.table e) (step p.table e).table p

-- the page after a run of events
unfoldable pub turned_by : Page → List Event → Page
turned_by p [] = p
turned_by p (e ∷ es) = turned_by (turned p e) es

-- the page on which a run begins: this table, an empty book, and nothing seen of any guest
abbrev pub first_page : Table → Page
first_page t = record { table = t; book = []; figures = unseens t.guests }
