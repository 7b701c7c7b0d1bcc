-- What demand 3 speaks of: who stands before a request by reservation tag, and the accepted events that find a place free; what the two rules for
-- limits share of it, and what rule 1 says. Words in quotes are demand 3's.
use Rattle.std.specs.Prelude.{◌≡◌, Bool, ◌&&◌, List, [], ◌∷◌, ◌++◌, map, ℕ, ◌<◌, ltb, leb, length, get_or, if◌then◌else◌}
use Rattle.lists.specs.Words.{filter}
use Rattle.rules.specs.Tables.{Request, Table, reserved, settings_of, name}
use Rattle.rules.specs.declared.Flight.{Flight}
use Rattle.rules.specs.Choice.{due_at, room}
use Rattle.rules.specs.Events.{enter}
use Rattle.rules.specs.declared.Event.{Event}
use Rattle.rules.specs.Refusals.{accepted}
use Rattle.rules.specs.Run.{step}
use Rattle.rules.specs.declared.Phase.TheVariants.{Reservation}
use Rattle.rules.specs.declared.Answer.{Answer}
use Rattle.rules.specs.declared.Answer.TheVariants.{Nothing, Sent}

-- q has a reservation tag: "requests of guests without a reservation have no such tag"
abbrev pub tagged : Table → Request → Bool
tagged t q = reserved (settings_of t.guests q)

-- q is "a waiting request whose reservation tag is at or before that time"
abbrev pub is_due : Table → Request → Bool
is_due t q = due_at (settings_of t.guests q) t.time q

-- the waiting requests that "stand before it by reservation tag, equal tags by order of acceptance", where those of a were accepted before x and those of b after it
abbrev pub ahead : Table → Request → (a b : List Request) → List Request
ahead t x a b = filter (λ q. tagged t q && leb q.rtag x.rtag) a ++ filter (λ q. tagged t q && ltb q.rtag x.rtag) b

-- the list with q in front of the first whose reservation tag is not smaller than its own
abbrev pub insert : Request → List Request → List Request
insert q [] = q ∷ []
insert q (p ∷ l) = if leb q.rtag p.rtag then q ∷ p ∷ l else p ∷ insert q l

-- requests that stand in order of acceptance, now "by reservation tag, equal tags by order of acceptance"
abbrev pub sorted : List Request → List Request
sorted [] = []
sorted (q ∷ l) = insert q (sorted l)

-- e is one of "the accepted events that find a place free at the array (a completion frees its own first)"
abbrev pub finds_room : Table → Event → Bool
finds_room t e = accepted t e && room (enter t e)

-- the answers to those events of a run, in order
unfoldable pub at_free : Table → List Event → List Answer
at_free t [] = []
at_free t (e ∷ es) = if finds_room t e then (step t e).answer ∷ at_free (step t e).table es else at_free (step t e).table es

-- the answer that sends q "by reservation"
abbrev pub sent_by_reservation : Request → Answer
sent_by_reservation q = Sent Reservation q.guest q.id

-- the answer that sends the request of the name f by reservation
abbrev pub by_name : Flight → Answer
by_name f = Sent Reservation f.guest f.id

-- the names s are drawn from the names l, one after the other and none twice
abbrev pub Drawn : (s l : List Flight) → Type 0
Drawn [] l = Unit {0}
Drawn (f ∷ s) l = (a : List Flight) × (b : List Flight) × (l ≡ a ++ f ∷ b) × Drawn s (a ++ b)

-- WHAT THE RULES SHARE: the answers first send some of those, then x, each by reservation, as far as there are answers. Under rule 1 none of those is passed
-- over, so they send all of them, in their order
pub record ByTurn (rule : ℕ) (those : List Request) (x : Request) (got : List Answer) : Type 0 where
  pub sent : List Flight
  pub drawn : Drawn sent (map name those)
  pub none_over : rule ≡ 1 → sent ≡ map name those
  pub some_first : (n : ℕ) → n < length sent → n < length got → get_or got n Nothing ≡ by_name (get_or sent n (name x))
  pub then_this : length sent < length got → get_or got (length sent) Nothing ≡ sent_by_reservation x

-- RULE 1: the answers "send exactly those k first, then this request at the (k+1)th, each by reservation", as far as there are answers
pub record InTurn (those : List Request) (x : Request) (got : List Answer) : Type 0 where
  pub those_first : (n : ℕ) → n < length those → n < length got → get_or got n Nothing ≡ sent_by_reservation (get_or those n x)
  pub then_this : length those < length got → get_or got (length those) Nothing ≡ sent_by_reservation x
