-- The book of what is under way: which requests were accepted and are not sent yet, and when each was accepted. It is read off the events and
-- their answers alone.
use Rattle.std.specs.Prelude.{List, [], ◌∷◌, ◌++◌, ℕ, if◌then◌else◌}
use Rattle.lists.specs.Words.{without}
use Rattle.rules.specs.Tables.{same}
use Rattle.rules.specs.declared.Flight.{Flight}
use Rattle.rules.specs.declared.Event.{Event}
use Rattle.rules.specs.declared.Event.TheVariants.{Arrival, Completion, Tick}

-- an entry of the book: whose request, its id, and the time of its acceptance
pub record Entry : Type 0 where
  pub guest : ℕ
  pub id : ℕ
  pub time : ℕ

-- the name of the request that an entry is of
abbrev pub called : Entry → Flight
called n = record { guest = n.guest; id = n.id }

-- an accepted event is noted: the request that an arrival brings, last in the book; of others nothing
abbrev pub noted : Event → List Entry → List Entry
noted (Arrival a now) b = b ++ (record { guest = a.guest; id = a.id; time = now } ∷ [])
noted (Completion f now) b = b
noted (Tick now) b = b

-- the request named f was sent, and its entry is struck
abbrev pub struck : Flight → List Entry → List Entry
struck f b = without (λ n. same f (called n)) b

-- when the request named f was accepted
abbrev pub accepted_at : Flight → List Entry → ℕ
accepted_at f [] = 0
accepted_at f (n ∷ b) = if same f (called n) then n.time else accepted_at f b
