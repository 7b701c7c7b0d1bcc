-- The waits of a guest in a run, one by one. Document 02, K1: "the longest and the summed wait from arrival to send in nanoseconds (0 where nothing
-- was sent)".
use Rattle.std.specs.Prelude.{List, [], ◌∷◌, ◌++◌, ℕ, ◌+◌, max, eqb, if◌then◌else◌}
use Rattle.rules.specs.Tables.{Table}
use Rattle.rules.specs.Events.{enter}
use Rattle.rules.specs.Run.{step}
use Rattle.rules.specs.declared.Event.{Event}
use Rattle.rules.specs.declared.Answer.{Answer}
use Rattle.rules.specs.declared.Answer.TheVariants.{Nothing, Sent, Refused}
use Rattle.book.specs.Book.{noted}
use Rattle.book.specs.Page.{Page, named, waited, turned}

-- the wait that an answer ends for guest g, if it sends one of its requests
abbrev pub wait_in : ℕ → Answer → Event → (u : Table) → Page → List ℕ
wait_in g Nothing e u p = []
wait_in g (Sent phase h i) e u p = if eqb h g then waited u (named h i) (noted e p.book) ∷ [] else []
wait_in g (Refused r) e u p = []

-- the waits of guest g's sends in a run of events, in order
unfoldable pub waits_by : ℕ → Page → List Event → List ℕ
waits_by g p [] = []
waits_by g p (e ∷ es) = wait_in g (step p.table e).answer e (enter p.table e) p ++ waits_by g (turned p e) es

-- the sum of the numbers
abbrev pub sum : List ℕ → ℕ
sum [] = 0
sum (n ∷ l) = n + sum l

-- the largest of the numbers, 0 where there is none
abbrev pub largest : List ℕ → ℕ
largest [] = 0
largest (n ∷ l) = max n (largest l)
