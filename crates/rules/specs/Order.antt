-- What comes, waits and leaves of one guest, to say that "Requests of one guest always leave in order of acceptance".
use Rattle.std.specs.Prelude.{List, [], ◌∷◌, ◌++◌, map, ℕ, eqb, if◌then◌else◌}
use Rattle.rules.specs.Tables.{Request, Table, mine}
use Rattle.rules.specs.Events.{Event, Arrival, Completion, Tick}
use Rattle.rules.specs.Refusals.{accepted}
use Rattle.rules.specs.Run.{step}
use Rattle.rules.specs.declared.Answer.{Answer}
use Rattle.rules.specs.declared.Answer.TheVariants.{Nothing, Sent, Refused}

-- the ids of guest g that wait, in order of acceptance
abbrev pub waits : ℕ → Table → List ℕ
waits g t = map Request.id (mine g t.waiting)

-- the id of guest g that an event brings, if it brings one
abbrev pub brings : ℕ → Event → List ℕ
brings g (Arrival a now) = if eqb a.guest g then a.id ∷ [] else []
brings g (Completion f now) = []
brings g (Tick now) = []

-- the id of guest g that an answer sends, if it sends one
abbrev pub sends : ℕ → Answer → List ℕ
sends g Nothing = []
sends g (Sent p h i) = if eqb h g then i ∷ [] else []
sends g (Refused r) = []

-- the ids of guest g that a run accepts, in order of acceptance
unfoldable pub came : ℕ → Table → List Event → List ℕ
came g t [] = []
came g t (e ∷ es) = (if accepted t e then brings g e else []) ++ came g (step t e).table es

-- the ids of guest g that a list of answers sends, in order of sending
abbrev pub left : ℕ → List Answer → List ℕ
left g [] = []
left g (a ∷ l) = sends g a ++ left g l
