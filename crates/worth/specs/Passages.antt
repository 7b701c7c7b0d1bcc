-- The requests that a run accepted and sent, one by one: whose, at what cost, when accepted, when sent, by which phase. They are read off the events and
-- their answers alone, whoever answered: the rules, a call, or a printed trace.
use Rattle.std.specs.Prelude.{List, [], ◌∷◌, ◌++◌, map, ℕ, if◌then◌else◌}
use Rattle.rules.specs.Tables.{same}
use Rattle.rules.specs.Events.{moment}
use Rattle.rules.specs.Answers.{taken}
use Rattle.rules.specs.declared.Flight.{Flight}
use Rattle.rules.specs.declared.Phase.{Phase}
use Rattle.rules.specs.declared.Event.{Event}
use Rattle.rules.specs.declared.Event.TheVariants.{Arrival, Completion, Tick}
use Rattle.rules.specs.declared.Answer.{Answer}
use Rattle.rules.specs.declared.Answer.TheVariants.{Nothing, Sent, Refused}

-- a note of a request that was accepted: whose, its id, its cost, and the time of its acceptance
pub record Note : Type 0 where
  pub guest : ℕ
  pub id : ℕ
  pub cost : ℕ
  pub time : ℕ

-- the name of the request that a note is of
abbrev pub called : Note → Flight
called x = record { guest = x.guest; id = x.id }

-- what is noted, the latest first, when an event was accepted: the request that an arrival brings; of others nothing
abbrev pub noted : Event → List Note → List Note
noted (Arrival a now) l = record { guest = a.guest; id = a.id; cost = a.cost; time = now } ∷ l
noted (Completion f now) l = l
noted (Tick now) l = l

-- the latest note under the name f, if there is one. "an id may be used again after its completion", so the request that is sent is the one that was
-- accepted last under its name; a request that waited when the run began was not accepted in it, and has no note
abbrev pub latest : Flight → List Note → List Note
latest f [] = []
latest f (x ∷ l) = if same (called x) f then x ∷ [] else latest f l

-- the passage of a request that the run accepted and sent: whose, its cost, when it came and when it went, and by which phase
pub record Passage : Type 0 where
  pub guest : ℕ
  pub cost : ℕ
  pub came : ℕ
  pub went : ℕ
  pub phase : Phase

-- the passage of guest g's noted request that goes now
abbrev pub gone : Phase → (g now : ℕ) → Note → Passage
gone p g now x = record { guest = g; cost = x.cost; came = x.time; went = now; phase = p }

-- the passage that an answer ends: of the request that it sends, if the run accepted it
abbrev pub ended : Answer → (now : ℕ) → List Note → List Passage
ended Nothing now l = []
ended (Sent p g i) now l = map (gone p g now) (latest (record { guest = g; id = i }) l)
ended (Refused r) now l = []

-- the passages of a run of events and their answers, in order of sending, where l was noted before it. A refused event is passed over
unfoldable pub passages_from : List Note → List Event → List Answer → List Passage
passages_from l [] rs = []
passages_from l (e ∷ es) [] = []
passages_from l (e ∷ es) (r ∷ rs) =
    if taken r then ended r (moment e) (noted e l) ++ passages_from (noted e l) es rs else passages_from l es rs

-- the passages of a run
abbrev pub passages : List Event → List Answer → List Passage
passages es rs = passages_from [] es rs
