-- What an arrival has to know of the waiting requests: what waits of its guest, and the smallest and the largest share tag.
use Rattle.std.specs.Prelude.{ℕ, max, Bool, List, [], ◌∷◌, map, if◌then◌else◌}
use Rattle.lists.specs.Words.{empty}
use Rattle.rules.specs.Tables.{Request, mine, name, lacks}
use Rattle.rules.specs.declared.Flight.{Flight}
use Rattle.table.specs.Columns.{STAG, waiting_at}
use Rattle.table.specs.View.{waiting_of}
use Rattle.walks.specs.declared.survey.Own.{Own}
use Rattle.walks.specs.declared.survey.Own.TheVariants.{Repeated, Waits, Idle}

-- the request f waits already; else something of its guest does; else nothing does
unfoldable pub own_of : Flight → List Request → Own
own_of f w = if lacks f (map name w) then (if empty (mine f.guest w) then Idle else Waits) else Repeated

-- nothing of guest g stands in the first n rows: the guest is idle
abbrev pub idle_in : List ℕ → (n g : ℕ) → Bool
idle_in ws n g = empty (mine g (waiting_of ws n))

-- the share tag of waiting row k
abbrev pub tag_of : List ℕ → ℕ → ℕ
tag_of ws k = waiting_at ws k STAG

-- the largest number of the list, 0 where it has none
unfoldable pub highest : List ℕ → ℕ
highest [] = 0
highest (x ∷ l) = max x (highest l)
