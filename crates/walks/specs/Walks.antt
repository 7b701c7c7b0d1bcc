-- What the walks over the lent rows answer: the place of the request that the choice picks, and the place of a name in flight.
use Rattle.std.specs.Prelude.{ℕ, ◌≤◌, ◌<◌, ◌/◌, min, ◌≡◌, Bool, true, false, List, ltb, eqb, length, if◌then◌else◌, Some, None, Option}
use Rattle.lists.specs.Words.{without}
use Rattle.lists.specs.Tab.{remove_at}
use Rattle.rules.specs.Numbers.{ceiling}
use Rattle.rules.specs.Tables.{Request, settings_of, same, lacks}
use Rattle.rules.specs.declared.Guest.{Guest}
use Rattle.rules.specs.declared.Flight.{Flight}
use Rattle.rules.specs.Choice.{Pick, nobody, picked, least}
use Rattle.rules.specs.Chosen.{at}
use Rattle.table.specs.Columns.{GUEST, RTAG, LTAG, STAG, waiting_wide, waiting_at}

-- every waiting request's guest is one of the first n
abbrev pub Owned : List ℕ → (count n : ℕ) → Type 0
Owned ws count n = (k : ℕ) → k < count → waiting_at ws k GUEST < n

-- within a guest no later row has a smaller tag of any kind
abbrev pub Rising : List ℕ → (count : ℕ) → Type 0
Rising ws count = (j k : ℕ) → j < k → k < count → waiting_at ws j GUEST ≡ waiting_at ws k GUEST
    → (waiting_at ws j RTAG ≤ waiting_at ws k RTAG) × (waiting_at ws j LTAG ≤ waiting_at ws k LTAG) × (waiting_at ws j STAG ≤ waiting_at ws k STAG)

-- every share tag is at most the ceiling
abbrev pub SharesFit : List ℕ → (count : ℕ) → Type 0
SharesFit ws count = (k : ℕ) → k < count → waiting_at ws k STAG ≤ ceiling

-- every limit tag is at most the ceiling
abbrev pub LimitsFit : List ℕ → (count : ℕ) → Type 0
LimitsFit ws count = (k : ℕ) → k < count → waiting_at ws k LTAG ≤ ceiling

-- the time from which a request could go under rule 1, by its guest's reservation and its tags, where an unlimited guest's limit tags are 0
unfoldable pub ready_by : (reservation rtag ltag : ℕ) → ℕ
ready_by r a l = if ltb 0 r then min l a else l

-- the same under either rule
unfoldable pub ready_under : (rule reservation rtag ltag : ℕ) → ℕ
ready_under rule r a l = if eqb rule 2 then l else ready_by r a l

-- and with the settings of its guest among these
abbrev pub ready_by_tag : (rule : ℕ) → List Guest → Request → ℕ
ready_by_tag rule gs q = ready_under rule (settings_of gs q).reservation q.rtag q.ltag

-- what a walk holds against its bound: the tag where it counts, else something past the ceiling
abbrev pub Counts : Bool → (tag t : ℕ) → Type 0
Counts true tag t = t ≡ tag
Counts false tag t = ceiling < t

-- the place of the row whose numbers begin at `at`, or none where the rows that are used end before it
unfoldable pub place_in : (at used : ℕ) → Option ℕ
place_in at used = if ltb at used then Some (at / waiting_wide) else None

-- a place that is found is one of n
abbrev pub Inside : Option ℕ → ℕ → Type 0
Inside None n = Unit {0}
Inside (Some i) n = i < n

-- the pick of a place: its request, and the others in their order
abbrev pub pick_at : Option ℕ → List Request → Pick
pick_at None rows = nobody
pick_at (Some i) rows = picked (at rows i) (remove_at i rows)

-- f is the place of the request that `least` picks, or says that it picks nobody
pub record Picks (ok : Request → Bool) (tag : Request → ℕ) (rows : List Request) (f : Option ℕ) : Type 0 where
  pub pick : least ok tag rows ≡ pick_at f rows
  pub inside : Inside f (length rows)

-- f is the first place of the name a in l, the one that a completion takes out, or says that l lacks it
abbrev pub Finds : Flight → List Flight → Option ℕ → Type 0
Finds a l None = lacks a l ≡ true
Finds a l (Some i) = (i < length l) × (lacks a l ≡ false) × (without (same a) l ≡ remove_at i l)
