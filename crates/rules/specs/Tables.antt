-- Document 01, "The tables": guests, waiting requests, requests in flight, and the words about them. What makes a table sound is in Sound.antt,
-- and a fresh one in Run.antt.
use Rattle.std.specs.Prelude.{Bool, not, ◌&&◌, List, ◌++◌, map, ℕ, ◌*◌, ltb, eqb, get_or}
use Rattle.lists.specs.Words.{all, filter, empty}
use Rattle.rules.specs.Numbers.{down, up}
-- "Per guest: reservation .. 0 meaning none; limit .. 0 meaning unlimited; shares", and document 02, K6: "Each guest record gains a credit c": the fields
-- reservation, limit, shares, credit
pub use Rattle.rules.specs.declared.Settings.{Settings}
-- "A guest record holds its settings and three next numbers: the tag its next request would get were time not looked at.": settings, rnext,
-- lnext, snext
pub use Rattle.rules.specs.declared.Guest.{Guest}
-- a request in flight: its guest, and its id. The same two numbers name any request
pub use Rattle.rules.specs.declared.Flight.{Flight}
-- "Depth (places at the array)", "Capacity (waiting places)"; document 02, K7: "the rule is chosen at opening and kept in the table": depth, capacity and
-- rule, what is set at opening for the whole array
pub use Rattle.rules.specs.declared.Setup.{Setup}

-- a waiting request: whose, its id, its reservation, limit and share tag, and by document 02, K8: "Waiting requests keep their cost"
pub record Request : Type 0 where
  pub guest : ℕ
  pub id : ℕ
  pub rtag : ℕ
  pub ltag : ℕ
  pub stag : ℕ
  pub cost : ℕ

-- "Waiting requests stand in order of acceptance .. Requests in flight stand in order of sending"
pub record Table : Type 0 where
  pub setup : Setup
  pub time : ℕ
  pub guests : List Guest
  pub waiting : List Request
  pub flight : List Flight

-- the guest has a reservation: "0 meaning none"
abbrev pub reserved : Settings → Bool
reserved s = ltb 0 s.reservation

-- the guest has a limit: "0 meaning unlimited"
abbrev pub limited : Settings → Bool
limited s = ltb 0 s.limit

-- "Spacings: reservation 1,000,000,000 / r rounded down"
abbrev pub rplain : Settings → ℕ
rplain s = down s.reservation

-- "limit 1,000,000,000 / l rounded up"
abbrev pub lplain : Settings → ℕ
lplain s = up s.limit

-- "shares 1,000,000,000 / w rounded down"
abbrev pub splain : Settings → ℕ
splain s = down s.shares

-- from the reservation tag of a guest's request q to its next one, document 02, K8: "cost times spacing"
abbrev pub rspacing : Settings → Request → ℕ
rspacing s q = q.cost * rplain s

-- from limit tag to limit tag likewise
abbrev pub lspacing : Settings → Request → ℕ
lspacing s q = q.cost * lplain s

-- and from share tag to share tag
abbrev pub sspacing : Settings → Request → ℕ
sspacing s q = q.cost * splain s

-- the guest that stands where there is none
abbrev pub nobodys : Guest
nobodys = record { settings = record { reservation = 0; limit = 0; shares = 0; credit = 0 }; rnext = 0; lnext = 0; snext = 0 }

-- guest number g of the table, counted from 0
abbrev pub owner : List Guest → ℕ → Guest
owner gs g = get_or gs g nobodys

-- the settings of the guest that q is a request of
abbrev pub settings_of : List Guest → Request → Settings
settings_of gs q = (owner gs q.guest).settings

-- q is a request of guest g
abbrev pub of : ℕ → Request → Bool
of g q = eqb q.guest g

-- what waits of guest g, in order of acceptance
abbrev pub mine : ℕ → List Request → List Request
mine g w = filter (of g) w

-- "A guest is idle when nothing of it waits; requests in flight do not count."
unfoldable pub idle : Table → ℕ → Bool
idle t g = empty (mine g t.waiting)

-- the name of a waiting request
abbrev pub name : Request → Flight
name q = record { guest = q.guest; id = q.id }

-- the same guest and the same id
abbrev pub same : Flight → Flight → Bool
same a b = eqb a.guest b.guest && eqb a.id b.id

-- nothing in the list has the name a
abbrev pub lacks : Flight → List Flight → Bool
lacks a l = all (λ b. not (same a b)) l

-- the names of all requests, waiting and then in flight
abbrev pub names : Table → List Flight
names t = map name t.waiting ++ t.flight
