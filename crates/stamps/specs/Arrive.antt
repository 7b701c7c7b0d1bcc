-- What the functions of an arrival ask and answer: the tags of the request, and what is known of it before it is placed.
use Rattle.std.specs.Prelude.{ℕ, ◌+◌, ◌*◌, ◌≤◌, ◌<◌, ◌≡◌, Bool, true, List, length, get_or}
use Rattle.rules.specs.Numbers.{ceiling, most_credit, most_cost, most_delta, idle_bound}
use Rattle.rules.specs.Tables.{Request, reserved, limited, lacks, names}
use Rattle.rules.specs.Sound.{fair, spread}
use Rattle.rules.specs.declared.Guest.{Guest}
use Rattle.rules.specs.declared.Arriving.{Arriving}
use Rattle.rules.specs.Events.{called_by, tag_if, share_tag}
use Rattle.rules.specs.declared.Gate.{Gate}
use Rattle.table.specs.Columns.{guest_wide, waiting_wide, most_capacity, LIMIT, RNEXT, LNEXT, SNEXT, CREDIT, guest_at}
use Rattle.table.specs.View.{table_of}
use Rattle.moves.specs.Moves.{appended, followed}
use Rattle.table.specs.Does.{placed_gate}
use Rattle.tags.specs.declared.Stamp.{Stamp}

-- the tags of a request of the guest h that arrives now
abbrev pub stamp_of : (idle : Bool) (now : ℕ) → Guest → Stamp
stamp_of idle now h =
    record {
      rtag = tag_if (reserved h.settings) now h.rnext;
      ltag = tag_if (limited h.settings) now h.lnext;
      stag = share_tag idle now h;
    }

-- the request that arrives, with these tags
abbrev pub request_of : Arriving → Stamp → Request
request_of a s = record { guest = a.guest; id = a.id; rtag = s.rtag; ltag = s.ltag; stag = s.stag; cost = a.cost }

-- the guest's row is there, its settings are in range, and its next numbers may be raised for the arrival a
pub record Stampable (gs : List ℕ) (a : Arriving) : Type 0 where
  pub row : a.guest * guest_wide + guest_wide ≤ length gs
  pub limits : guest_at gs a.guest LIMIT ≤ 1000000
  pub credits : guest_at gs a.guest CREDIT ≤ most_credit
  pub delta : a.delta ≤ most_delta
  pub rho : a.rho ≤ most_delta
  pub reservation : guest_at gs a.guest RNEXT ≤ idle_bound
  pub limit : guest_at gs a.guest LNEXT ≤ idle_bound
  pub share : guest_at gs a.guest SNEXT ≤ idle_bound

-- the guest exists, the time is neither past the ceiling nor before the last, and the cost, delta and rho are in their ranges
pub record Timely (g : Gate) (a : Arriving) (now : ℕ) : Type 0 where
  pub known : a.guest < g.guests
  pub late : now ≤ ceiling
  pub early : g.time ≤ now
  pub cheap : fair a.cost ≡ true
  pub many : spread a.delta a.rho ≡ true

-- and the name is not in use, and a place is free to wait in
pub record Ready (g : Gate) (gs ws fs : List ℕ) (a : Arriving) (now : ℕ) : Type 0 where
  pub timely : Timely g a now
  pub new : lacks (called_by a) (names (table_of g gs ws fs)) ≡ true
  pub free : g.waiting ≡ g.setup.capacity → ⊥

-- there is room for it, and its next numbers fit
pub record Placeable (g : Gate) (gs ws : List ℕ) (a : Arriving) (s : Stamp) : Type 0 where
  pub waits : g.waiting ≤ most_capacity
  pub row : g.waiting * waiting_wide + waiting_wide ≤ length ws
  pub owner : a.guest * guest_wide + guest_wide ≤ length gs
  pub limit : get_or gs (a.guest * guest_wide + LIMIT) 0 ≤ 1000000
  pub cost : a.cost ≤ most_cost
  pub rtag : s.rtag ≤ ceiling
  pub ltag : s.ltag ≤ ceiling
  pub stag : s.stag ≤ ceiling

-- the request stands last, its guest's next numbers follow it, and the gate counts it
pub record Placed (g : Gate) (gs ws : List ℕ) (a : Arriving) (now : ℕ) (s : Stamp) (h : Gate) (hs vs : List ℕ) : Type 0 where
  pub gate : h ≡ placed_gate now g
  pub guests : hs ≡ followed a.guest s.rtag s.ltag s.stag a.cost gs
  pub waiting : vs ≡ appended g.waiting (request_of a s) ws
