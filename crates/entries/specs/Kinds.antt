-- One kind of tag of every guest, by the numbers of the tables. A kind is told by the column of its setting: RESERVATION, LIMIT or SHARES.
use Rattle.std.specs.Prelude.{ℕ, zero, suc, ◌+◌, ◌*◌, ◌≤◌, ◌<◌, ◌≡◌, Bool, true, List, leb, eqb, length, get_or, if◌then◌else◌}
use Rattle.lists.specs.Words.{all}
use Rattle.rules.specs.Numbers.{down, up, idle_bound}
use Rattle.rules.specs.Tables.{Request, reserved, limited, rspacing, lspacing, sspacing, owner, mine, name}
use Rattle.rules.specs.declared.Guest.{Guest}
use Rattle.rules.specs.Sound.{kept, no_gap}
use Rattle.table.specs.Columns.{RESERVATION, LIMIT, RNEXT, guest_wide, waiting_wide, most_guests, guest_at}
use Rattle.table.specs.View.{guests_of, waiting_of}
use Rattle.entries.specs.Tests.{settled_guest, named, fits}

-- the tag x may stand where the gap is d, which is 0 where the guest lacks the kind, and the tag before it asks for at least f
abbrev pub passes : (d f x : ℕ) → Bool
passes d f x = if eqb d 0 then eqb x 0 else leb f x

-- n may be the next number where the gap is d, or the setting, which is 0 where the gap is, and the last waiting tag asks for f, which is 0 where nothing waits
abbrev pub ends : (d f n : ℕ) → Bool
ends d f n = if eqb d 0 then eqb n 0 else (if eqb f 0 then leb n idle_bound else eqb n f)

-- how far apart the tags of a kind stand at cost 1, by the guest's setting n of that kind
abbrev pub gap_of : (kind setting : ℕ) → ℕ
gap_of k n = if eqb k LIMIT then up n else down n

-- what the next tag of a kind keeps of the distance that the next number keeps, cost times the gap: document 02, K14: "Soundness then asks only that a guest's
-- reservation tags do not fall"
abbrev pub near_of : (kind distance : ℕ) → ℕ
near_of k x = if eqb k RESERVATION then 0 else x

-- guest g's gap of a kind
abbrev pub gap_at : (gs : List ℕ) (kind g : ℕ) → ℕ
gap_at gs k g = gap_of k (guest_at gs g k)

-- the gaps of those of the first guests that have a floor stand in a list
pub record Gaps (gap : ℕ → ℕ) (known : ℕ) (gaps floors : List ℕ) : Type 0 where
  pub long : length gaps ≡ most_guests
  pub same : (g : ℕ) → g < known → (get_or floors g 0 ≡ 0 → ⊥) → get_or gaps g 0 ≡ gap g

-- guest g's next number of a kind
abbrev pub next_at : (gs : List ℕ) (kind g : ℕ) → ℕ
next_at gs k g = guest_at gs g (RNEXT + k)

-- guest g's next number of a kind is right, by its setting and by what its last waiting tag asks for, the floor
abbrev pub ends_at : (gs : List ℕ) (kind : ℕ) (floors : List ℕ) → ℕ → Bool
ends_at gs k floors g = ends (guest_at gs g k) (get_or floors g 0) (next_at gs k g)

-- one kind of `orderly`
abbrev pub kept_of : ℕ → Guest → List Request → Bool
kept_of zero h l = kept (reserved h.settings) Request.rtag no_gap (rspacing h.settings) l h.rnext
kept_of (suc zero) h l = kept (limited h.settings) Request.ltag (lspacing h.settings) (lspacing h.settings) l h.lnext
kept_of (suc (suc k)) h l = kept true Request.stag (sspacing h.settings) (sspacing h.settings) l h.snext

-- what was tested of both tables before their order is
pub record Tested (gs : List ℕ) (known : ℕ) (ws : List ℕ) (count : ℕ) : Type 0 where
  pub few : known ≤ most_guests
  pub guest_room : known * guest_wide ≤ length gs
  pub waiting_room : count * waiting_wide ≤ length ws
  pub is_settled : all settled_guest (guests_of gs known) ≡ true
  pub is_named : all (λ q. named known (name q)) (waiting_of ws count) ≡ true
  pub is_fit : all fits (waiting_of ws count) ≡ true

-- one kind of guest g is in order, by the numbers of both tables
abbrev pub kept_all : (gs : List ℕ) (known : ℕ) (ws : List ℕ) (count kind : ℕ) → ℕ → Bool
kept_all gs known ws count kind g = kept_of kind (owner (guests_of gs known) g) (mine g (waiting_of ws count))
