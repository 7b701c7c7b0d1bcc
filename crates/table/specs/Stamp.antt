-- The tags that an arrival gives and moves, by the numbers: whether they pass the ceiling.
use Rattle.std.specs.Prelude.{ℕ, ◌+◌, ◌-◌, Bool, true, false, leb}
use Rattle.rules.specs.Numbers.{ceiling}
use Rattle.rules.specs.Sound.{lawful}

-- a request with these tags is lawful: none passes the ceiling, whatever its cost
abbrev pub lawful_tags : (rtag ltag stag : ℕ) → Bool
lawful_tags r l s = lawful (record { guest = 0; id = 0; rtag = r; ltag = l; stag = s; cost = 0 })

-- the waiting share tags, from the least to the most, move where the guest is idle, and then none passes the ceiling
abbrev pub moves_fit : (idle : Bool) (now least most : ℕ) → Bool
moves_fit true now least most = leb (most + now - least) ceiling
moves_fit false now least most = true
