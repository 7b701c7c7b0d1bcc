-- DEMAND 3 at each array of a house: a waiting request whose reservation is due goes by reservation, after exactly those that stand before it, over any run of calls
-- at any of the arrays. Assumes nothing.
use Prim.Native.Nat.{ℕ, ◌<◌}
use mathlib.Core.Path.{◌≡◌}
use mathlib.Core.Bool.{true}
use mathlib.Core.List.{List}
use lib.ListN.{length}
use Rattle.lists.specs.Words.{all}
use Rattle.turns.specs.TurnAt.{TurnKept}
use Rattle.gate.specs.Promise.{numbers}
use Rattle.gate.specs.Calls.{shows, firm}
use Rattle.gate.proofs.Lending.{numbers-lawful}
use Rattle.gate.proofs.Demand3.{calls_demand_3_places}
use Rattle.houses.specs.House.{House, Deed, array_at, narrow_deed, free_at}
use Rattle.houses.proofs.Runs.{handed_to, array-free, handed-narrow}

-- demand 3 by places: of an array whose tables are long enough and sound and any place there, whatever is called at this array and at others meanwhile
pub house_demand_3 : (h : House) (ds : List Deed) (a : ℕ) → a < length h.arrays → firm numbers (array_at h a).host ≡ true → all narrow_deed ds ≡ true
    → (i : ℕ) → TurnKept (shows numbers (array_at h a).host) i (free_at a h ds)
house_demand_3 h ds a l f n i =
    rw (array-free a ds h l) (calls_demand_3_places numbers numbers-lawful (array_at h a).host (handed_to a h ds) f (handed-narrow a ds h n) i)
