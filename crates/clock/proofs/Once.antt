-- `once`: any two outcomes that the promise of a reading admits are equal: what is told, and the record. Assumes nothing.
use Rattle.std.proofs.Common.{◌≡◌, ℕ, sym, ◌∙◌}
use Rattle.clock.specs.declared.Clock.{Clock}
use Rattle.clock.specs.declared.Told.{Told}
use Rattle.clock.specs.Reading.{doing}

pub read_once : (h k : Told × Clock) (c : Clock) (r : ℕ) → h ≡ doing c r → k ≡ doing c r → h ≡ k
read_once h k c r p q = p ∙ sym q
