-- The answers of a move and of a salvage as a host in C sees them: three numbers each.
use Rattle.std.specs.Prelude.{ℕ, List, [], ◌∷◌}
use Rattle.hands.specs.declared.Carried.{Carried}
use Rattle.hands.specs.declared.Mended.{Mended}

-- the three numbers in order, as `moved_shown` has them: 0 or the refusal, the bytes written, and the number of the event that refused the move
abbrev pub three_of : Carried → List ℕ
three_of r = r.refusal ∷ r.written ∷ r.event ∷ []

-- the three numbers in order, as `salvaged_shown` has them: 0 or the refusal, the bytes written, and the rows written
abbrev pub mended_of : Mended → List ℕ
mended_of r = r.refusal ∷ r.bytes ∷ r.rows ∷ []
