-- The tags of the rows before `i` have dropped, and `after` follows the last of the guest's.
use Rattle.std.proofs.Common.{◌≡◌}
use Rattle.moves.specs.Moves.{tags_dropped, last_past}
use Rattle.drops.proofs.lower.Given as goal

abbrev pub invariant-loop-i : goal.invariant-loop-i
invariant-loop-i l = (l.waiting ≡ tags_dropped l.guest l.fall.by l.initial.waiting l.i) × (l.after ≡ last_past l.guest l.fall.by l.fall.spacing l.fall.next l.initial.waiting l.i)
