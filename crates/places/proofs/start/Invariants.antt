-- The guests before `i` are begun.
use Rattle.std.proofs.Common.{◌≡◌}
use Rattle.moves.specs.Moves.{started}
use Rattle.places.proofs.start.Given as goal

abbrev pub invariant-loop-i : goal.invariant-loop-i
invariant-loop-i l = l.guests ≡ started l.settings l.i l.initial.guests
