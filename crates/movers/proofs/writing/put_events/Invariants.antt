use Prim.Native.Nat.{◌+◌, ◌*◌}
use mathlib.Core.Path.{◌≡◌}
use lib.ListN.{take}
use Rattle.lines.specs.Put.{Put}
use Rattle.movers.proofs.writing.put_events.Given as goal

abbrev pub invariant-loop-i : goal.invariant-loop-i
invariant-loop-i l = (l.at ≡ l.first + l.i * 14) × Put l.first (take (l.i * 14) l.bytes) l.initial.room l.at l.room
