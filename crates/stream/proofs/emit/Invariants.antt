use Prim.Native.Nat.{◌-◌, ◌≤◌}
use lib.ListN.{length, take}
use Rattle.port.specs.Moves.{Goes}
use Rattle.stream.specs.Runs.{written}
use Rattle.stream.proofs.emit.Given as goal

abbrev pub invariant-loop-done : goal.invariant-loop-done
invariant-loop-done l = (l.done ≤ length l.bytes) × Goes (written (take l.done l.bytes)) l.initial.log l.log

abbrev pub decreases-loop-done : goal.decreases-loop-done
decreases-loop-done l = length l.bytes - l.done
