use Prim.Native.Nat.{◌-◌, ◌≤◌}
use mathlib.Core.Path.{◌≡◌}
use lib.ListN.{length}
use Rattle.stream.proofs.Filling.{Filling}
use Rattle.stream.proofs.fill.Given as goal

abbrev pub invariant-loop-have : goal.invariant-loop-have
invariant-loop-have l = (length l.buffer ≡ length l.initial.buffer) × (l.have ≤ length l.buffer) × Filling l.have l.buffer l.initial.log l.log

abbrev pub decreases-loop-have : goal.decreases-loop-have
decreases-loop-have l = length l.buffer - l.have
