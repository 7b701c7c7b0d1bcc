use Prim.Native.Nat.{◌*◌, ◌≤◌}
use lib.ListN.{take}
use Rattle.pages.specs.Standing.{stand_of, Firm}
use Rattle.rolls.proofs.Pumping.{Pumping}
use Rattle.rolls.proofs.pump.Given as goal

abbrev pub invariant-loop-turn : goal.invariant-loop-turn
invariant-loop-turn l =
    (l.have ≤ 4096) × (l.done ≤ 4096 * l._turn) × Firm l.done l.gate l.guests l.waiting l.flight l.book l.figures
    × Pumping l.log (stand_of l.version (take l.have l.buffer) l.gate l.guests l.waiting l.flight l.book l.figures) l._turn
