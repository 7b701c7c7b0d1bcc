use Prim.Native.Nat.{◌*◌, ◌≤◌}
use mathlib.Core.Path.{◌≡◌}
use lib.ListN.{length, take}
use Rattle.table.specs.View.{Known}
use Rattle.feed.specs.Promise.{place_of}
use Rattle.prints.proofs.Pumping.{Pumping}
use Rattle.pumps.proofs.pump.Given as goal

abbrev pub invariant-loop-turn : goal.invariant-loop-turn
invariant-loop-turn l =
    (length l.buffer ≡ 4096) × (length l.guests ≡ length l.initial.guests) × (length l.waiting ≡ length l.initial.waiting) × (length l.flight ≡ length l.initial.flight)
    × (l.have ≤ 4096) × (l.done ≤ 292 * l._turn) × Known l.gate l.guests l.waiting l.flight
    × Pumping l.log (place_of l.version (take l.have l.buffer) l.done l.gate l.guests l.waiting l.flight) l._turn
