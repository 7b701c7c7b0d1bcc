use Prim.Native.Nat.{◌*◌, ◌≤◌}
use mathlib.Core.Path.{◌≡◌}
use lib.ListN.{length}
use Rattle.lines.specs.Put.{Put}
use Rattle.tally.specs.Kept.{figures_of}
use Rattle.pages.specs.Sheet.{figures_lines}
use Rattle.pages.proofs.put_guests.Given as goal

abbrev pub invariant-loop-k : goal.invariant-loop-k
invariant-loop-k l = (l.at ≤ l.k * 231) × (length l.out ≡ length l.initial.out) × Put 0 (figures_lines 0 (figures_of l.figures l.k)) l.initial.out l.at l.out
