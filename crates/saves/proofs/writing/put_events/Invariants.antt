-- After i events the room holds the kept ones of the first i, and the list the rows of the others. Assumes nothing.
use mathlib.Core.Path.{◌≡◌}
use Rattle.lines.specs.Put.{Put}
use Rattle.salvage.specs.Fates.{last_at}
use Rattle.salvage.specs.Result.{kept_of, rows_of, flat}
use Rattle.saves.proofs.writing.put_events.Given as goal

abbrev pub invariant-loop-i : goal.invariant-loop-i
invariant-loop-i l =
    (l.last ≡ last_at l.version l.bytes l.i) × Put l.first (kept_of l.version l.bytes l.i) l.initial.room l.at l.room × Put 0 (flat (rows_of l.version l.bytes l.i)) l.initial.list l.row l.list
