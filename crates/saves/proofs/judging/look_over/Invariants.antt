-- The tally after i events is that of the first i. Assumes nothing.
use mathlib.Core.Path.{◌≡◌}
use lib.ListN.{length}
use Rattle.salvage.specs.Fates.{last_at}
use Rattle.salvage.specs.Result.{kept_of, rows_of}
use Rattle.saves.proofs.judging.look_over.Given as goal

abbrev pub invariant-loop-i : goal.invariant-loop-i
invariant-loop-i l = (l.last ≡ last_at l.version l.bytes l.i) × (l.kept ≡ length (kept_of l.version l.bytes l.i)) × (l.rows ≡ length (rows_of l.version l.bytes l.i))
