use mathlib.Core.Path.{◌≡◌}
use Rattle.lines.specs.Put.{Put}
use Rattle.trace.specs.Header.{body}
use Rattle.moved.specs.Result.{records_to}
use Rattle.movers.proofs.writing.put_records.Given as goal

abbrev pub invariant-loop-k : goal.invariant-loop-k
invariant-loop-k l = (l.at ≡ body l.to l.k) × Put l.first (records_to l.to l.version l.trace 0 l.k) l.initial.room l.at l.room
