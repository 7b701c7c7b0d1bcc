use Rattle.std.proofs.Common.{refl}
use Rattle.arrays.specs.Counters.{row_set}
use Rattle.counters.proofs.set_row.Goals as goal

pub returns : goal.returns
unfolding row_set
returns c = refl
