-- `rows::own_rows` meets its contract: either way finds the same. Assumes nothing.
use native.Mathlib.Omega.{arith}
use Rattle.enter.proofs.rows.own_rows.Goals as goal

pub own_rows-requires : goal.own_rows-requires
own_rows-requires c = (c.requires.count_le_most_capacity.0, c.requires.count_le_most_capacity.1)

pub returns-then-index-eq0 : goal.returns-then-index-eq0
returns-then-index-eq0 c = c.own_rows.ensures

pub own_rows-requires-2 : goal.own_rows-requires-2
own_rows-requires-2 c = record { count_le_most_capacity = c.requires.count_le_most_capacity; indexed = c.requires.beside (omega arith) }

pub returns : goal.returns
returns c = c.own_rows-2.ensures
