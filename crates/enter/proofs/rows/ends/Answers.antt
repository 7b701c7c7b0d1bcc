-- `rows::ends` meets its contract: either way finds the same. Assumes nothing.
use Rattle.enter.proofs.rows.ends.Goals as goal

pub ends-requires : goal.ends-requires
ends-requires c = (c.requires.count_le_most_capacity.0, c.requires.count_le_most_capacity.1)

pub returns-then-is_walked : goal.returns-then-is_walked
returns-then-is_walked c = c.ends.ensures

pub ends-requires-2 : goal.ends-requires-2
ends-requires-2 c = record { count_le_most_capacity = c.requires.count_le_most_capacity; owned = c.requires.owned; indexed = c.requires.beside (c.is_walked.ensures c.if-is_walked.false) }

pub returns : goal.returns
returns c = c.ends-2.ensures
