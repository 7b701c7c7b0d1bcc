-- `first_in_line` meets its contract: either way finds the same. Assumes nothing.
use Rattle.choose.proofs.first_in_line.Goals as goal

pub first_in_line-requires : goal.first_in_line-requires
first_in_line-requires c =
    record { count_le_most_capacity = c.requires.count_le_most_capacity; owned = c.requires.owned; time_le_ceiling = c.requires.time_le_ceiling }

pub returns-then-is_walked : goal.returns-then-is_walked
returns-then-is_walked c = record { picks = c.first_in_line.ensures.picks; picks_2 = c.first_in_line.ensures.picks_2 }

pub first_in_line-requires-2 : goal.first_in_line-requires-2
first_in_line-requires-2 c =
    record {
      count_le_most_capacity = c.requires.count_le_most_capacity;
      owned = c.requires.owned;
      time_le_ceiling = c.requires.time_le_ceiling;
      indexed = c.requires.beside (c.is_walked.ensures c.if-is_walked.false);
    }

pub returns : goal.returns
returns c = record { picks = c.first_in_line-2.ensures.picks; picks_2 = c.first_in_line-2.ensures.picks_2 }
