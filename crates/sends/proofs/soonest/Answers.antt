-- `soonest` meets its contract: either way finds the same. Assumes nothing.
use Rattle.sends.proofs.soonest.Goals as goal

pub soonest-requires : goal.soonest-requires
soonest-requires c = record { count_nonzero = c.requires.count_nonzero; owned = c.requires.owned; time_le_ceiling = c.requires.time_le_ceiling }

pub soonest-requires-2 : goal.soonest-requires-2
soonest-requires-2 c =
    record {
      count_nonzero = c.requires.count_nonzero;
      owned = c.requires.owned;
      time_le_ceiling = c.requires.time_le_ceiling;
      indexed = c.requires.beside (c.is_walked.ensures c.if-is_walked.false);
    }
