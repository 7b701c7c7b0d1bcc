-- An index only for tables that were found sound; either way every event is answered. Assumes nothing.
use Rattle.calling.proofs.Returns.{good-known}
use Rattle.bulk.proofs.answer_all.Goals as goal

pub answer_beside-requires : goal.answer_beside-requires
answer_beside-requires c = record {
  answer_wide_in_bounds = c.requires.answer_wide_in_bounds;
  known = good-known c.args.gate c.args.guests.now c.args.waiting.now c.args.flight.now c.args.found c.requires.judges (c.pays.ensures c.if-pays.true);
}
