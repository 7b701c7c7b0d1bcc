-- `leave` meets its contract: the index follows the row that goes. Assumes nothing.
use native.Mathlib.Omega.{arith}
use Rattle.sends.proofs.Besides.{beside_gone}
use Rattle.sends.proofs.leave.Goals as goal

pub depart-gone-requires : goal.depart-gone-requires
depart-gone-requires c = record {
  place_lt_count = c.requires.place_lt_count;
  blank = c.requires.beside.1;
}

pub keep_sent-requires : goal.keep_sent-requires
keep_sent-requires c =
    record {
      place_lt_count = (c.requires.place_lt_count.0, c.requires.count_le_most_capacity.0, omega (arith, c.depart-gone.ensures.named.0, c.requires.count_le_most_capacity.1));
      by_index = (c.args.waiting.now, c.requires.beside.0);
    }

pub returns : goal.returns
returns c =
    let n = c.depart-gone in record {
      waiting_after = n.ensures.waiting_after;
      flight_after = n.ensures.flight_after;
      named = n.ensures.named;
      beside_2 = beside_gone c.args.waiting.now _ c.args.index.now _ c.args.count c.args.place n.result.guest c.requires.place_lt_count.0 c.requires.place_lt_count.1 c.requires.count_le_most_capacity.2 c.requires.beside.0 n.ensures.waiting_after n.ensures.named.0 c.keep_sent.ensures;
    }
