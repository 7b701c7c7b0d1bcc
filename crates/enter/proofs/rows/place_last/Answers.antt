-- `rows::place_last` meets its contract: the index follows the row that is placed. Assumes nothing.
use native.Mathlib.Omega.{arith}
use Rattle.enter.proofs.Besides.{beside_placed}
use Rattle.enter.proofs.rows.place_last.Goals as goal

pub place-after-requires : goal.place-after-requires
place-after-requires c = c.requires.placeable

pub keep_placed-requires : goal.keep_placed-requires
keep_placed-requires c = record {
  count_lt_most_capacity = (c.requires.waiting_lt_most_capacity.0, omega (arith, c.requires.waiting_lt_most_capacity.1));
  by_index = (c.args.waiting.now, c.requires.waiting_lt_most_capacity.2);
}

pub returns : goal.returns
returns c =
    let p = c.place-after.ensures in record {
      placed = p;
      beside = beside_placed c.args.gate c.args.guests.now c.args.waiting.now _ _ c.args.index.now _ c.args.what c.args.time c.args.stamp _ c.requires.placeable p c.requires.waiting_lt_most_capacity.2 c.keep_placed.ensures;
    }
