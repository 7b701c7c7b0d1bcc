-- The numbers after the three stores are those of the index with the new row (Linked).
use Prim.Native.Nat.{◌+◌, ◌<◌}
use native.Mathlib.Omega.{arith}
use lib.ListN.{length-set}
use Rattle.index.specs.Index.{NEXTS}
use Rattle.index.proofs.Linked.{spot_fits, linked_is}
use Rattle.index.proofs.link.Goals as goal

-- the spot is one of the index
within : (c : goal.After-spot-at) → c.spot-at.result < NEXTS + c.args.count
within c =
    let a = c.args in
    spot_fits c.requires.by_index.0 a.index.now a.count a.guest c.spot-at.result c.requires.by_index.1 c.requires.count_lt_most_capacity.1 c.spot-at.ensures.0 c.spot-at.ensures.1

pub offset_bounds-index-at : goal.offset_bounds-index-at
offset_bounds-index-at c = omega (arith, c.requires.by_index.1.long, within c)

pub bounds-index-at : goal.bounds-index-at
bounds-index-at c = omega (arith, c.requires.by_index.1.long, within c)

pub bounds-index-g-2 : goal.bounds-index-g-2
bounds-index-g-2 c = simp length-set (omega (arith, c.requires.by_index.1.long))

pub bounds-index-count : goal.bounds-index-count
bounds-index-count c = simp length-set (omega (arith, c.requires.by_index.1.long))

pub returns : goal.returns
returns c =
    let a = c.args in
    λ ws ws' i new.
    linked_is ws a.index.now a.count a.guest c.spot-at.result i c.requires.count_lt_most_capacity.1 c.spot-at.ensures.0 c.spot-at.ensures.1 ws' c.requires.count_lt_most_capacity.0 new
