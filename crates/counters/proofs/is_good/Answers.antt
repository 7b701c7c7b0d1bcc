use Rattle.std.proofs.Common.{sym, ◌∙◌, ◌&&◌, leb, rules}
use Rattle.rules.specs.Numbers.{most_delta}
use Rattle.arrays.specs.Counters.{good_row, good_counters}
use Rattle.lists.specs.Walks.{below_fails}
use Rattle.counters.proofs.is_good.Goals as goal

pub returns-then-not-is_good_row : goal.returns-then-not-is_good_row
unfolding good_counters
returns-then-not-is_good_row c =
    let r = c.read.ensures in
    sym (below_fails (good_row c.args.counters.now) c.args.rows c.loop-row.row c.loop-row-test.true
    ((λ i. leb (sym r.delta i) most_delta && leb (sym r.rho i) (sym r.delta i)) ∙ sym c.is_good_row.ensures ∙ c.if-not-is_good_row.true))

pub returns : goal.returns
unfolding good_counters
returns c = search rules
