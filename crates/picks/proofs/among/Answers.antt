-- `among` meets its contract: the rows up to the last one looked at are passed, and those up to the next stand behind others. Assumes nothing.
use Prim.Native.Nat.{◌+◌}
use mathlib.Core.Path.{◌≡◌}
use lib.ListN.{length}
use native.Mathlib.Omega.{arith}
use Rattle.table.specs.Columns.{GUEST}
use Rattle.walks.specs.WalksRows.{row_from}
use Rattle.looks.specs.InLine.{passed_none, passed-all}
use Rattle.picks.specs.Collected.{next, next_on}
use Rattle.picks.proofs.among.Goals as goal

pub loop-at-init : goal.loop-at-init
loop-at-init c =
    let a = c.args.queue in
    rw c.nothing_yet-best.ensures (passed_none a.guests.now a.waiting.now a.known a.count a.time c.args.latest)

pub look-best-requires : goal.look-best-requires
look-best-requires c =
    let o = c.requires.collected.each c.loop-at.at-index c.loop-at-test.true in
    let known = c.requires.owned.0 o.row o.inside in
    let own = row_from c.args.queue.waiting.now o.row GUEST o.begins in record {
      waiting_wide_in_bounds = (omega (arith, o.inside, o.begins), omega (arith, known, own), omega (arith, known, own));
      time_le_ceiling = c.requires.time_le_ceiling;
    }

pub loop-at-preserved : goal.loop-at-preserved
loop-at-preserved c =
    let s = c.loop-at in
    let a = c.args.queue in
    let rows = c.args.rows.now in
    let o = c.requires.collected.each s.at-index c.loop-at-test.true in
    let up = passed-all a.guests.now a.waiting.now a.known a.count a.time c.args.latest c.requires.owned.0 c.requires.owned.1 s.invariant o.between (omega (arith, o.inside)) in
    let on : next rows (s.at-index + 1) ≡ o.row + 1 = omega (arith, next_on rows s.at-index, o.begins) in
    rw on (c.look-best.ensures a.known a.count o.row o.begins o.inside c.requires.owned.0 up)

pub returns : goal.returns
returns c =
    let s = c.loop-at in
    let a = c.args.queue in
    let all : s.at-index ≡ length c.args.rows.now = omega arith in
    passed-all a.guests.now a.waiting.now a.known a.count a.time c.args.latest c.requires.owned.0 c.requires.owned.1 (rw all at s.invariant) c.requires.collected.rest (omega arith)
