-- `every` meets its contract: the rows before the one reached are passed. Assumes nothing.
use mathlib.Core.Path.{◌≡◌, refl}
use native.Mathlib.Omega.{arith}
use Rattle.table.specs.Columns.{GUEST}
use Rattle.walks.specs.WalksRows.{row_from}
use Rattle.looks.specs.InLine.{passed_none}
use Rattle.picks.proofs.every.Goals as goal

pub loop-place-init : goal.loop-place-init
loop-place-init c =
    let a = c.args.queue in
    rw c.nothing_yet-best.ensures (passed_none a.guests.now a.waiting.now a.known a.count a.time c.args.latest)

pub look-best-requires : goal.look-best-requires
look-best-requires c =
    let here = c.loop-place-test.true in
    let known = c.requires.owned c.loop-place.place here in
    let own = row_from c.args.queue.waiting.now c.loop-place.place GUEST refl in record {
      waiting_wide_in_bounds = (omega (arith, here), omega (arith, known, own), omega (arith, known, own));
      time_le_ceiling = c.requires.time_le_ceiling;
    }

pub loop-place-preserved : goal.loop-place-preserved
loop-place-preserved c =
    let s = c.loop-place in
    let a = c.args.queue in
    c.look-best.ensures a.known a.count s.place refl c.loop-place-test.true c.requires.owned s.invariant

pub returns : goal.returns
returns c =
    let s = c.loop-place in
    let all : s.place ≡ c.args.queue.count = omega arith in
    rw all at s.invariant
