use Rattle.std.proofs.Common.{arith}
use Rattle.lists.specs.Stores.{stores}
use Rattle.places.specs.Start.{started_none, started-next}
use Rattle.places.proofs.start.Goals as goal

pub loop-i-init : goal.loop-i-init
loop-i-init c = started_none c.args.settings.now c.args.guests.now

pub loop-i-preserved : goal.loop-i-preserved
unfolding stores
loop-i-preserved c =
    let s = c.loop-i in
    let a = c.args in
    started-next a.settings.now a.guests.now s.guests s.i s.invariant (omega arith)
