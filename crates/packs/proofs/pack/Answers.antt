use Rattle.std.proofs.Common.{refl, sym, take, arith}
use Rattle.table.specs.View.{guest_form}
use Rattle.table.specs.ViewLaws.{guest_exact}
use Rattle.packs.specs.Records.{blank}
use Rattle.lent.proofs.Copying.{packed_none, packed_turn}
use Rattle.packs.proofs.pack.Goals as goal

pub loop-i-init : goal.loop-i-init
loop-i-init c = sym (packed_none guest_form guest_exact blank c.args.rows.now (take c.args.count c.args.guests.now))

pub loop-i-preserved : goal.loop-i-preserved
loop-i-preserved c =
    packed_turn guest_form guest_exact blank c.args.rows.now (take c.args.count c.args.guests.now) c.loop-i.guest-items _ c.row_at.result c.loop-i.i c.loop-i.invariant c.row_at.ensures refl (omega arith)
