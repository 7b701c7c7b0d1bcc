use Rattle.std.proofs.Common.{refl, sym, take, arith}
use Rattle.std.proofs.Math.Seq.{length-take-le}
use Rattle.table.specs.View.{guest_form}
use Rattle.table.specs.ViewLaws.{guest_exact}
use Rattle.packs.specs.Records.{blank}
use Rattle.lent.proofs.Copying.{unpacked-none, unpacked_turn}
use Rattle.packs.proofs.unpack.Goals as goal

pub loop-i-init : goal.loop-i-init
loop-i-init c = sym (unpacked-none guest_form guest_exact blank (take c.args.count c.args.guests.now) c.args.rows.now)

pub loop-i-preserved : goal.loop-i-preserved
loop-i-preserved c =
    unpacked_turn guest_form guest_exact blank (take c.args.count c.args.guests.now) c.args.rows.now c.loop-i.rows c.put_row.new.rows _ c.loop-i.i c.loop-i.invariant refl c.put_row.ensures (omega arith) (omega (arith, length-take-le c.args.count c.args.guests.now c.requires.0))
