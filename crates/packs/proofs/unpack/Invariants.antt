use Rattle.std.proofs.Common.{◌≡◌}
use Rattle.table.specs.View.{guest_form}
use Rattle.table.specs.ViewLaws.{guest_exact}
use Rattle.packs.specs.Records.{blank}
use Rattle.lent.proofs.Copying.{unpacked}
use Rattle.packs.proofs.unpack.Given as goal

-- i records are in their rows
abbrev pub invariant-loop-i : goal.invariant-loop-i
invariant-loop-i l = l.rows ≡ unpacked guest_form guest_exact blank l.guest-items l.initial.rows l.i
