use Rattle.std.proofs.Common.{◌≡◌}
use Rattle.table.specs.View.{guest_form}
use Rattle.table.specs.ViewLaws.{guest_exact}
use Rattle.packs.specs.Records.{blank}
use Rattle.lent.proofs.Copying.{packed}
use Rattle.packs.proofs.pack.Given as goal

-- i records are back
abbrev pub invariant-loop-i : goal.invariant-loop-i
invariant-loop-i l = l.guest-items ≡ packed guest_form guest_exact blank l.rows l.initial.guest-items l.i
