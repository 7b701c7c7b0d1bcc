use Rattle.std.proofs.Common.{◌≡◌}
use Rattle.port.proofs.get.Given as goal

-- no call has moved the count yet
abbrev pub invariant-loop : goal.invariant-loop
invariant-loop l = l.log ≡ l.fn.log
