use Rattle.std.proofs.Common.{◌≡◌}
use Rattle.port.proofs.put.Given as goal

-- no call has moved the count yet
abbrev pub invariant-loop : goal.invariant-loop
invariant-loop l = l.log ≡ l.fn.log
