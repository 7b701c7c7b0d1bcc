-- The loop knows the guests' numbers after the moves made so far.
use Rattle.std.proofs.Common.{◌≡◌, ℕ, Bool, List, eqb, get_or}
use Rattle.shares.specs.Shares.{moved_nexts}
use Rattle.shares.proofs.move_nexts.Given as goal

-- a guest without a mark
abbrev pub unmarked : List ℕ → ℕ → Bool
unmarked busy g = eqb (get_or busy g 0) 0

abbrev pub invariant-loop-g : goal.invariant-loop-g
invariant-loop-g l = l.guests ≡ moved_nexts l.time l.m (unmarked l.busy) l.initial.guests l.g
