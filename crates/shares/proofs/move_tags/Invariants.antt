-- The loop knows the waiting numbers after the moves made so far, and the marks of the guests passed.
use Rattle.std.proofs.Common.{◌≡◌, ◌≤◌, length}
use Rattle.table.specs.Columns.{most_guests}
use Rattle.shares.specs.Shares.{Marked, moved_tags}
use Rattle.shares.proofs.move_tags.Given as goal

abbrev pub invariant-loop-i : goal.invariant-loop-i
invariant-loop-i l = (most_guests ≤ length l.busy) × (l.waiting ≡ moved_tags l.time l.m l.initial.waiting l.i) × Marked l.initial.waiting l.i l.initial.busy l.busy
