-- Outer loop: no two of the places passed have one name, and the arrays link the places of each bucket. Inner loop: no place of the bucket that was
-- passed has the name.
use mathlib.Core.Path.{◌≡◌}
use mathlib.Core.Bool.{true}
use Rattle.pairs.specs.Names.{part_at}
use Rattle.pairs.proofs.Buckets.{bucket_at, Apart, Linked, Passed}
use Rattle.pairs.proofs.many_once.Given as goal

abbrev pub invariant-loop-next : goal.invariant-loop-next
invariant-loop-next l = Passed (part_at l.waiting l.count l.flight 0) (part_at l.waiting l.count l.flight 1) l.i l.next × (l.once ≡ true)

abbrev pub decreases-loop-next : goal.decreases-loop-next
decreases-loop-next l = l.next

abbrev pub invariant-pairs : goal.invariant-pairs
invariant-pairs l =
    Linked (bucket_at (part_at l.waiting l.count l.flight 0) (part_at l.waiting l.count l.flight 1)) l.heads l.links l.i
    × Apart (part_at l.waiting l.count l.flight 0) (part_at l.waiting l.count l.flight 1) l.i × (l.once ≡ true)
