-- No two of the places passed have one name, and their buckets are marked.
use Prim.Native.Nat.{◌%◌}
use Rattle.pairs.specs.Names.{part_at}
use Rattle.pairs.proofs.Buckets.{bucket_at, Apart, Seen}
use Rattle.pairs.proofs.few_once.Given as goal

abbrev pub invariant-loop-i : goal.invariant-loop-i
invariant-loop-i l =
    Seen (λ k. bucket_at (part_at l.waiting l.count l.flight 0) (part_at l.waiting l.count l.flight 1) k % 1024) l.seen l.i
    × Apart (part_at l.waiting l.count l.flight 0) (part_at l.waiting l.count l.flight 1) l.i
