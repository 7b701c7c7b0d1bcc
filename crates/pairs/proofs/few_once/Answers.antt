-- No two of the places passed have one name, and their buckets are marked.
use Prim.Native.Nat.{ℕ, ◌<◌, ◌%◌}
use mathlib.Core.Path.{◌≡◌, ap, sym, ◌∙◌}
use mathlib.Core.Bool.{not}
use native.Mathlib.Nat.{not-suc-le-zero}
use native.Mathlib.Omega.{arith}
use borrow.Author.Tests.{not-true, not-false}
use borrow.Author.Rules.{rules}
use Rattle.pairs.specs.Names.{part_at}
use Rattle.pairs.proofs.Places.{names-none, names_old, names-new}
use Rattle.pairs.proofs.Buckets.{bucket_at, same_bucket, apart_next, seen_start, seen_next}
use Rattle.pairs.proofs.few_once.Goals as goal
use Rattle.pairs.proofs.few_once.Goals.{else-seen-b-via-then-seen-b+else-not-is_new, else-seen-b-via-else-seen-b}

pub loop-i-init : goal.loop-i-init
loop-i-init c = (seen_start _, λ i j l. absurd (not-suc-le-zero l))

pub returns-then-not-is_new : goal.returns-then-not-is_new
returns-then-not-is_new c =
    let s = c.loop-i in
    let a = c.args in
    sym (names_old a.waiting.now a.count a.flight.now a.sent s.i c.loop-i-test.true (sym c.is_new.ensures ∙ not-true _ (ap not c.if-not-is_new.true)))

pub loop-i-preserved : goal.loop-i-preserved
loop-i-preserved c =
    let s = c.loop-i in
    let a = c.args in
    let guest = part_at a.waiting.now a.count a.flight.now 0 in
    let id = part_at a.waiting.now a.count a.flight.now 1 in
    let b = c.bucket-b.result % 1024 in
    let low : b < 1024 = search rules in
    let e : b ≡ bucket_at guest id s.i % 1024 = ap (λ (x : ℕ). x % 1024) (rw (c.name_at.ensures.0, c.name_at.ensures.1) at c.bucket-b.ensures.0) in
    let fresh : (k : ℕ) → k < s.i → guest k ≡ guest s.i → id k ≡ id s.i → ⊥ =
    λ k l g d.
    elim c.else-seen-b.branch [
      | else-seen-b-via-then-seen-b+else-not-is_new w ↦ names-new a.waiting.now a.count a.flight.now a.sent s.i (sym w.is_new.ensures ∙ not-false _ (ap not w.if-not-is_new.false)) k l g d
      | else-seen-b-via-else-seen-b w ↦ s.invariant.0.none b low w.if-seen-b.false k l (ap (λ (x : ℕ). x % 1024) (same_bucket guest id k s.i g d) ∙ sym e)
    ]
    in
    (seen_next (λ k. bucket_at guest id k % 1024) s.seen s.i b s.invariant.0 low e, apart_next guest id s.i s.invariant.1 fresh)

pub returns : goal.returns
returns c =
    let s = c.loop-i in
    let a = c.args in
    sym (names-none a.waiting.now a.count a.flight.now a.sent (λ i j l. s.invariant.1 i j (omega arith)))
