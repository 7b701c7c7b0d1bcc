-- Outer loop: no two of the places passed have one name, and the arrays link the places of each bucket. Inner loop: no place of the bucket that was
-- passed has the name.
use Prim.Native.Nat.{ℕ, ◌≤◌, ◌-◌}
use mathlib.Core.Path.{◌≡◌, refl, ap, sym, ◌∙◌}
use native.Mathlib.Nat.{not-suc-le-zero}
use native.Mathlib.Omega.{arith}
use Rattle.pairs.specs.Names.{part_at}
use Rattle.pairs.proofs.Places.{names_hit, names-none, both_same, both_differ}
use Rattle.pairs.proofs.Buckets.{last_before, last_le, bucket_at, linked-start, linked-next, passed_start, passed-next, passed-end}
use Rattle.pairs.proofs.many_once.Goals as goal

pub pairs-init : goal.pairs-init
pairs-init c = (linked-start _, λ i j l. absurd (not-suc-le-zero l), refl)

pub loop-next-init : goal.loop-next-init
loop-next-init c =
    let o = c.pairs in
    let a = c.args in
    let guest = part_at a.waiting.now a.count a.flight.now 0 in
    let id = part_at a.waiting.now a.count a.flight.now 1 in
    let e : c.bucket-b.result ≡ bucket_at guest id o.i = rw (c.name_at-name.ensures.0, c.name_at-name.ensures.1) at c.bucket-b.ensures.0 in
    let first : c.from-next.result ≡ last_before (bucket_at guest id) (bucket_at guest id o.i) o.i =
    c.from-next.ensures ∙ o.invariant.0.head c.bucket-b.result c.bucket-b.ensures.1 ∙ ap (λ (b : ℕ). last_before (bucket_at guest id) b o.i) e
    in
    (passed_start guest id o.i c.from-next.result first, o.invariant.2)

pub loop-next-smaller : goal.loop-next-smaller
loop-next-smaller c =
    let o = c.pairs in
    let a = c.args in
    let guest = part_at a.waiting.now a.count a.flight.now 0 in
    let id = part_at a.waiting.now a.count a.flight.now 1 in
    let s = c.loop-next in
    let low : s.next ≤ o.i = s.invariant.0.low in
    let more : c.from-next-in-loop-next.result ≡ last_before (bucket_at guest id) (bucket_at guest id (s.next - 1)) (s.next - 1) =
    c.from-next-in-loop-next.ensures ∙ o.invariant.0.link (s.next - 1) (omega (arith, low, c.loop-next-test.true))
    in
    omega (arith, more, last_le (bucket_at guest id) (bucket_at guest id (s.next - 1)) (s.next - 1))

pub loop-next-preserved : goal.loop-next-preserved
loop-next-preserved c =
    let o = c.pairs in
    let a = c.args in
    let guest = part_at a.waiting.now a.count a.flight.now 0 in
    let id = part_at a.waiting.now a.count a.flight.now 1 in
    let s = c.loop-next in
    let low : s.next ≤ o.i = s.invariant.0.low in
    let more : c.from-next-in-loop-next.result ≡ last_before (bucket_at guest id) (bucket_at guest id (s.next - 1)) (s.next - 1) =
    c.from-next-in-loop-next.ensures ∙ o.invariant.0.link (s.next - 1) (omega (arith, low, c.loop-next-test.true))
    in
    let same = rw (c.name_at.ensures.0, c.name_at.ensures.1, c.name_at-name.ensures.0, c.name_at-name.ensures.1) at c.eq.ensures in
    let other = both_differ _ _ _ _ (sym same ∙ c.if-eq.false) in
    let j = s.next - 1 in
    (passed-next guest id o.i s.next j c.from-next-in-loop-next.result s.invariant.0 (omega (arith, c.loop-next-test.true)) other more, s.invariant.1)

pub pairs-preserved : goal.pairs-preserved
pairs-preserved c =
    let o = c.pairs in
    let a = c.args in
    let guest = part_at a.waiting.now a.count a.flight.now 0 in
    let id = part_at a.waiting.now a.count a.flight.now 1 in
    let e : c.bucket-b.result ≡ bucket_at guest id o.i = rw (c.name_at-name.ensures.0, c.name_at-name.ensures.1) at c.bucket-b.ensures.0 in
    let s = c.loop-next in (
      linked-next (bucket_at guest id) o.heads o.links o.i c.bucket-b.result _ _ o.invariant.0 (omega arith) c.bucket-b.ensures.1 e refl refl,
      passed-end guest id o.i s.next s.invariant.0 c.loop-next-test.false o.invariant.1,
      s.invariant.1,
    )

pub returns-after-pairs : goal.returns-after-pairs
returns-after-pairs c =
    let s = c.pairs in
    let a = c.args in
    s.invariant.2 ∙ sym (names-none a.waiting.now a.count a.flight.now a.sent (λ i j l. s.invariant.1 i j (omega arith)))

pub returns-then-eq : goal.returns-then-eq
returns-then-eq c =
    let s = c.loop-next in
    let o = c.pairs in
    let a = c.args in
    let low : s.next ≤ o.i = s.invariant.0.low in
    let same = rw (c.name_at.ensures.0, c.name_at.ensures.1, c.name_at-name.ensures.0, c.name_at-name.ensures.1) at c.eq.ensures in
    let one = both_same _ _ _ _ (sym same ∙ c.if-eq.true) in
    sym (names_hit a.waiting.now a.count a.flight.now a.sent (s.next - 1) o.i (omega (arith, low, c.loop-next-test.true)) c.pairs-test.true one.0 one.1)
