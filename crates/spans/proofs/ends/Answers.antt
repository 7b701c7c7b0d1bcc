-- After some guests the loop holds two share tags between which those of their rows lie.
use Prim.Native.Nat.{◌+◌}
use native.Mathlib.Omega.{arith}
use Rattle.index.specs.Index.{LASTS}
use Rattle.walks.specs.SurveyLaws.{ends-none}
use Rattle.walks.specs.Walks.{Owned}
use Rattle.spans.specs.Spanned.{told, spanned_start, spanned_none, spanned_next, spanned_end}
use Rattle.spans.proofs.ends.Goals as goal
use Rattle.spans.proofs.ends.Goals.{then-first-gt0, else-first-gt0}

pub returns-then-count-eq0 : goal.returns-then-count-eq0
returns-then-count-eq0 c = rw c.if-count-eq0.true (ends-none c.args.waiting.now)

pub loop-g-init : goal.loop-g-init
loop-g-init c = let a = c.args in spanned_start a.waiting.now a.count (omega arith)

pub overflow_cast-first : goal.overflow_cast-first
overflow_cast-first c = omega (arith, c.type_inv.index c.loop-g.g)

pub overflow_cast-last : goal.overflow_cast-last
overflow_cast-last c = omega (arith, c.type_inv.index (LASTS + c.loop-g.g))

pub share_of-requires : goal.share_of-requires
share_of-requires c =
    let t = told c.requires.indexed c.loop-g.g (omega arith) c.if-first-gt0.true in
    (omega (arith, t.some), omega (arith, t.inside, t.tail.inside))

pub share_of-requires-then-first-gt0 : goal.share_of-requires-then-first-gt0
share_of-requires-then-first-gt0 c =
    let t = told c.requires.indexed c.loop-g.g (omega arith) c.if-first-gt0.true in
    (t.some, omega (arith, t.some, t.tail.inside))

pub loop-g-preserved : goal.loop-g-preserved
loop-g-preserved c =
    let s = c.loop-g in
    let a = c.args in
    let i = c.requires.indexed in
    elim c.if-first-gt0.branch [
      | then-first-gt0 w ↦
          let t = told i s.g (omega arith) w.if-first-gt0.true in
          rw (w.least-is, w.most-is, w.min-least.ensures, w.max-most.ensures, w.share_of.ensures, w.share_of-then-first-gt0.ensures) (spanned_next a.waiting.now a.count s.invariant c.requires.owned.1 t.head t.tail)
      | else-first-gt0 w ↦ rw (w.least-is, w.most-is) (spanned_none a.waiting.now a.count s.invariant ((i.first s.g (omega arith)).none (omega (arith, w.if-first-gt0.false))))
    ]

pub returns : goal.returns
returns c =
    let s = c.loop-g in
    let a = c.args in
    let owned : Owned a.waiting.now a.count s.g = λ k here. omega (arith, c.requires.owned.0 k here, c.loop-g-test.false) in
    spanned_end a.waiting.now a.count s.invariant owned
