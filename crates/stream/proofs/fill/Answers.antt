use native.Mathlib.Omega.{arith}
use Prim.Native.Nat.{◌+◌, ◌≤◌, ◌<◌}
use mathlib.Core.Path.{refl, ◌∙◌}
use lib.ListN.{length}
use Rattle.stream.proofs.Emitting.{within}
use Rattle.stream.proofs.Filling.{fills_none, fills_more, fills_upto, fills_failed, fills_all}
use Rattle.stream.proofs.fill.Goals as goal

pub loop-have-init : goal.loop-have-init
loop-have-init c = (refl, omega arith, fills_none c.args.buffer.now c.args.log.now)

-- what is known of the bytes that were moved
record Room (c : goal.In-Bytes) : Type 0 where
  some : 0 < c.in-Bytes.more
  most : c.loop-have.have + c.in-Bytes.more ≤ length c.loop-have.buffer

room : (c : goal.In-Bytes) → Room c
room c = let w = within c.in-Bytes.is c.refill.ensures.within in record { some = w.0; most = omega (arith, w.1, c.loop-have.invariant.1) }

pub overflow_add-have : goal.overflow_add-have
overflow_add-have c = omega (arith, (room c).most)

pub loop-have-smaller : goal.loop-have-smaller
loop-have-smaller c = omega (arith, (room c).some, (room c).most, c.refill.auto.buffer)

pub loop-have-preserved : goal.loop-have-preserved
loop-have-preserved c =
    let l = c.loop-have in
    let f = c.refill in (
      f.auto.buffer ∙ l.invariant.0,
      omega (arith, (room c).most, f.auto.buffer),
      fills_more l.have c.args.log.now l.log f.new.log l.buffer f.new.buffer f.result l.invariant.2 f.ensures.buffer_unchanged f.ensures.goes _ c.in-Bytes.is,
    )

pub returns-in-Nothing : goal.returns-in-Nothing
returns-in-Nothing c =
    let l = c.loop-have in
    let f = c.refill in
    fills_upto l.have c.args.log.now l.log f.new.log l.buffer f.new.buffer f.result l.invariant.2 f.ensures.buffer_unchanged f.ensures.goes c.in-Nothing.is (omega (arith, f.auto.buffer, c.loop-have-test.true))

pub returns-in-Failed : goal.returns-in-Failed
returns-in-Failed c =
    let l = c.loop-have in
    let f = c.refill in
    fills_failed l.have c.args.log.now l.log f.new.log l.buffer f.new.buffer f.result l.invariant.2 f.ensures.buffer_unchanged f.ensures.goes _ c.in-Failed.is

pub returns : goal.returns
returns c = let l = c.loop-have in fills_all l.have _ l.log l.buffer l.invariant.1 (omega arith) l.invariant.2
