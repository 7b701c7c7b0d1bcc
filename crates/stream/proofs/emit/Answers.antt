use native.Mathlib.Omega.{arith}
use Prim.Native.Nat.{◌+◌, ◌-◌, ◌≤◌, ◌<◌}
use lib.ListN.{length, drop, length-take, length-drop}
use Rattle.stream.proofs.Emitting.{within, emits_none, emits_more, emits_stops, emits_all}
use Rattle.stream.proofs.emit.Goals as goal

pub loop-done-init : goal.loop-done-init
loop-done-init c = (omega arith, emits_none c.args.bytes.now c.args.log.now)

-- what is known of the bytes that were moved
record Room (c : goal.In-Bytes) : Type 0 where
  some : 0 < c.in-Bytes.more
  most : c.loop-done.done + c.in-Bytes.more ≤ length c.args.bytes.now

room : (c : goal.In-Bytes) → Room c
room c =
    let w = within c.in-Bytes.is c.put.ensures.within in
    record { some = w.0; most = omega (arith, w.1, length-take (length c.args.bytes.now - c.loop-done.done) (drop c.loop-done.done c.args.bytes.now), length-drop c.loop-done.done c.args.bytes.now) }

pub overflow_add-done : goal.overflow_add-done
overflow_add-done c = omega (arith, (room c).most)

pub loop-done-smaller : goal.loop-done-smaller
loop-done-smaller c = omega (arith, (room c).some, (room c).most)

pub loop-done-preserved : goal.loop-done-preserved
loop-done-preserved c =
    let l = c.loop-done in
    ((room c).most, emits_more l.done c.args.log.now l.log c.put.new.log c.args.bytes.now c.put.result l.invariant.1 c.put.ensures.goes _ c.in-Bytes.is)

pub returns-in-Nothing : goal.returns-in-Nothing
returns-in-Nothing c =
    let l = c.loop-done in
    emits_stops l.done c.args.log.now l.log c.put.new.log c.args.bytes.now c.put.result l.invariant.1 c.put.ensures.goes c.in-Nothing.is

pub returns : goal.returns
returns c = let l = c.loop-done in emits_all l.done _ l.log c.args.bytes.now (omega arith) l.invariant.1
