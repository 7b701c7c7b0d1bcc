use Rattle.port.proofs.Moving.{goes-taken, write_failed}
use Rattle.port.proofs.put.Goals as goal

pub returns-in-Some-clause-goes : goal.returns-in-Some-clause-goes
returns-in-Some-clause-goes c =
    goes-taken c.args.bytes.now _ _ _ c.write-went.result _ c.write-went.ensures.bound (λ k h. h) c.loop.invariant c.in-Some.moved c.in-Some.ensures.moved.0 c.in-Some.ensures.moved.1

pub returns-clause-goes : goal.returns-clause-goes
returns-clause-goes c = write_failed c.args.bytes.now _ _ c.loop.invariant
