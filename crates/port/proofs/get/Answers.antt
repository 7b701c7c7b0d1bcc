use Rattle.port.proofs.Moving.{goes-brought, read_failed}
use Rattle.port.proofs.get.Goals as goal

pub returns-in-Some-clause-goes : goal.returns-in-Some-clause-goes
returns-in-Some-clause-goes c =
    goes-brought c.read-came.new.buf _ _ _ c.read-came.result _ c.read-came.ensures.bound (λ k h. h.0) c.loop.invariant c.in-Some.moved c.in-Some.ensures.moved.0 c.in-Some.ensures.moved.1

pub returns-clause-goes : goal.returns-clause-goes
returns-clause-goes c = read_failed c.loop.buffer _ _ c.loop.invariant
