-- The batch over numbers at the gate that the seven numbers are. Assumes nothing.
use Rattle.hands.proofs.Batches.{batch-returned}
use Rattle.host.proofs.sgq_batch.Goals as goal

pub returns : goal.returns
returns c =
    let s = c.args in
    let b = c.call-done in
    let o = c.hand_over in
    batch-returned s.events.now s.seven.now _ c.gate_in-gate.result c.gate_in-gate.ensures s.guests.now s.waiting.now s.flight.now s.answers.now o.result (b.result, _, _, _, _) b.ensures o.ensures.0 o.ensures.1
