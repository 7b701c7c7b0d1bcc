use Rattle.hands.proofs.MovedOnce.{handed_on_lem}
use Rattle.host.proofs.traces.sgq_trace_up.Goals as goal

pub returns : goal.returns
returns c =
    let m = c.up-done in
    handed_on_lem c.three_of.result m.result _ _ c.three_of.ensures m.ensures
