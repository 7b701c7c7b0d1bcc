use Rattle.hands.proofs.SalvagedOnce.{handed_on_lem}
use Rattle.host.proofs.salvages.sgq_salvage.Goals as goal

pub returns : goal.returns
returns c =
    let m = c.salvage-done in
    handed_on_lem c.mended_of.result m.result _ _ _ c.mended_of.ensures m.ensures
