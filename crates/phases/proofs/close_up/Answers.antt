use Rattle.std.proofs.Common.{ap, ◌∙◌, ◌-◌, set}
use Rattle.phases.proofs.Closing.{copied_is}
use Rattle.phases.proofs.close_up.Goals as goal

pub returns : goal.returns
returns c =
    let a = c.args in
    ap (λ l. set l (a.flying - 1) 0) (c.copy_within.ensures.after ∙ copied_is a.flying a.place a.phases.now c.requires.0 c.requires.1)
