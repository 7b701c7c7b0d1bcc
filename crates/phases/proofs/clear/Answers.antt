use Rattle.std.proofs.Common.{ap, ◌∙◌, ◌++◌, drop, replicate, length-take-le, rules}
use Rattle.arrays.proofs.Places.{filled_is}
use Rattle.phases.proofs.clear.Goals as goal

pub returns : goal.returns
returns c =
    let d = c.args.depth in
    let ps = c.args.phases.now in
    ap (λ l. l ++ drop d ps) (c.fill.ensures.after (search rules) ∙ ap (λ n. replicate n 0) (length-take-le d ps c.requires))
    ∙ filled_is d ps c.requires
