use Rattle.std.proofs.Common.{ℕ, ◌∙◌, ap, replicate, length-take-le}
use Rattle.moves.proofs.Closing.{zeroed_is}
use Rattle.moves.proofs.rows.clear.Goals as goal

pub returns : goal.returns
returns c =
    let a = c.args in
    zeroed_is a.upto a.xs.now c.fill.new.self c.requires
    (c.fill.ensures.after (λ y e. e) ∙ ap (λ (n : ℕ). replicate n 0) (length-take-le a.upto a.xs.now c.requires))
