use Rattle.std.proofs.Common.{ℕ, ◌-◌, ◌∙◌, ap, arith, get_or, length, replicate}
use Rattle.lists.specs.Parts.{part_length}
use Rattle.moves.proofs.Closing.{closed_is}
use Rattle.moves.proofs.rows.close_up.Goals as goal

pub returns : goal.returns
returns c =
    let a = c.args in
    let t = a.tail.now in
    let ys = c.copy_within.new.self in
    let same = c.copy_within.ensures.len in
    closed_is a.wide t ys c.fill.new.self c.requires.1 same
    (λ k l. c.copy_within.ensures.by_index.0 k 0 (omega arith) (omega (arith, l)) ∙ ap (λ (j : ℕ). get_or t j 0) (omega arith))
    (c.fill.ensures.after (λ y e. e) ∙ ap (λ (n : ℕ). replicate n 0) (part_length (length t - a.wide) (length ys) ys (omega (arith, same)) (omega arith) ∙ omega (arith, same, c.requires.1)))
