-- `gates::sent` meets its contract: the gate that is made is the one after a send. Assumes nothing.
use mathlib.Core.Path.{ap, ◌∙◌}
use borrow.Author.Rules.{rules}
use Rattle.rules.specs.declared.Gate.{Gate}
use Rattle.rules.specs.declared.Answer.TheVariants.{Sent}
use Rattle.table.specs.View.{decision_of}
use Rattle.table.proofs.gates.sent.Goals as goal

pub returns : goal.returns
returns c =
    let a = c.args in
    c.decided.ensures ∙ ap (λ (g : Gate). decision_of g (Sent a.phase a.guest a.id)) c.gate_at-after.ensures
