-- The function meets its contract, by what its callees promise. Assumes nothing.
use mathlib.Core.Path.{ap, ◌∙◌}
use Rattle.rules.specs.declared.Gate.{Gate}
use Rattle.table.specs.Does.{refusing}
use Rattle.opens.proofs.not_opened.Goals as goal

pub returns : goal.returns
returns c = c.refused.ensures ∙ ap (λ (g : Gate). refusing c.args.why g) c.gate_at.ensures
