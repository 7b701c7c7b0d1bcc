-- The entries pass exactly where their rows do.
use mathlib.Core.Path.{◌∙◌}
use Rattle.rules.specs.Sound.{settled}
use Rattle.table.specs.View.{settings_form}
use Rattle.entries.proofs.AllRows.{entries_are}
use Rattle.entries.proofs.settings.all_settled_list.Goals as goal

pub returns : goal.returns
returns c = c.are_settled.ensures ∙ entries_are settings_form settled c.args.settings.now c.args.known
