-- The entries pass exactly where their rows do.
use mathlib.Core.Path.{◌∙◌}
use Rattle.table.specs.View.{guest_form}
use Rattle.entries.specs.Tests.{settled_guest}
use Rattle.entries.proofs.AllRows.{entries_are}
use Rattle.entries.proofs.settings.all_settled.Goals as goal

pub returns : goal.returns
returns c = c.are_settled.ensures ∙ entries_are guest_form settled_guest c.args.guests.now c.args.known
