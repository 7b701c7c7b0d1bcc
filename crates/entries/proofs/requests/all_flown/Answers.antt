-- The entries pass exactly where their rows do.
use mathlib.Core.Path.{◌∙◌}
use Rattle.table.specs.View.{flight_form}
use Rattle.entries.specs.Tests.{named}
use Rattle.entries.proofs.AllRows.{entries_are}
use Rattle.entries.proofs.requests.all_flown.Goals as goal

pub returns : goal.returns
returns c = c.are_named.ensures ∙ entries_are flight_form (named c.args.known) c.args.flight.now c.args.count
