-- The entries pass exactly where their rows do.
use mathlib.Core.Path.{◌∙◌}
use Rattle.rules.specs.Tables.{name}
use Rattle.table.specs.View.{request_form}
use Rattle.entries.specs.Tests.{named}
use Rattle.entries.proofs.AllRows.{entries_are}
use Rattle.entries.proofs.requests.all_named.Goals as goal

pub returns : goal.returns
returns c = c.are_named.ensures ∙ entries_are request_form (λ q. named c.args.known (name q)) c.args.waiting.now c.args.count
