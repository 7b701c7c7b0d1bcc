-- The opening over numbers of the records in use, brought home, is the promise over records.
use Rattle.std.proofs.Common.{List, ℕ, ◌*◌, ◌++◌, drop}
use Rattle.table.specs.Columns.{guest_wide}
use Rattle.gate.specs.Promise.{opened as opened_numbers}
use Rattle.records.specs.Promise.{opened}
use Rattle.records.proofs.Home.{opened-home, comes_home, with_rest}
use Rattle.records.proofs.open.Goals as goal

pub returns : goal.returns
returns c =
    comes_home c.args.opening.guests c.args.guests.now (λ (gs : List ℕ). opened_numbers c.args.opening.setup.depth c.args.opening.guests c.args.opening.setup.capacity c.args.opening.setup.rule c.args.settings.now gs c.args.waiting.now c.args.flight.now)
    (opened c.args.opening.setup.depth c.args.opening.guests c.args.opening.setup.capacity c.args.opening.setup.rule c.args.settings.now c.args.guests.now c.args.waiting.now c.args.flight.now)
    (opened-home c.args.opening.setup.depth c.args.opening.guests c.args.opening.setup.capacity c.args.opening.setup.rule c.args.settings.now c.args.guests.now c.args.waiting.now c.args.flight.now)
    c.open-outcome.result c.used-count.result c.unpack.new.rows (c.open-outcome.new.guests ++ drop (c.used-count.result * guest_wide) c.unpack.new.rows) c.open-outcome.new.waiting c.open-outcome.new.flight c.pack.new.guests
    c.used-count.ensures c.unpack.ensures c.pack.ensures
    (with_rest _ _ (drop (c.used-count.result * guest_wide) c.unpack.new.rows) c.open-outcome.ensures)
