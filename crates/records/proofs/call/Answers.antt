-- The call over numbers on the records in use, brought home, is the promise over records.
use Rattle.std.proofs.Common.{List, ℕ, ◌*◌, ◌++◌, drop}
use Rattle.table.specs.Columns.{guest_wide}
use Rattle.gate.specs.Promise.{called as called_numbers}
use Rattle.records.specs.Promise.{called}
use Rattle.records.proofs.Home.{called-home, comes_home, with_rest}
use Rattle.records.proofs.call.Goals as goal

pub returns : goal.returns
returns c =
    comes_home c.args.gate.guests c.args.guests.now (λ (gs : List ℕ). called_numbers c.args.event c.args.gate gs c.args.waiting.now c.args.flight.now)
    (called c.args.event c.args.gate c.args.guests.now c.args.waiting.now c.args.flight.now)
    (called-home c.args.gate c.args.guests.now c.args.waiting.now c.args.flight.now c.args.event)
    c.call-outcome.result c.used-count.result c.unpack.new.rows (c.call-outcome.new.guests ++ drop (c.used-count.result * guest_wide) c.unpack.new.rows) c.call-outcome.new.waiting c.call-outcome.new.flight c.pack.new.guests
    c.used-count.ensures c.unpack.ensures c.pack.ensures
    (with_rest _ _ (drop (c.used-count.result * guest_wide) c.unpack.new.rows) c.call-outcome.ensures)
