-- The batch over numbers on the records in use, brought home, is the promise over records.
use Rattle.std.proofs.Common.{List, ℕ, ◌*◌, ◌++◌, drop}
use Rattle.table.specs.Columns.{guest_wide}
use Rattle.batch.specs.Promise.{batched as batched_numbers}
use Rattle.records.specs.Batch.{batched}
use Rattle.records.proofs.BatchHome.{batched-home, batch_comes_home, batch_with_rest}
use Rattle.records.proofs.batch.Goals as goal

pub returns : goal.returns
returns c =
    batch_comes_home c.args.gate.guests c.args.guests.now (λ (gs : List ℕ). batched_numbers c.args.events.now c.args.gate gs c.args.waiting.now c.args.flight.now c.args.answers.now)
    (batched c.args.events.now c.args.gate c.args.guests.now c.args.waiting.now c.args.flight.now c.args.answers.now)
    (batched-home c.args.gate c.args.guests.now c.args.waiting.now c.args.flight.now c.args.answers.now c.args.events.now)
    c.call-batched.result c.used-count.result c.unpack.new.rows (c.call-batched.new.guests ++ drop (c.used-count.result * guest_wide) c.unpack.new.rows) c.call-batched.new.waiting c.call-batched.new.flight c.call-batched.new.answers c.pack.new.guests
    c.used-count.ensures c.unpack.ensures c.pack.ensures
    (batch_with_rest _ _ (drop (c.used-count.result * guest_wide) c.unpack.new.rows) c.call-batched.ensures)
