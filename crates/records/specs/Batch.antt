-- What the call of many events over a lent slice of guest records promises: what every batch promises (crates/batch/specs/Promise.antt), with the records
-- themselves in the statement; and a batch over numbers on the rows of those in use.
use Rattle.std.specs.Prelude.{ℕ, ◌*◌, List, ◌++◌, take, drop}
use Rattle.rules.specs.declared.Guest.{Guest}
use Rattle.rules.specs.declared.Gate.{Gate}
use Rattle.table.specs.Columns.{guest_wide}
use Rattle.gate.specs.Promise.{numbers}
use Rattle.batch.specs.Promise.{BatchIn, SeenBatchIn, seen_batch_in, batched_in}
use Rattle.records.specs.Promise.{records}

-- what a caller sees
abbrev pub seen_batch : BatchIn records → SeenBatchIn records
seen_batch = seen_batch_in records

-- THE PROMISE of a batch: document 02, K5, "exactly as if they came one by one"
abbrev pub batched : (events : List ℕ) → Gate → List Guest → (ws fs answers : List ℕ) → BatchIn records
batched = batched_in records

-- what a batch over numbers hands back where it is handed the first rows of a list, one row a record, and the rest of the list stays
abbrev pub batch_in_part : (count : ℕ) → List ℕ → (List ℕ → BatchIn numbers) → BatchIn numbers
batch_in_part count xs does = let b = does (take (count * guest_wide) xs) in (b.0, b.1 ++ drop (count * guest_wide) xs, b.2, b.3, b.4)
