use mathlib.Core.Path.{◌≡◌}
use lib.Bits.{bit_or}
use borrow.Author.Rules.{rules}
use Rattle.std.specs.List.{fold}
use Rattle.std.proofs.iter.runs.Made.{chains}
use Rattle.unused.proofs.Blocks.{bits_none}
use Rattle.unused.proofs.is_zero.Goals as goal

pub returns : goal.returns
returns c =
    let bits : c.fold.result ≡ fold bit_or 0 c.args.part.now = search (rules, chains) in
    rw bits (bits_none c.args.part.now 0)
