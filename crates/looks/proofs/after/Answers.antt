-- The bit of a tag that is past a limit. Assumes nothing.
use Rattle.std.proofs.Common.{arith}
use Rattle.walks.specs.Lifted.{after_bit}
use Rattle.looks.proofs.after.Goals as goal

pub returns : goal.returns
returns c =
    let a = c.args in
    after_bit a.limit a.tag c.wrapping_sub_u64.result c.requires (omega arith) (omega arith) c.wrapping_sub_u64.ensures.value
