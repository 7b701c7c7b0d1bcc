-- The tag and a bit that the test lifts it by. Assumes nothing.
use Rattle.std.proofs.Common.{◌+◌, get_or, lit<}
use Rattle.table.specs.Columns.{LTAG, STAG}
use Rattle.walks.specs.Lifted.{open_lifted}
use Rattle.looks.proofs.open_tag.Goals as goal

pub returns : goal.returns
returns c =
    let a = c.args in
    let w = a.waiting.now in
    open_lifted (get_or w (a.at + STAG) 0) (get_or w (a.at + LTAG) 0) a.time 9223372036854775808 c.after.ensures (lit< tt)
