-- The tag and a bit that the tests lift it by. Assumes nothing.
use Rattle.std.proofs.Common.{◌+◌, get_or, lit<}
use Rattle.table.specs.Columns.{RESERVATION, RTAG, LTAG, guest_at}
use Rattle.walks.specs.Lifted.{due_lifted}
use Rattle.looks.proofs.due_tag.Goals as goal

pub returns : goal.returns
returns c =
    let a = c.args in
    let w = a.waiting.now in
    due_lifted (guest_at a.guests.now a.guest RESERVATION) (get_or w (a.at + RTAG) 0) (get_or w (a.at + LTAG) 0) a.latest 9223372036854775808
    c.bit_where.ensures c.after.ensures (lit< tt)
