-- `strike` meets its contract, by what closing up promises. Assumes nothing.
use Rattle.std.proofs.Common.{ℕ, ◌*◌, List, ap}
use Rattle.lists.specs.Parts.{back}
use Rattle.tally.specs.Columns.{note_wide}
use Rattle.tally.proofs.notes.strike.Goals as goal

pub returns : goal.returns
returns c =
    let a = c.args in
    ap (λ (ys : List ℕ). back (a.place * note_wide) (a.count * note_wide) ys a.book.now) c.close_up.ensures
