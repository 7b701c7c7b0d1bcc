use Prim.Native.Nat.{ℕ, ◌*◌}
use mathlib.Core.Path.{ap}
use mathlib.Core.List.{List}
use Rattle.lists.specs.Parts.{back}
use Rattle.table.specs.Columns.{flight_wide}
use Rattle.moves.proofs.rows.take_out.Goals as goal

pub returns : goal.returns
returns c =
    let a = c.args in
    ap (λ (ys : List ℕ). back (a.place * flight_wide) (a.count * flight_wide) ys a.flight.now) c.close_up.ensures
