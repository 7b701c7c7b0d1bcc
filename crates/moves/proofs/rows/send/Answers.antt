use Prim.Native.Nat.{ℕ, ◌*◌}
use mathlib.Core.Path.{ap}
use mathlib.Core.List.{List}
use Rattle.lists.specs.Parts.{back}
use Rattle.table.specs.Columns.{waiting_wide}
use Rattle.moves.proofs.rows.send.Goals as goal

pub returns : goal.returns
returns c =
    let a = c.args in record {
      waiting_after = ap (λ (ys : List ℕ). back (a.place * waiting_wide) (a.count * waiting_wide) ys a.waiting.now) c.close_rows.ensures;
      flight_after = c.join-sent.ensures.flight_after;
      named = c.join-sent.ensures.named;
    }
