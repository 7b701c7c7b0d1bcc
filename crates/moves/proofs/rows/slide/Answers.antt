use Prim.Native.Nat.{◌+◌, ◌*◌}
use mathlib.Core.Path.{sym}
use native.Mathlib.Omega.{arith}
use lib.Seq.{length-take-le}
use Rattle.table.specs.Columns.{waiting_wide}
use Rattle.moves.specs.SlideLaws.{slid}
use Rattle.moves.proofs.rows.slide.Goals as goal

pub slice_bounds-open_up-end-2 : goal.slice_bounds-open_up-end-2
slice_bounds-open_up-end-2 c = let a = c.args in sym (length-take-le (a.place * waiting_wide + waiting_wide) a.waiting.now (omega arith))

pub open_up-requires : goal.open_up-requires
open_up-requires c = let a = c.args in omega (arith, length-take-le (a.place * waiting_wide + waiting_wide) a.waiting.now (omega arith))

pub returns : goal.returns
returns c =
    let a = c.args in record {
      by_index = λ count here room blank. slid a.place count a.waiting.now _ here room blank c.open_up.ensures;
      flight_after = c.join-sent.ensures.flight_after;
      named = c.join-sent.ensures.named;
    }
