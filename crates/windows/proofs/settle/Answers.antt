-- `settle` meets its contract: what is closed up by as much as stands in front of the table is the table at the front. Assumes nothing.
use Prim.Native.Nat.{ℕ, ◌+◌, ◌*◌}
use mathlib.Core.Path.{sym, subst}
use mathlib.Core.List.{List, ◌++◌}
use native.Mathlib.Omega.{arith}
use lib.ListN.{drop}
use lib.Seq.{length-take-le}
use Rattle.windows.specs.Window.{Window}
use Rattle.windows.proofs.Windows.{window_settles}
use Rattle.windows.proofs.settle.Goals as goal

pub slice_bounds-close_up-end-2 : goal.slice_bounds-close_up-end-2
slice_bounds-close_up-end-2 c = sym (length-take-le (c.args.start * 6 + c.args.size) c.args.window.now c.requires.1.fits)

pub close_up-requires : goal.close_up-requires
close_up-requires c =
    let e = length-take-le (c.args.start * 6 + c.args.size) c.args.window.now c.requires.1.fits in (omega arith, omega (arith, e))

pub returns : goal.returns
returns c = record {
  by_index = λ ws w. subst (λ (xs : List ℕ). Window c.args.size 0 (xs ++ drop (c.args.start * 6 + c.args.size) c.args.window.now) ws) (sym c.close_up.ensures)
      (window_settles c.args.size c.args.start c.args.window.now ws w);
  upper_bound = omega arith;
}
