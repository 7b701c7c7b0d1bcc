-- `open` meets its contract: what is copied to the front of zeros stands in the window. Assumes nothing.
use Prim.Native.Nat.{ℕ}
use mathlib.Core.Path.{sym, subst}
use mathlib.Core.List.{List, ◌++◌}
use native.Mathlib.Omega.{arith}
use lib.ListN.{take, drop}
use lib.Seq.{length-take-le}
use Rattle.windows.specs.Window.{Window}
use Rattle.windows.proofs.Windows.{window_opens}
use Rattle.windows.proofs.open.Goals as goal

pub slice_bounds-build-end : goal.slice_bounds-build-end
slice_bounds-build-end c = sym (length-take-le c.args.size c.args.waiting.now c.requires.size_in_bounds.0)

pub build-requires : goal.build-requires
build-requires c =
    let p = c.requires.rows_le_most_capacity in
    let e = length-take-le c.args.size c.args.waiting.now c.requires.size_in_bounds.0 in record {
      count_le_most_capacity = (p.0, omega (arith, e, p.1), p.2);
      by_index = c.requires.by_index;
    }

pub returns : goal.returns
returns c =
    let a = c.args in
    let s = c.requires.size_in_bounds in
    let t = take a.size a.waiting.now in
    let zs = a.window.now in
    let e = length-take-le a.size a.waiting.now s.0 in record {
      window = subst (λ (xs : List ℕ). Window a.size 0 (xs ++ drop a.size zs) t) (sym c.copy_from_slice.ensures.after)
          (subst (λ (n : ℕ). Window a.size 0 (t ++ drop n zs) t) e (window_opens a.size t zs e s.1 s.2));
      indexed = c.build.ensures;
    }
