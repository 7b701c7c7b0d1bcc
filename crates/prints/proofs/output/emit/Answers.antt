use mathlib.Core.Path.{sym}
use lib.Seq.{length-take-le}
use Rattle.prints.proofs.output.emit.Goals as goal

pub slice_bounds-emit-end : goal.slice_bounds-emit-end
slice_bounds-emit-end c = sym (length-take-le c.args.n c.args.out.now c.requires.n_in_bounds)
