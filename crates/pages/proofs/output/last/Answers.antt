use mathlib.Core.Path.{sym}
use lib.ListN.{take}
use lib.Seq.{length-take-le}
use Rattle.stream.specs.Outcome.{MOST}
use Rattle.stream.proofs.Outcomes.{last_next, last_whole, next_unwritten}
use Rattle.pages.specs.Sheet.{sheet_of}
use Rattle.pages.proofs.output.last.Goals as goal

pub slice_bounds-emit-end : goal.slice_bounds-emit-end
slice_bounds-emit-end c = sym (length-take-le c.args.n c.args.out.now c.requires.n_in_bounds)

pub returns-then-written : goal.returns-then-written
returns-then-written c =
    let a = c.args in
    let e = c.emit-written in
    last_whole sheet_of MOST a.log.now e.new.log (take a.n a.out.now) e.result e.ensures c.requires.last c.if-written.true

pub returns-else-written : goal.returns-else-written
returns-else-written c =
    let a = c.args in
    let e = c.emit-written in
    next_unwritten sheet_of MOST a.log.now e.new.log (take a.n a.out.now) e.result e.ensures (last_next sheet_of a.log.now (take a.n a.out.now) c.requires.last) c.if-written.false
