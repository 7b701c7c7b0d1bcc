use native.Mathlib.Omega.{arith}
use Prim.Native.Nat.{ℕ}
use mathlib.Core.Path.{sym, subst}
use mathlib.Core.List.{List}
use lib.ListN.{drop, length-drop}
use lib.Seq.{length-take-le}
use Rattle.port.specs.Moves.{Goes, brought}
use Rattle.port.specs.declared.Moved.{Moved}
use Rattle.trace.specs.Printed.{cut, printed}
use Rattle.stream.specs.Outcome.{Last}
use Rattle.stream.proofs.Emitting.{within}
use Rattle.prints.proofs.Pumping.{standing_last, read_none, read_failed}
use Rattle.prints.proofs.read_on.Goals as goal

pub finish-requires : goal.finish-requires
finish-requires c =
    let a = c.args in
    let p = c.requires in
    let r = c.refill in
    let few = length-take-le a.have a.buffer.now (omega (arith, p.have_bound)) in record {
      number_bound = p.have_bound.1;
      last = subst (λ (l : List ℕ). Last printed r.new.log (cut a.number l)) (sym r.ensures.buffer_unchanged)
          (standing_last _ _ (read_none _ _ _ r.result (drop a.have r.new.buffer) r.ensures.goes p.rests.2 c.in-Nothing.is) (omega (arith, few, p.have_bound)));
    }

pub returns-in-Bytes : goal.returns-in-Bytes
returns-in-Bytes c =
    let r = c.refill in
    let w = within c.in-Bytes.is r.ensures.within in record {
      follows = (w.0, omega (arith, w.1, length-drop c.args.have r.new.buffer, r.auto.buffer), subst (λ (x : Moved). Goes (brought x (drop c.args.have r.new.buffer)) c.args.log.now r.new.log) c.in-Bytes.is r.ensures.goes);
      buffer_unchanged = r.ensures.buffer_unchanged;
    }

pub returns-in-Failed : goal.returns-in-Failed
returns-in-Failed c =
    let r = c.refill in record {
      follows = read_failed _ _ _ r.result (drop c.args.have r.new.buffer) r.ensures.goes c.requires.rests.2 c.in-Failed.is;
      buffer_unchanged = r.ensures.buffer_unchanged;
    }
