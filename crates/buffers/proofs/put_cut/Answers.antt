use native.Mathlib.Omega.{arith}
use mathlib.Core.Path.{sym, ◌∙◌}
use borrow.Author.Tests.{eqb-true, eqb-false}
use Rattle.buffers.proofs.Cut.{cut-none, cut-some}
use Rattle.buffers.proofs.put_cut.Goals as goal

pub returns-then-is_empty : goal.returns-then-is_empty
returns-then-is_empty c =
    let a = c.args in record {
      put = cut-none a.number a.bytes.now (eqb-true _ _ (sym c.is_empty.ensures ∙ c.if-is_empty.true)) a.out.now;
      upper_bound = omega arith;
    }

pub returns : goal.returns
returns c =
    let a = c.args in
    let l = c.put_line in record {
      put = cut-some a.number a.bytes.now (omega (arith, eqb-false _ _ (sym c.is_empty.ensures ∙ c.if-is_empty.false))) a.out.now _ _ l.ensures.put;
      upper_bound = omega (arith, l.ensures.upper_bound);
    }
