use native.Mathlib.Omega.{arith}
use Prim.Native.Nat.{ℕ}
use mathlib.Core.Path.{ap, sym}
use mathlib.Core.List.{[], ◌∷◌, ◌++◌}
use Rattle.lines.specs.Line.{spaced, trace_refused, refusal_line}
use Rattle.lines.proofs.PutLaws.{puts, put_as}
use Rattle.lines.proofs.put_refusal.Goals as goal

pub returns : goal.returns
unfolding refusal_line
returns c = record {
  put = put_as (ap (λ (n : ℕ). trace_refused ++ (spaced (n ∷ []) ++ (10 ∷ []))) (sym c.from.ensures))
      (puts c.put_all-a.ensures (puts c.put_value-b.ensures.put c.put.ensures));
  upper_bound = omega (arith, c.put.ensures.next, c.put_value-b.ensures.upper_bound, c.put_all-a.ensures.next);
}
