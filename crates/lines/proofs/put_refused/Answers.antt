use native.Mathlib.Omega.{arith}
use Prim.Native.Nat.{ℕ}
use mathlib.Core.Path.{ap, sym}
use mathlib.Core.List.{[], ◌∷◌}
use Rattle.lines.specs.Line.{spaced}
use Rattle.lines.proofs.PutLaws.{puts, put_as}
use Rattle.lines.proofs.put_refused.Goals as goal

pub returns : goal.returns
returns c = record {
  put = put_as (ap (λ (n : ℕ). 88 ∷ spaced (n ∷ [])) (sym c.from.ensures)) (puts c.put-a.ensures c.put_value.ensures.put);
  upper_bound = omega (arith, c.put_value.ensures.upper_bound, c.put-a.ensures.next);
}
