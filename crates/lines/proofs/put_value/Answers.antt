use native.Mathlib.Omega.{arith}
use mathlib.Core.Path.{ap}
use mathlib.Core.List.{◌∷◌, append-nil}
use Rattle.lines.specs.Line.{decimal_of}
use Rattle.lines.proofs.PutLaws.{puts, put_as}
use Rattle.lines.proofs.put_value.Goals as goal

pub returns : goal.returns
returns c = record {
  put = put_as (ap (32 ∷◌) (append-nil (decimal_of c.args.n))) (puts c.put-a.ensures c.put_number.ensures.put);
  upper_bound = omega (arith, c.put_number.ensures.upper_bound, c.put-a.ensures.next);
}
