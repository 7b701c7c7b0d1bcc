use native.Mathlib.Omega.{arith}
use mathlib.Core.Path.{ap}
use mathlib.Core.List.{[], ◌∷◌}
use Rattle.lines.proofs.PutLaws.{puts, put_as}
use Rattle.lines.proofs.LineLaws.{spaced-append}
use Rattle.lines.proofs.put_sent.Goals as goal

pub returns : goal.returns
returns c =
    let a = c.args in record {
      put = put_as (ap (a.first ∷◌) (spaced-append (a.guest ∷ []) (a.id ∷ []))) (puts c.put-a.ensures (puts c.put_value-b.ensures.put c.put_value.ensures.put));
      upper_bound = omega (arith, c.put_value.ensures.upper_bound, c.put_value-b.ensures.upper_bound, c.put-a.ensures.next);
    }
