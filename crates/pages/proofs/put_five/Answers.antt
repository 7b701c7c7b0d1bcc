use native.Mathlib.Omega.{arith}
use mathlib.Core.List.{[], ◌∷◌}
use Rattle.pages.proofs.Printing.{value_behind}
use Rattle.pages.proofs.put_five.Goals as goal

pub returns : goal.returns
returns c =
    let a = c.args in
    let h = c.put_value-i.ensures in
    let i = c.put_value-j.ensures in
    let j = c.put_value-k.ensures in
    let k = c.put_value-l.ensures in
    let l = c.put_value.ensures in record {
      put = value_behind (a.a ∷ a.b ∷ a.c ∷ a.d ∷ []) a.e
          (value_behind (a.a ∷ a.b ∷ a.c ∷ []) a.d (value_behind (a.a ∷ a.b ∷ []) a.c (value_behind (a.a ∷ []) a.b h.put i.put) j.put) k.put)
          l.put;
      upper_bound = omega (arith, h.upper_bound, i.upper_bound, j.upper_bound, k.upper_bound, l.upper_bound);
    }
