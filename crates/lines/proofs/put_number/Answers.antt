use native.Mathlib.Omega.{arith}
use mathlib.Core.Path.{sym, ◌∙◌}
use Rattle.lines.proofs.PutLaws.{put_as}
use Rattle.lines.proofs.Decimal.{few, decimal_is}
use Rattle.lines.proofs.put_number.Goals as goal

pub put_all-requires : goal.put_all-requires
put_all-requires c =
    let d = c.decimal-k in
    omega (arith, few d.result c.args.n d.ensures.len c.ranges.n.fits, c.requires)

pub returns : goal.returns
returns c =
    let d = c.decimal-k in record {
      put = put_as (sym (decimal_is d.result c.args.n d.ensures.len) ∙ sym d.ensures.digits) c.put_all.ensures;
      upper_bound = omega (arith, c.put_all.ensures.next, few d.result c.args.n d.ensures.len c.ranges.n.fits);
    }
