use Rattle.std.proofs.Common.{refl, ap, ◌∙◌, ◌++◌, ◌+◌, ◌-◌, length, take, drop, arith}
use Rattle.lists.specs.Sets.{sets_part}
use Rattle.lines.proofs.put_all.Goals as goal

pub returns : goal.returns
returns c =
    let at = c.args.at in
    let ys = c.args.out.now in
    let k = at + length c.args.src.now - at in
    record {
      next = refl;
      bytes = ap (λ l. take at ys ++ (l ++ drop k (drop at ys))) c.copy_from_slice.ensures.after ∙ sets_part ys at k c.args.src.now c.requires (omega arith);
    }
