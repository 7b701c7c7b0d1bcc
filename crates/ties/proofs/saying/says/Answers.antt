-- `saying::says` meets its contract: what was put is what is compared. Assumes nothing.
use mathlib.Core.Path.{◌∙◌}
use native.Mathlib.Omega.{arith}
use Rattle.judge.proofs.OneLine.{says_size}
use Rattle.ties.proofs.saying.says.Goals as goal

pub returns : goal.returns
returns c =
    let p = c.put_line-end in
    c.then_some.ensures ∙ says_size p.ensures.put (omega (arith, p.ensures.upper_bound)) c.args.said.now _ c.starts_with.ensures.value
