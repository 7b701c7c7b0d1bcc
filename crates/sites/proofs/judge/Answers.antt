-- What is lent, then guest and array. Assumes nothing.
use Rattle.std.specs.Prelude.{◌≡◌, Err}
use Rattle.std.proofs.Common.{rules, ap, ◌∙◌}
use Rattle.arrays.specs.Steps.{verdict_of}
use Rattle.arrays.proofs.Found.{lent_bad, lent-good}
use Rattle.sites.proofs.judge.Goals as goal

pub returns-in_err-judge_lent : goal.returns-in_err-judge_lent
returns-in_err-judge_lent c =
    let a = c.args in
    let e : c.from_residual.result ≡ Err c.in_err-judge_lent.field-0.0 = search rules in
    ap verdict_of e ∙ lent_bad a.site a.gate a.counters.now a.phases.now a.what _ c.judge_lent.ensures _ c.in_err-judge_lent.was

pub returns : goal.returns
returns c =
    let a = c.args in
    lent-good a.site a.gate a.counters.now a.phases.now a.what _ c.judge_lent.ensures c.in_ok-judge_lent.was c.judge_place.result c.judge_place.ensures
