-- `judge_refused` meets its contract. Assumes nothing.
use mathlib.Core.Path.{sym, ap, ◌∙◌}
use native.Mathlib.Omega.{arith}
use Rattle.judge.specs.Judging.{ended}
use Rattle.judge.proofs.OneLine.{put-strips, put-rest}
use Rattle.judge.proofs.Heads.{refused_wrong, refused_right}
use Rattle.judges.proofs.judge_refused.Goals as goal

pub returns-in_default : goal.returns-in_default
returns-in_default c =
    let p = c.put_refusal-end in
    refused_wrong c.args.trace.now c.args.said.now c.args.why c.requires _ (sym (put-strips p.ensures.put (omega (arith, p.ensures.upper_bound)) c.args.said.now _ (sym c.in_default.ensures.cases))) c.wrong_at.ensures

pub returns : goal.returns
returns c =
    let p = c.put_refusal-end in
    let s = c.in-Some.ensures.cases in
    refused_right c.args.trace.now c.args.said.now c.args.why c.requires _ (sym (put-strips p.ensures.put (omega (arith, p.ensures.upper_bound)) c.args.said.now _ (sym s.0)))
    (c.ended.ensures ∙ ap (ended 2) (put-rest p.ensures.put (omega (arith, p.ensures.upper_bound)) c.args.said.now _ s.1))
