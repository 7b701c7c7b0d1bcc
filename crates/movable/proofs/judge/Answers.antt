use mathlib.Core.Path.{sym, ap, ◌∙◌}
use Rattle.std.specs.Prelude.{Err}
use Rattle.std.proofs.lemmas.Result.{err_from_is_err_and}
use Rattle.rules.specs.Refusals.{Verdict}
use Rattle.trace.proofs.Shown.{header_shown_once}
use Rattle.moved.specs.Moves.{moved_shown, answer_by}
use Rattle.moved.proofs.Verdicts.{header_headed, header_refused, behind_header}
use Rattle.movable.proofs.judge.Goals as goal

pub returns-in_err-opened : goal.returns-in_err-opened
returns-in_err-opened c =
    let a = c.args in
    let x = c.read_header_for in
    let e = header_shown_once x.result _ x.ensures in
    let p = err_from_is_err_and c.from_residual.result c.from_residual.ensures.1 in
    ap moved_shown (p.1 ∙ ap Err p.2 ∙ header_refused a.from a.to a.trace.now a.room _ (sym e ∙ c.in_err-opened.was))

pub judge_body-requires : goal.judge_body-requires
judge_body-requires c =
    let a = c.args in
    let x = c.read_header_for in
    let e = header_shown_once x.result _ x.ensures in
    header_headed a.from a.trace.now _ (sym e ∙ c.in_ok-opened.was)

pub returns : goal.returns
returns c =
    let a = c.args in
    let x = c.read_header_for in
    let e = header_shown_once x.result _ x.ensures in
    c.judge_body.ensures ∙ sym (ap (λ (v : Verdict). moved_shown (answer_by v a.to a.trace.now)) (behind_header a.from a.to a.trace.now a.room _ (sym e ∙ c.in_ok-opened.was)))
