use mathlib.Core.Path.{sym, ap, ◌∙◌}
use lib.ListN.{length}
use Rattle.std.specs.Prelude.{Err}
use Rattle.std.proofs.lemmas.Result.{err_from_is_err_and}
use Rattle.rules.specs.Refusals.{Verdict, judged}
use Rattle.moved.specs.Moves.{move_tests, moved_shown, room_by}
use Rattle.moved.proofs.Verdicts.{shown-written, shown-refused}
use Rattle.moved.proofs.Movable.{fit}
use Rattle.movers.proofs.carry.Goals as goal

pub write-requires : goal.write-requires
write-requires c =
    let a = c.args in
    let bs = a.trace.now in
    let said = ap moved_shown (sym c.in_ok-long.was) ∙ c.judge.ensures in
    let yes = shown-written (judged (move_tests a.from a.to bs (length a.room.now))) a.to bs _ said in
    fit a.from a.to bs (length a.room.now) c.requires yes

pub returns : goal.returns
returns c =
    let a = c.args in
    let bs = a.trace.now in
    let said = ap moved_shown (sym c.in_ok-long.was) ∙ c.judge.ensures in
    let yes = shown-written (judged (move_tests a.from a.to bs (length a.room.now))) a.to bs _ said in
    λ i. (said i, (c.write.ensures ∙ sym (ap (λ (v : Verdict). room_by v a.to bs a.room.now) yes)) i)

pub returns-in_err-long : goal.returns-in_err-long
returns-in_err-long c =
    let a = c.args in
    let bs = a.trace.now in
    let p = err_from_is_err_and c.from_residual.result c.from_residual.ensures.1 in
    let said = ap moved_shown (sym c.in_err-long.was) ∙ c.judge.ensures in
    λ i. ((ap moved_shown (p.1 ∙ ap Err p.2) ∙ said) i, sym (shown-refused (judged (move_tests a.from a.to bs (length a.room.now))) a.to bs a.room.now c.in_err-long.field-0.0 said) i)
