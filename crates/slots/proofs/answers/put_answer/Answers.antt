-- Five writes to a row. Assumes nothing.
use native.Mathlib.Omega.{arith}
use lib.ListN.{length-set}
use Rattle.batch.proofs.Going.{answer_put}
use Rattle.slots.proofs.answers.put_answer.Goals as goal

pub bounds-answers-at-2 : goal.bounds-answers-at-2
bounds-answers-at-2 c = simp length-set (omega arith)

pub bounds-answers-at-3 : goal.bounds-answers-at-3
bounds-answers-at-3 c = simp length-set (omega arith)

pub bounds-answers-at-4 : goal.bounds-answers-at-4
bounds-answers-at-4 c = simp length-set (omega arith)

pub bounds-answers-at-5 : goal.bounds-answers-at-5
bounds-answers-at-5 c = simp length-set (omega arith)

pub returns : goal.returns
returns c =
    answer_put c.args.answers.now c.args.at c.args.outcome c.five_of-reply.result c.five_of-reply.ensures
