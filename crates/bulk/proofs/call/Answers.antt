-- The tests of the whole call, then every event. Assumes nothing.
use mathlib.Core.Path.{sym, ap}
use Rattle.rules.specs.Refusals.{refuse}
use Rattle.rules.specs.declared.Refusal.TheVariants.{AnswersShort, TooManyEvents}
use Rattle.batch.specs.Promise.{seen_batch}
use Rattle.batch.proofs.Whole.{short-judged, many_judged, good-judged, followed, all_done_lem}
use Rattle.bulk.proofs.call.Goals as goal

pub returns-then-answers-count : goal.returns-then-answers-count
returns-then-answers-count c =
    let a = c.args in
    ap seen_batch (sym (followed a.events.now a.answers.now a.gate a.guests.now a.waiting.now a.flight.now (refuse AnswersShort) (short-judged a.events.now a.answers.now c.if-answers-count.true)))

pub returns-then-count-gt-MOST_EVENTS : goal.returns-then-count-gt-MOST_EVENTS
returns-then-count-gt-MOST_EVENTS c =
    let a = c.args in
    ap seen_batch (sym (followed a.events.now a.answers.now a.gate a.guests.now a.waiting.now a.flight.now (refuse TooManyEvents) (many_judged a.events.now a.answers.now c.if-answers-count.false c.if-count-gt-MOST_EVENTS.true)))

pub returns : goal.returns
returns c =
    let a = c.args in
    all_done_lem a.events.now a.answers.now a.gate a.guests.now a.waiting.now a.flight.now (good-judged a.events.now a.answers.now c.if-answers-count.false c.if-count-gt-MOST_EVENTS.false) _ _ _ _ _ c.answer_all-after.ensures
