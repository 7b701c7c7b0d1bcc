-- The loop knows of the rows passed that none is this request, and whether one is of its guest.
use Rattle.walks.specs.SurveyLaws.{Searched}
use Rattle.walks.proofs.survey.own_rows.Given as goal

abbrev pub invariant-loop-row : goal.invariant-loop-row
invariant-loop-row l = Searched l.waiting l.count l.guest l.id l.waits l.row
