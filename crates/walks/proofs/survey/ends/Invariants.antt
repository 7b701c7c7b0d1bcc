-- The loop knows the ends of the rows before its own.
use mathlib.Core.Path.{◌≡◌}
use Rattle.lists.specs.Words.{lowest}
use Rattle.walks.specs.Survey.{highest}
use Rattle.walks.specs.SurveyLaws.{tags}
use Rattle.walks.proofs.survey.ends.Given as goal

abbrev pub invariant-loop-row : goal.invariant-loop-row
invariant-loop-row l = (l.least ≡ lowest (tags l.waiting l.row)) × (l.most ≡ highest (tags l.waiting l.row))
