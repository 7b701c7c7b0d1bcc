-- Of no row the ends are 0, of the first both are its tag, and each further row moves them.
use mathlib.Core.Path.{◌∙◌}
use native.Mathlib.Omega.{arith}
use Rattle.walks.specs.SurveyLaws.{ends-none, ends-first, low-next, high-next}
use Rattle.walks.proofs.survey.ends.Goals as goal

pub returns-then-count-eq0 : goal.returns-then-count-eq0
returns-then-count-eq0 c = rw c.if-count-eq0.true (ends-none c.args.waiting.now)

pub loop-row-init : goal.loop-row-init
loop-row-init c = ends-first c.args.waiting.now

pub loop-row-preserved : goal.loop-row-preserved
loop-row-preserved c =
    let ws = c.args.waiting.now in
    let s = c.loop-row in
    (c.min-least.ensures ∙ low-next ws s.row s.least (omega arith) s.invariant.0, c.max-most.ensures ∙ high-next ws s.row s.most s.invariant.1)
