-- One test. Assumes nothing.
use mathlib.Core.Path.{sym, ◌∙◌}
use Rattle.sites.proofs.judge_array.Goals as goal

pub returns-then-is_absent : goal.returns-then-is_absent
returns-then-is_absent c = rw (sym c.is_absent.ensures ∙ c.if-is_absent.true)

pub returns : goal.returns
returns c = rw (sym c.is_absent.ensures ∙ c.if-is_absent.false)
