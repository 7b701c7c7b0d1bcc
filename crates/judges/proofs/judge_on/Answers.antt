-- `judge_on` meets its contract, by the header. Assumes nothing.
use mathlib.Core.Path.{sym, ◌∙◌}
use Rattle.trace.proofs.Shown.{header_shown_once}
use Rattle.judges.proofs.judge_on.Goals as goal

pub judge_refused-requires : goal.judge_refused-requires
judge_refused-requires c =
    let r = c.read_header in sym (header_shown_once r.result _ r.ensures) ∙ c.in-Err.is

pub judge_opened-requires : goal.judge_opened-requires
judge_opened-requires c =
    let r = c.read_header in sym (header_shown_once r.result _ r.ensures) ∙ c.in-Ok.is
