-- What was found, or what follows. Assumes nothing.
use mathlib.Core.Path.{sym, ap, ◌∙◌}
use Rattle.arrays.specs.Promise.{seen_at}
use Rattle.arrays.specs.Steps.{verdict_of}
use Rattle.arrays.proofs.Follows.{open_refused}
use Rattle.house.proofs.open.Goals as goal

pub begin-requires : goal.begin-requires
begin-requires c = sym c.judge_opening-found.ensures ∙ ap verdict_of c.in-Ok.is

pub returns-in-Err : goal.returns-in-Err
returns-in-Err c =
    let a = c.args in
    ap seen_at (open_refused a.site a.opening.setup.depth a.opening.guests a.opening.setup.capacity a.opening.setup.rule a.settings.now a.guests.now a.waiting.now a.flight.now a.counters.now a.phases.now _ c.judge_opening-found.ensures _ c.in-Err.is _ c.not_opened.ensures)

pub returns-in-Ok : goal.returns-in-Ok
returns-in-Ok c = ap seen_at c.begin.ensures
