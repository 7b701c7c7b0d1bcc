-- What was found, or what follows. Assumes nothing.
use mathlib.Core.Path.{sym, ap, ◌∙◌}
use Rattle.arrays.specs.Promise.{seen_at}
use Rattle.arrays.specs.Steps.{verdict_of}
use Rattle.arrays.proofs.Follows.{ask_refused}
use Rattle.house.proofs.ask.Goals as goal

pub follow-requires : goal.follow-requires
follow-requires c = sym c.judge-found.ensures ∙ ap verdict_of c.in-Ok.is

pub returns-in-Err : goal.returns-in-Err
returns-in-Err c =
    let a = c.args in
    ap seen_at (ask_refused a.site a.gate a.guests.now a.waiting.now a.flight.now a.counters.now a.phases.now a.what c.judge-found.result c.judge-found.ensures _ c.in-Err.is _ c.refused.ensures)

pub returns-in-Ok : goal.returns-in-Ok
returns-in-Ok c = ap seen_at c.follow.ensures
