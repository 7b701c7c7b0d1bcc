-- By what is asked. Assumes nothing.
use mathlib.Core.Path.{sym, ap, ◌∙◌}
use Rattle.rules.specs.Refusals.{judged}
use Rattle.arrays.specs.declared.Ask.{Ask}
use Rattle.arrays.specs.Promise.{place_tests}
use Rattle.sites.proofs.judge_place.Goals as goal

pub returns-in-Arrives : goal.returns-in-Arrives
returns-in-Arrives c =
    let a = c.args in
    c.judge_guest.ensures ∙ ap (λ (k : Ask). judged (place_tests a.site a.gate k)) (sym c.in-Arrives.is)

pub returns-in-Completes : goal.returns-in-Completes
returns-in-Completes c =
    let a = c.args in
    c.judge_guest-in-Completes.ensures ∙ ap (λ (k : Ask). judged (place_tests a.site a.gate k)) (sym c.in-Completes.is)

pub returns-in-Ticks : goal.returns-in-Ticks
returns-in-Ticks c =
    let a = c.args in
    c.judge_array.ensures ∙ ap (λ (k : Ask). judged (place_tests a.site a.gate k)) (sym c.in-Ticks.is)
