use mathlib.Core.Path.{sym, ap, ◌∙◌}
use lib.ListN.{length}
use Rattle.std.specs.Prelude.{Err}
use Rattle.std.proofs.lemmas.Result.{err_from_is_err_and}
use Rattle.rules.specs.Refusals.{Verdict}
use Rattle.trace.proofs.Shown.{header_shown_once}
use Rattle.salvage.specs.Salvages.{salvaged_shown, leaves_by}
use Rattle.salvage.proofs.Verdicts.{header_refused, behind_header, header_begun}
use Rattle.saves.proofs.salvage.Goals as goal

pub returns-in_err-opened : goal.returns-in_err-opened
returns-in_err-opened c =
    let a = c.args in
    let bs = a.trace.now in
    let x = c.read_header in
    let e = header_shown_once x.result _ x.ensures in
    let p = err_from_is_err_and c.from_residual.result c.from_residual.ensures.1 in
    (λ i. (salvaged_shown ((p.1 ∙ ap Err p.2) i), a.room.now, a.list.now))
    ∙ sym (ap (λ (v : Verdict). leaves_by v bs a.room.now a.list.now) (header_refused bs (length a.room.now) (length a.list.now) _ (sym e ∙ c.in_err-opened.was)))

pub sort-requires : goal.sort-requires
sort-requires c =
    let a = c.args in
    let x = c.read_header in
    let e = header_shown_once x.result _ x.ensures in
    header_begun a.trace.now _ _ (sym e ∙ c.in_ok-opened.was) c.body-at.ensures

pub returns : goal.returns
returns c =
    let a = c.args in
    let bs = a.trace.now in
    let x = c.read_header in
    let e = header_shown_once x.result _ x.ensures in
    c.sort.ensures
    ∙ sym (ap (λ (v : Verdict). leaves_by v bs a.room.now a.list.now) (behind_header bs (length a.room.now) (length a.list.now) _ (sym e ∙ c.in_ok-opened.was)))
