use mathlib.Core.Path.{◌≡◌, sym, ap, ◌∙◌}
use native.Mathlib.Omega.{arith}
use lib.ListN.{length, drop, length-drop}
use borrow.Author.Tests.{lt-ltb, le-ltb}
use Rattle.std.specs.Prelude.{Some, None, Err, ok_or}
use Rattle.std.specs.Result.{result_ok}
use Rattle.std.proofs.lemmas.Result.{err_from_is_err_and}
use Rattle.trace.specs.Event.{event_of, Read}
use Rattle.trace.proofs.EventLaws.{event_take}
use Rattle.trace.proofs.Shown.{read-shown_once}
use Rattle.moved.proofs.Parts.{part_is}
use Rattle.salvage.specs.Fates.{by_time, by_read, fate_of}
use Rattle.salvage.specs.declared.Reason.TheVariants.{Bad}
use Rattle.fates.proofs.fate_of.Goals as goal

pub returns-then-bytes-from-lt14 : goal.returns-then-bytes-from-lt14
unfolding fate_of
returns-then-bytes-from-lt14 c =
    let a = c.args in
    simp (lt-ltb (length (drop a.from a.bytes.now)) 14 (omega (arith, length-drop a.from a.bytes.now)))

pub returns-in_err-event : goal.returns-in_err-event
unfolding fate_of
returns-in_err-event c =
    let a = c.args in
    let bs = a.bytes.now in
    let x = c.read_event in
    let e = read-shown_once x.result _ x.ensures ∙ ap (event_of a.version) (part_is bs a.from 14) ∙ event_take a.version (drop a.from bs) in
    let p = err_from_is_err_and c.from_residual.result c.from_residual.ensures.1 in
    let none : x.result ≡ None = c.ok_or.ensures.ok_part ∙ ap result_ok c.in_err-event.was in
    let given = sym c.in_err-event.was ∙ c.ok_or.ensures.value ∙ ap (λ (r : Read). ok_or r Bad) none in
    let why : c.in_err-event.field-0.0 ≡ Bad = cc given in
    simp (le-ltb (length (drop a.from bs)) 14 (omega (arith, length-drop a.from bs, c.if-bytes-from-lt14.false))) (p.1 ∙ ap Err (p.2 ∙ why) ∙ sym (ap (by_read a.last) none) ∙ ap (by_read a.last) e)

pub returns : goal.returns
unfolding fate_of
returns c =
    let a = c.args in
    let bs = a.bytes.now in
    let x = c.read_event in
    let e = read-shown_once x.result _ x.ensures ∙ ap (event_of a.version) (part_is bs a.from 14) ∙ event_take a.version (drop a.from bs) in
    let some : x.result ≡ Some c.in_ok-event.event = c.ok_or.ensures.ok_part ∙ ap result_ok c.in_ok-event.was in
    simp (le-ltb (length (drop a.from bs)) 14 (omega (arith, length-drop a.from bs, c.if-bytes-from-lt14.false)))
    (c.by_time.ensures ∙ ap (by_time a.last) c.moment.ensures ∙ sym (ap (by_read a.last) some) ∙ ap (by_read a.last) e)
