use Prim.Native.Nat.{ℕ, ◌+◌, ◌-◌, ◌/◌, ◌≤◌, ◌<◌}
use mathlib.Core.Path.{◌≡◌, refl, sym, ap, ◌∙◌, subst}
use mathlib.Core.Bool.{true, false, not}
use native.Mathlib.Omega.{arith}
use lib.Dec.{eqb}
use lib.ListN.{length}
use borrow.Author.Tests.{eq-eqb, ne_eqb, not-true, not-false}
use Rattle.std.specs.Prelude.{Err}
use Rattle.moved.specs.declared.Stopped.{Stopped}
use Rattle.std.proofs.lemmas.Result.{err_from_is_err_and}
use Rattle.lists.specs.Words.{all}
use Rattle.lists.specs.WordsLaws.{join, left_fails, right_fails}
use Rattle.lists.specs.Tab.{tab}
use Rattle.rules.specs.declared.Refusal.TheVariants.{BadEvent, EventCut, NoWayBack}
use Rattle.trace.specs.Header.{body, guests_of, rule_of, settings_at}
use Rattle.trace.specs.Event.{whole}
use Rattle.trace.specs.Answers.{event_bytes}
use Rattle.moved.specs.Moves.{is_bad, is_dear, first_that, bad_in, dear_in, cut_in, creditless, plainly_set, plain, event_in, event_number, moved_shown, refused_by}
use Rattle.moved.proofs.Bytes.{length_moved}
use Rattle.moved.proofs.First.{made-number, some-number, none-number}
use Rattle.moved.proofs.Verdicts.{shown_by, rest-reads, rest_long, body_bad, body-cut, body_dear, body-room}
use Rattle.movable.proofs.judge_body.Goals as goal
use Rattle.movable.proofs.judge_body.Goals.{then-opened-ne1-via-then-opened-ne1, then-opened-ne1-via-else-opened-ne1+then-not-is_creditless}

pub returns-in_err-dear : goal.returns-in_err-dear
returns-in_err-dear c =
    let a = c.args in
    let bs = a.trace.now in
    let o = a.opened in
    let h = c.requires in
    let b = c.body-at in
    let reads = rest-reads o.version o.guests o.rule bs h b.result b.ensures in
    let s = c.in_err-dear.field-0.0 in
    let p = err_from_is_err_and c.from_residual.result c.from_residual.ensures.1 in
    let seen = c.in_err-dear.ensures in
    let bad : event_number s.event ≡ bad_in bs = seen.2 ∙ ap (first_that is_bad 0) reads in
    ap moved_shown (p.1 ∙ ap Err p.2) ∙ shown_by _ a.to bs BadEvent s (body_bad a.to bs a.room (omega (arith, bad, seen.1))) seen.0 bad

pub returns-then-whole-rest : goal.returns-then-whole-rest
returns-then-whole-rest c =
    let a = c.args in
    let bs = a.trace.now in
    let o = a.opened in
    let h = c.requires in
    let b = c.body-at in
    let reads = rest-reads o.version o.guests o.rule bs h b.result b.ensures in
    let seen = c.in_ok-dear.ensures in
    let good : bad_in bs ≡ 0 = sym (ap (first_that is_bad 0) reads) ∙ seen.0 in
    let long = rest_long o.version o.guests o.rule bs h b.result b.ensures in
    let whole_is : (length bs - b.result) / 14 + 1 ≡ whole (event_bytes bs) + 1 = ap (λ (k : ℕ). k / 14 + 1) long in
    shown_by _ a.to bs EventCut (record { why = EventCut; event = c.new.result }) (body-cut a.to bs a.room good (omega (arith, long, c.if-whole-rest.true))) refl (made-number c.new.result _ c.new.ensures ∙ whole_is)

pub returns-then-opened-ne1 : goal.returns-then-opened-ne1
returns-then-opened-ne1 c =
    let a = c.args in
    let bs = a.trace.now in
    let o = a.opened in
    let h = c.requires in
    let b = c.body-at in
    let reads = rest-reads o.version o.guests o.rule bs h b.result b.ensures in
    let seen = c.in_ok-dear.ensures in
    let good : bad_in bs ≡ 0 = sym (ap (first_that is_bad 0) reads) ∙ seen.0 in
    let long = rest_long o.version o.guests o.rule bs h b.result b.ensures in
    let uncut : cut_in bs ≡ 0 = omega (arith, long, c.if-whole-rest.false) in
    let set : plainly_set bs ≡ false
    = elim c.then-opened-ne1.branch [
      | then-opened-ne1-via-then-opened-ne1 w ↦ left_fails _ (ne_eqb (rule_of bs) 1 (λ z. w.if-opened-ne1.true (h.rule_is ∙ z)))
      | then-opened-ne1-via-else-opened-ne1+then-not-is_creditless w ↦
          let credits = w.is_creditless.ensures ∙ (λ i. all creditless (tab (h.guests_is i) (settings_at (h.version_is i) bs))) in
          right_fails (eqb (rule_of bs) 1) (sym credits ∙ not-true _ (ap not w.if-not-is_creditless.true))
    ] in
    let given : event_in bs NoWayBack ≡ 0 = rw set refl in
    ap (λ (s : Stopped). moved_shown (Err s)) c.from.ensures ∙ shown_by _ a.to bs NoWayBack (refused_by NoWayBack) (body_dear a.to bs a.room good uncut (left_fails _ set)) refl (sym given)

pub returns-then-is_some : goal.returns-then-is_some
returns-then-is_some c =
    let a = c.args in
    let bs = a.trace.now in
    let o = a.opened in
    let h = c.requires in
    let b = c.body-at in
    let reads = rest-reads o.version o.guests o.rule bs h b.result b.ensures in
    let seen = c.in_ok-dear.ensures in
    let good : bad_in bs ≡ 0 = sym (ap (first_that is_bad 0) reads) ∙ seen.0 in
    let long = rest_long o.version o.guests o.rule bs h b.result b.ensures in
    let uncut : cut_in bs ≡ 0 = omega (arith, long, c.if-whole-rest.false) in
    let dear : event_number c.in_ok-dear.dear ≡ dear_in bs = seen.1 ∙ ap (first_that is_dear 0) reads in
    let credits = c.is_creditless.ensures ∙ (λ i. all creditless (tab (h.guests_is i) (settings_at (h.version_is i) bs))) in
    let set : plainly_set bs ≡ true = join (eq-eqb (rule_of bs) 1 (sym h.rule_is ∙ c.if-opened-ne1.false)) (sym credits ∙ not-false _ (ap not c.if-not-is_creditless.false)) in
    let some : 0 < event_number c.in_ok-dear.dear = some-number c.in_ok-dear.dear (sym c.is_some.ensures ∙ c.if-is_some.true) in
    let says : plain bs ≡ false = right_fails (plainly_set bs) (ne_eqb (dear_in bs) 0 (λ z. omega (arith, dear, some))) in
    let given : event_in bs NoWayBack ≡ dear_in bs = rw set refl in
    shown_by _ a.to bs NoWayBack (record { why = NoWayBack; event = c.in_ok-dear.dear }) (body_dear a.to bs a.room good uncut says) refl (dear ∙ sym given)

pub returns : goal.returns
returns c =
    let a = c.args in
    let bs = a.trace.now in
    let o = a.opened in
    let h = c.requires in
    let b = c.body-at in
    let reads = rest-reads o.version o.guests o.rule bs h b.result b.ensures in
    let seen = c.in_ok-dear.ensures in
    let good : bad_in bs ≡ 0 = sym (ap (first_that is_bad 0) reads) ∙ seen.0 in
    let long = rest_long o.version o.guests o.rule bs h b.result b.ensures in
    let uncut : cut_in bs ≡ 0 = omega (arith, long, c.if-whole-rest.false) in
    let dear : event_number c.in_ok-dear.dear ≡ dear_in bs = seen.1 ∙ ap (first_that is_dear 0) reads in
    let credits = c.is_creditless.ensures ∙ (λ i. all creditless (tab (h.guests_is i) (settings_at (h.version_is i) bs))) in
    let set : plainly_set bs ≡ true = join (eq-eqb (rule_of bs) 1 (sym h.rule_is ∙ c.if-opened-ne1.false)) (sym credits ∙ not-false _ (ap not c.if-not-is_creditless.false)) in
    let none = none-number c.in_ok-dear.dear (sym c.is_some.ensures ∙ c.if-is_some.false) in
    let says : plain bs ≡ true = join set (eq-eqb (dear_in bs) 0 (sym dear ∙ none)) in
    let fits = subst (λ (v : ℕ). body v (guests_of bs) ≤ length bs) h.version_is (subst (λ (n : ℕ). body o.version n ≤ length bs) h.guests_is h.whole) in
    let to-long : c.body.result ≡ body a.to (guests_of bs) = c.body.ensures ∙ ap (body a.to) h.guests_is in
    ap moved_shown (c.room_for.ensures ∙ body-room a.to bs a.room good uncut says c.body.result (length bs - b.result) (omega (arith, to-long, long, length_moved a.to bs fits)))
