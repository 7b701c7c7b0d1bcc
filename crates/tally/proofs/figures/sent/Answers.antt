use Rattle.std.proofs.Common.{◌≡◌, refl, sym, ◌∙◌, ◌<◌, ◌^◌, true≢false, rules}
use Rattle.tally.specs.Columns.{LOWER, figure_at}
use Rattle.tally.specs.Notes.{sent_at, sent_for}
use Rattle.tally.proofs.SentRow.{sent_is, carried, reserved_is, weighed_is}
use Rattle.tally.proofs.figures.sent.Goals as goal
use Rattle.tally.proofs.figures.sent.Goals.{in-Reservation, in_default, then-reserved, else-reserved}

pub returns : goal.returns
returns c =
    let a = c.args in
    let o = c.overflowing_add-lower in
    let f = c.from-3.result in
    let low : figure_at a.figures.now a.guest LOWER < 2 ^ 64 = search rules in
    let carry = c.from-4.ensures ∙ carried o.result.1 (figure_at a.figures.now a.guest LOWER) a.wait low c.ranges.wait.fits o.ensures.overflow in
    let by_phase : sent_at a.guest c.from.result c.from-2.result f a.wait a.figures.now ≡ sent_for a.phase a.guest a.ahead a.wait a.figures.now =
    elim c.match-matches.branch [
      | in-Reservation w ↦ elim c.if-reserved.branch [
        | then-reserved v ↦ reserved_is a.phase a.guest a.wait a.figures.now a.ahead _ _ _ _ f c.from.ensures c.from-2.ensures c.from-3.ensures w.in-Reservation.is w.matches-is v.from-is
        | else-reserved v ↦ absurd (true≢false (sym w.matches-is ∙ v.if-reserved.false))
      ]
      | in_default w ↦ elim c.if-reserved.branch [
        | then-reserved v ↦ absurd (true≢false (sym v.if-reserved.true ∙ w.matches-is))
        | else-reserved v ↦ weighed_is a.phase a.guest a.wait a.figures.now a.ahead _ _ _ _ f c.from.ensures c.from-2.ensures c.from-3.ensures w.in_default.is w.matches-is (v.from-is ∙ w.matches-is)
      ]
    ]
    in
    sent_is a.guest a.wait a.figures.now c.from.result c.from-2.result f c.from-4.result o.result.0 c.max.result _ _ _ _ _ refl refl refl refl refl c.max.ensures carry o.ensures.value ∙ by_phase
