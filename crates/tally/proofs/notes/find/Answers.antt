use Rattle.std.proofs.Common.{sym, arith}
use Rattle.tally.proofs.Places.{found_at, found_none}
use Rattle.tally.proofs.notes.find.Goals as goal

pub returns-then-book-at-2-clause-place : goal.returns-then-book-at-2-clause-place
returns-then-book-at-2-clause-place c =
    let a = c.args in
    sym (found_at a.book.now a.count a.guest a.id c.loop-place.place c.loop-place-test.true c.if-book-at-2.true c.if-book-at.true c.loop-place.invariant)

pub returns-clause-place : goal.returns-clause-place
returns-clause-place c =
    let a = c.args in
    sym (found_none a.book.now a.count a.guest a.id (λ j h. c.loop-place.invariant j (omega (arith, h, c.loop-place-test.false))))
