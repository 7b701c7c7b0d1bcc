-- `find_flight` meets its contract. No row before the place reached has the name. Assumes nothing.
use mathlib.Core.Path.{◌≡◌}
use native.Mathlib.Omega.{arith}
use borrow.Author.Count.{below_more}
use Rattle.walks.specs.WalksRows.{not_guest, not_id, finds-at, finds_nothing}
use Rattle.walks.proofs.flight.find_flight.Goals as goal
use Rattle.walks.proofs.flight.find_flight.Goals.{else-flight-at-via-then-flight-at+else-flight-at-2, else-flight-at-via-else-flight-at}

pub returns-then-flight-at-2 : goal.returns-then-flight-at-2
returns-then-flight-at-2 c =
    let s = c.loop-place in
    let a = c.args in
    finds-at a.flight.now a.count a.guest a.id s.place c.loop-place-test.true c.if-flight-at.true c.if-flight-at-2.true s.invariant

pub loop-place-preserved : goal.loop-place-preserved
loop-place-preserved c =
    let s = c.loop-place in
    let a = c.args in
    let here = c.loop-place-test.true in
    below_more _ s.place s.invariant
    (elim c.else-flight-at.branch [
      | else-flight-at-via-then-flight-at+else-flight-at-2 v ↦ not_id a.flight.now a.count a.guest a.id s.place here v.if-flight-at-2.false
      | else-flight-at-via-else-flight-at v ↦ not_guest a.flight.now a.count a.guest a.id s.place here v.if-flight-at.false
    ])

pub returns : goal.returns
returns c =
    let s = c.loop-place in
    let a = c.args in
    let e : s.place ≡ a.count = omega arith in
    finds_nothing a.flight.now a.count a.guest a.id (rw e at s.invariant)
