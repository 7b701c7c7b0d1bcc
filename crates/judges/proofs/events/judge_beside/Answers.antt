-- `events::judge_beside` meets its contract. The loop's invariant: what is left to judge, from the tables and the place in the lines that were reached, is what was to
-- judge, and the table stands in the window with its index beside it. Assumes nothing.
use Prim.Native.Nat.{ℕ}
use mathlib.Core.Path.{◌≡◌, sym, ◌∙◌, subst}
use mathlib.Core.List.{List}
use native.Mathlib.Omega.{arith}
use lib.ListN.{length}
use Rattle.judge.proofs.Going.{reached_all}
use Rattle.judges.proofs.Staged.{Stage, stage_none, stage_wrong, stage_fits, stage_next}
use Rattle.judges.proofs.events.judge_beside.Goals as goal

pub loop-i-init : goal.loop-i-init
loop-i-init c =
    let p = c.requires.by_index in
    λ ws w.
    subst
    (λ (xs : List ℕ). Stage c.args.version c.args.first c.args.guests.now xs c.args.flight.now c.args.bytes.now c.args.said.now c.args.size 0 c.args.window.now 0 c.args.first c.args.guests.now c.args.flight.now 0 c.args.index.now)
    (sym p.1.shows ∙ w.shows)
    (stage_none c.args.version c.args.first c.args.guests.now p.0 c.args.flight.now c.args.bytes.now c.args.said.now c.args.size c.args.window.now c.args.index.now p.1 p.2 p.3 p.4)

pub settle-start-requires : goal.settle-start-requires
settle-start-requires c =
    let p = c.requires.by_index in
    let x = c.loop-i.invariant p.0 p.1 in (x.table, x.stands)

pub slice_bounds-hear_in-count : goal.slice_bounds-hear_in-count
slice_bounds-hear_in-count c = let p = c.requires.by_index in omega (arith, (c.loop-i.invariant p.0 p.1).holds.fits)

pub slice_bounds-hear_in-start : goal.slice_bounds-hear_in-start
slice_bounds-hear_in-start c = let p = c.requires.by_index in omega (arith, (c.loop-i.invariant p.0 p.1).holds.fits)

pub hear_in-heard-requires : goal.hear_in-heard-requires
hear_in-heard-requires c =
    let l = c.loop-i in
    let p = c.requires.by_index in
    let x = l.invariant p.0 p.1 in record {
      from_in_bounds = omega (arith, c.loop-i-test.true);
      by_index = (x.table, c.settle-start.ensures.by_index x.table x.stands, x.holds.known, x.beside, x.snug);
    }

pub returns-in_default : goal.returns-in_default
returns-in_default c =
    let l = c.loop-i in
    let t = c.settle-start in
    let o = c.hear_in-heard in
    λ ws w.
    let x = l.invariant ws w in
    stage_wrong c.args.version c.args.first c.args.guests.now ws c.args.flight.now c.args.bytes.now c.args.said.now c.args.size l.start l.window l.i c.loop-i-test.true l.gate l.guests l.flight l.at l.index x
    t.result _ _ _ _ o.result (o.ensures x.table (t.ensures.by_index x.table x.stands)) c.in_default.is _ c.wrong_at.ensures

pub overflow_add-at : goal.overflow_add-at
overflow_add-at c =
    let l = c.loop-i in
    let t = c.settle-start in
    let o = c.hear_in-heard in
    let p = c.requires.by_index in
    let x = l.invariant p.0 p.1 in
    omega (
      arith,
      stage_fits c.args.version c.args.first c.args.guests.now p.0 c.args.flight.now c.args.bytes.now c.args.said.now c.args.size l.start l.window l.i c.loop-i-test.true l.gate l.guests l.flight l.at l.index x
          t.result _ _ _ _ o.result (o.ensures x.table (t.ensures.by_index x.table x.stands)) c.in-Some.long c.in-Some.is,
      c.well_formed.1.1.1.1.1.1.1.0.0,
    )

pub overflow_add-start : goal.overflow_add-start
overflow_add-start c = omega (arith, c.settle-start.ensures.upper_bound, c.gone_on-start.ensures.upper_bound.0)

pub loop-i-preserved : goal.loop-i-preserved
loop-i-preserved c =
    let l = c.loop-i in
    let t = c.settle-start in
    let o = c.hear_in-heard in
    let g = c.gone_on-start.ensures in
    let whole : length o.new.window ≡ length c.args.window.now = o.auto.window ∙ t.auto.window ∙ l.auto.window in
    λ ws w.
    let x = l.invariant ws w in
    stage_next c.args.version c.args.first c.args.guests.now ws c.args.flight.now c.args.bytes.now c.args.said.now c.args.size l.start l.window l.i c.loop-i-test.true l.gate l.guests l.flight l.at l.index x
    t.result _ _ _ _ o.result (o.ensures x.table (t.ensures.by_index x.table x.stands)) c.in-Some.long c.in-Some.is
    _ g.upper_bound.0 g.by_index o.auto.index (omega (arith, t.ensures.upper_bound, whole, c.requires.size_in_bounds))

pub slice_bounds-judge_rest-count-2 : goal.slice_bounds-judge_rest-count-2
slice_bounds-judge_rest-count-2 c = let p = c.requires.by_index in omega (arith, (c.loop-i.invariant p.0 p.1).holds.fits)

pub slice_bounds-judge_rest-start-2 : goal.slice_bounds-judge_rest-start-2
slice_bounds-judge_rest-start-2 c = let p = c.requires.by_index in omega (arith, (c.loop-i.invariant p.0 p.1).holds.fits)

pub judge_rest-requires : goal.judge_rest-requires
judge_rest-requires c = omega arith

pub returns : goal.returns
returns c =
    let l = c.loop-i in
    λ ws w.
    let x = l.invariant ws w in
    reached_all c.args.version c.args.first c.args.guests.now ws c.args.flight.now c.args.bytes.now c.args.said.now l.i (omega (arith, c.loop-i-test.false, l.auto.i-end)) l.gate l.guests x.table l.flight l.at x.holds _ c.judge_rest.ensures
