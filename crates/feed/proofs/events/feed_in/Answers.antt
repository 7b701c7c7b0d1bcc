-- `events::feed_in` meets its contract. The loop's invariant: the events so far were judged, and the table stands in the window with its index beside it. Assumes nothing.
use Prim.Native.Nat.{ℕ}
use mathlib.Core.Path.{◌≡◌, subst, ◌∙◌, sym}
use mathlib.Core.List.{List}
use native.Mathlib.Omega.{arith}
use lib.ListN.{length}
use Rattle.table.specs.View.{Known}
use Rattle.feed.proofs.Going.{Going}
use Rattle.feed.proofs.Staged.{Stage, stage_none, stage_next}
use Rattle.feed.proofs.events.feed_in.Goals as goal

pub loop-i-init : goal.loop-i-init
loop-i-init c =
    let p = c.requires.by_index in (
      omega arith,
      omega arith,
      λ ws w.
          let e = sym p.1.shows ∙ w.shows in
          subst (λ (xs : List ℕ). Stage c.args.version c.args.first c.args.guests.now xs c.args.flight.now c.args.bytes.now c.args.number c.args.out.now c.args.size 0 c.args.window.now 0 c.args.first c.args.guests.now c.args.flight.now c.args.out.now 0 c.args.index.now) e
          (stage_none c.args.version c.args.first c.args.guests.now p.0 c.args.flight.now p.2 c.args.bytes.now c.args.number c.args.out.now c.args.size c.args.window.now c.args.index.now p.1 p.3 p.4),
    )

pub settle-start-requires : goal.settle-start-requires
settle-start-requires c =
    let p = c.requires.by_index in
    let st = c.loop-i.invariant.2 p.0 p.1 in (st.table, st.stands)

pub one_in-after-requires : goal.one_in-after-requires
one_in-after-requires c =
    let l = c.loop-i in
    let n = c.min-n.ensures in
    let p = c.requires.by_index in
    let st = l.invariant.2 p.0 p.1 in record {
      from_in_bounds = omega (arith, c.loop-i-test.true, n);
      at_in_bounds = omega (arith, c.loop-i-test.true, l.invariant.0, l.auto.out, n);
      by_index = (st.table, c.settle-start.ensures.by_index st.table st.stands, st.holds.became.known, st.beside, st.snug);
    }

pub overflow_add-start : goal.overflow_add-start
overflow_add-start c = omega (arith, c.settle-start.ensures.upper_bound, c.one_in-after.ensures.gone_bound.0)

pub loop-i-preserved : goal.loop-i-preserved
loop-i-preserved c =
    let l = c.loop-i in
    let t = c.settle-start in
    let o = c.one_in-after in
    let k = o.auto in
    let p = c.requires.by_index in
    let st = l.invariant.2 p.0 p.1 in
    let j = o.ensures.by_index_2 st.table (t.ensures.by_index st.table st.stands) in
    let whole : length o.new.window ≡ length c.args.window.now = k.window ∙ t.auto.window ∙ l.auto.window in (
      omega (arith, j.2.short, l.invariant.0),
      omega (arith, t.ensures.upper_bound, o.ensures.gone_bound.0),
      λ ws w.
          let e = sym p.1.shows ∙ w.shows in
          let x = l.invariant.2 ws w in
          let known = subst (λ (xs : List ℕ). Known c.args.first c.args.guests.now xs c.args.flight.now) e p.2 in
          stage_next c.args.version c.args.first c.args.guests.now ws c.args.flight.now known c.args.bytes.now c.args.number c.args.out.now c.args.size
          l.start l.window l.i l.gate l.guests l.flight l.out l.at l.index x
          t.result o.result.gone _ _ _ _ _ _ _ (o.ensures.by_index_2 x.table (t.ensures.by_index x.table x.stands)) o.ensures.gone_bound.0
          (λ some. omega (arith, t.ensures.upper_bound, whole, c.requires.size_in_bounds (omega (arith, o.ensures.gone_bound.1 some, l.auto.index)))) k.index,
    )

pub returns : goal.returns
returns c =
    let s = c.loop-i in
    let a = c.args in
    let n = c.min-n in
    let e : s.i ≡ n.result = omega (arith, c.loop-i-test.false, s.auto.i-end) in
    λ ws w.
    let st = s.invariant.2 ws w in
    let g = subst (λ (k : ℕ). Going a.version a.first a.guests.now ws a.flight.now a.bytes.now a.number a.out.now k s.gate s.guests st.table s.flight s.out s.at) e st.holds in
    (st.table, st.stands, record { taken = n.ensures; became = g.became; lines = g.lines; room = omega (arith, n.ensures, s.invariant.0, e) })
