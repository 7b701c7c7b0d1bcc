-- The loop keeps `Stage`: after k events the table stands in the window, and the host and the answers are those of k events one by one. Assumes nothing.
use Prim.Native.Nat.{ℕ}
use mathlib.Core.Path.{◌≡◌, refl, sym, ◌∙◌, subst}
use mathlib.Core.List.{List}
use native.Mathlib.Omega.{arith}
use lib.ListN.{length}
use Rattle.gate.specs.Promise.{numbers}
use Rattle.batch.specs.Promise.{host_of}
use Rattle.batch.proofs.Going.{going_all}
use Rattle.bulk.proofs.Staged.{Stage, stage_none, stage_next}
use Rattle.bulk.proofs.answer_rows_in.Goals as goal

pub loop-k-init : goal.loop-k-init
loop-k-init c =
    let p = c.requires.by_index in (
      refl,
      refl,
      refl,
      refl,
      refl,
      λ ws w.
          subst (λ (xs : List ℕ). Stage c.args.events.now c.args.found (host_of numbers c.args.first c.args.guests.now xs c.args.flight.now) c.args.answers.now c.args.size 0 c.args.window.now 0 c.args.first c.args.guests.now c.args.flight.now c.args.answers.now c.args.index.now) (sym p.1.shows ∙ w.shows)
          (stage_none c.args.events.now c.args.found c.args.first c.args.guests.now p.0 c.args.flight.now c.args.answers.now c.args.size c.args.window.now c.args.index.now p.1 p.2 p.3 p.4),
    )

pub settle-start-requires : goal.settle-start-requires
settle-start-requires c =
    let p = c.requires.by_index in
    let st = c.loop-k.invariant.5 p.0 p.1 in (st.table, st.stands)

pub answer_row_in-after-requires : goal.answer_row_in-after-requires
answer_row_in-after-requires c =
    let l = c.loop-k in
    let p = c.requires.by_index in
    let st = l.invariant.5 p.0 p.1 in record {
      k_bound = (omega (arith, c.loop-k-test.true), omega (arith, l.invariant.3, c.requires.answer_wide_in_bounds));
      by_index = (st.table, c.settle-start.ensures.by_index st.table st.stands, st.holds.judged, st.beside, st.snug);
    }

pub overflow_add-start : goal.overflow_add-start
overflow_add-start c = omega (arith, c.settle-start.ensures.upper_bound, c.answer_row_in-after.ensures.gone_bound.0)

pub loop-k-preserved : goal.loop-k-preserved
loop-k-preserved c =
    let l = c.loop-k in
    let t = c.settle-start in
    let o = c.answer_row_in-after in
    let whole : length o.new.window ≡ length c.args.window.now = o.auto.window ∙ t.auto.window ∙ l.invariant.1 in (
      o.auto.guests ∙ l.invariant.0,
      whole,
      o.auto.flight ∙ l.invariant.2,
      o.auto.answers ∙ l.invariant.3,
      o.auto.index ∙ l.invariant.4,
      λ ws w.
          let x = l.invariant.5 ws w in
          stage_next c.args.events.now c.args.found c.args.first c.args.guests.now ws c.args.flight.now c.args.answers.now c.args.size
          l.start l.window l.k l.gate l.guests l.flight l.answers l.index x
          t.result o.result.gone _ _ _ _ _ _ (o.ensures.by_index_2 x.table (t.ensures.by_index x.table x.stands)) o.ensures.gone_bound.0
          (λ some. omega (arith, t.ensures.upper_bound, whole, c.requires.size_in_bounds (omega (arith, o.ensures.gone_bound.1 some, l.invariant.4)))) o.auto.index,
    )

pub returns : goal.returns
returns c =
    let a = c.args in
    let l = c.loop-k in
    λ ws w.
    let st = l.invariant.5 ws w in
    (st.table, st.stands, going_all a.events.now a.found a.first a.guests.now ws a.flight.now a.answers.now l.k (omega (arith, c.loop-k-test.false)) c.requires.answer_wide_in_bounds l.gate l.guests st.table l.flight l.answers st.holds)
