-- `turn_in` meets its contract. The loop's invariant: the events so far have turned the page, and the table stands in the window with its index beside it. Assumes nothing.
use Prim.Native.Nat.{ℕ}
use mathlib.Core.Path.{◌≡◌, ◌∙◌, subst}
use native.Mathlib.Omega.{arith}
use lib.ListN.{length}
use Rattle.trace.specs.Event.{whole}
use Rattle.tally.specs.Kept.{page_of}
use Rattle.rolls.proofs.Staged.{Stage, stage_none, stage_next}
use Rattle.rolls.proofs.turn_in.Goals as goal

pub loop-i-init : goal.loop-i-init
loop-i-init c =
    let a = c.args in
    stage_none a.version a.bytes.now a.number a.size a.first a.guests.now a.flight.now a.book.now a.figures.now a.index.now a.window.now c.requires.by_index

pub settle-start-requires : goal.settle-start-requires
settle-start-requires c =
    let p = c.requires.by_index in
    let s = c.loop-i.invariant p.0 p.1 in (s.table, s.stands)

pub one_in-after-requires : goal.one_in-after-requires
one_in-after-requires c =
    let r = c.requires in
    let p = r.by_index in
    let t = c.loop-i-test.true in
    let s = c.loop-i.invariant p.0 p.1 in record {
      from_in_bounds = (omega (arith, t), omega (arith, t, r.bytes_bound));
      by_index = (s.table, c.settle-start.ensures.by_index s.table s.stands, s.holds.firm, s.beside, s.snug);
    }

pub overflow_add-start : goal.overflow_add-start
overflow_add-start c = omega (arith, c.settle-start.ensures.upper_bound, c.one_in-after.ensures.gone_bound.0)

pub loop-i-preserved : goal.loop-i-preserved
loop-i-preserved c =
    let a = c.args in
    let l = c.loop-i in
    let t = c.settle-start in
    let o = c.one_in-after in
    let k = o.auto in
    let whole : length o.new.window ≡ length a.window.now = k.window ∙ t.auto.window ∙ l.auto.window in
    λ ws w.
    let s = l.invariant ws w in
    stage_next a.version a.bytes.now a.number a.size l.gate l.guests l.flight l.book l.figures l.index l.window (page_of a.first a.guests.now ws a.flight.now a.book.now a.figures.now) l.start l.i s
    t.result o.result.gone _ _ _ _ _ _ _ (o.ensures.by_index_2 s.table (t.ensures.by_index s.table s.stands)) o.ensures.gone_bound.0
    (λ some. omega (arith, t.ensures.upper_bound, whole, c.requires.size_in_bounds (omega (arith, o.ensures.gone_bound.1 some, l.auto.index)))) k.index

pub returns : goal.returns
returns c =
    let l = c.loop-i in
    let a = c.args in
    let e : l.i ≡ whole a.bytes.now = omega (arith, c.loop-i-test.false, l.auto.i-end) in
    λ ws w.
    let s = subst (λ (k : ℕ). Stage a.version (page_of a.first a.guests.now ws a.flight.now a.book.now a.figures.now) a.bytes.now a.number a.size l.start l.window k l.gate l.guests l.flight l.book l.figures l.index) e (l.invariant ws w) in
    (s.table, s.stands, s.holds.page, s.holds.firm)
