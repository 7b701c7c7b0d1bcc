use native.Mathlib.Omega.{arith}
use Prim.Native.Nat.{ℕ, ◌+◌}
use mathlib.Core.Path.{sym, ap, ◌∙◌, subst}
use mathlib.Core.List.{List, ◌++◌}
use lib.ListN.{take, drop, length-take, length-drop}
use lib.Seq.{take-add}
use Rattle.port.specs.Moves.{Goes, brought}
use Rattle.port.specs.declared.Moved.{Moved}
use Rattle.stream.proofs.Emitting.{within}
use Rattle.pages.specs.Standing.{stand_of}
use Rattle.rolls.proofs.Pumping.{turned, closes, read_none, read_failed, Pumping, pumps, pumped_out}
use Rattle.rolls.proofs.pump.Goals as goal

pub loop-turn-init : goal.loop-turn-init
loop-turn-init c = let p = c.requires in (p.first_in_bounds, omega arith, p.firm, record { standing = p.standing; count = omega arith })

pub take_in-turn-requires : goal.take_in-turn-requires
take_in-turn-requires c =
    let l = c.loop-turn in record {
      have_in_bounds = (l.invariant.0, omega (arith, l.invariant.0, l.invariant.1, c.loop-turn-test.true));
      firm = l.invariant.2;
    }

pub refill-requires : goal.refill-requires
refill-requires c = omega (arith, c.take_in-turn.ensures.rest_bound.0)

pub overflow_add-have : goal.overflow_add-have
overflow_add-have c = omega (arith, (within c.in-Bytes.is c.refill.ensures.within).1, c.take_in-turn.ensures.rest_bound.0)

pub finish-requires : goal.finish-requires
finish-requires c =
    let t = c.take_in-turn in
    let r = c.refill in
    closes _ t.result.number _ (take t.result.rest t.new.buffer) t.result.gate _ _ _ _ _ t.ensures.firm_2
    (read_none _ _ _ r.result (drop t.result.rest r.new.buffer) r.ensures.goes (turned t.ensures.figures_after c.loop-turn.invariant.3.standing) c.in-Nothing.is)
    (omega (arith, length-take t.result.rest t.new.buffer, t.ensures.rest_bound.0))

pub returns-in-Failed : goal.returns-in-Failed
returns-in-Failed c =
    let t = c.take_in-turn in
    let r = c.refill in
    read_failed _ _ _ r.result (drop t.result.rest r.new.buffer) r.ensures.goes (turned t.ensures.figures_after c.loop-turn.invariant.3.standing) c.in-Failed.is

pub loop-turn-preserved : goal.loop-turn-preserved
loop-turn-preserved c =
    let l = c.loop-turn in
    let t = c.take_in-turn in
    let r = c.refill in
    let k = c.in-Bytes.more in
    let rest = t.result.rest in
    let cs = r.new.buffer in
    let w = within c.in-Bytes.is r.ensures.within in (
      omega (arith, w.1, t.ensures.rest_bound.0),
      omega (arith, t.ensures.rest_bound.1, l.invariant.0, l.invariant.1),
      t.ensures.firm_2,
      subst (λ (x : List ℕ). Pumping r.new.log (stand_of c.args.version x t.result.gate t.new.guests t.new.waiting t.new.flight t.new.book t.new.figures) (l._turn + 1))
          (ap (λ (x : List ℕ). x ++ take k (drop rest cs)) (sym r.ensures.buffer_unchanged) ∙ sym (take-add rest k cs))
          (pumps l.log r.new.log _ _ l._turn t.ensures.figures_after (drop rest cs) k
          (subst (λ (x : Moved). Goes (brought x (drop rest cs)) l.log r.new.log) c.in-Bytes.is r.ensures.goes)
          w.0 (omega (arith, w.1, length-drop rest cs, t.ensures.rest_bound.0)) l.invariant.3),
    )

pub returns : goal.returns
returns c = let l = c.loop-turn in pumped_out _ _ l._turn (omega (arith, c.loop-turn-test.false)) l.invariant.3
