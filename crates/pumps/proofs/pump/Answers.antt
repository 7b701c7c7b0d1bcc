use native.Mathlib.Omega.{arith}
use Prim.Native.Nat.{ℕ, ◌+◌, ◌*◌, ◌≤◌, ◌<◌}
use mathlib.Core.Path.{refl, sym, ap, ◌∙◌, subst}
use mathlib.Core.Bool.{false}
use mathlib.Core.List.{List, ◌++◌}
use lib.ListN.{length, take, drop, length-drop}
use lib.Seq.{length-take-le, take-add}
use borrow.Author.Tests.{not-true, not-false}
use Rattle.trace.specs.Printed.{printed}
use Rattle.feed.specs.Promise.{place_of}
use Rattle.port.specs.Moves.{Goes, brought}
use Rattle.port.specs.declared.Moved.TheVariants.{Bytes}
use Rattle.stream.proofs.Outcomes.{next_unwritten}
use Rattle.stream.specs.Outcome.{MOST}
use Rattle.prints.proofs.Pumping.{standing-next, went_number, turned, follows, ends, Pumping, pumps, pumped_out}
use Rattle.pumps.proofs.pump.Goals as goal

pub loop-turn-init : goal.loop-turn-init
loop-turn-init c =
    let p = c.requires in
    (omega arith, refl, refl, refl, p.first_in_bounds, omega arith, p.known, record { standing = p.standing; count = omega arith })

pub turn-stand-requires : goal.turn-stand-requires
turn-stand-requires c =
    let l = c.loop-turn in record {
      have_in_bounds = (l.invariant.4, omega (arith, l.invariant.4, l.invariant.5, c.loop-turn-test.true));
      known = l.invariant.6;
      next = standing-next l.invariant.7.standing;
    }

pub returns-then-not-stand : goal.returns-then-not-stand
returns-then-not-stand c =
    let t = c.turn-stand in
    next_unwritten printed MOST _ _ _ t.result.written t.ensures.went.emits (standing-next c.loop-turn.invariant.7.standing) (not-true _ c.if-not-stand.true)

pub read_on-requires : goal.read_on-requires
read_on-requires c =
    let t = c.turn-stand in
    let l = c.loop-turn in
    let h = length-take-le l.have l.buffer (omega (arith, l.invariant.0, l.invariant.4)) in
    let counted : t.result.number ≤ 292 * l._turn + 292 = omega (arith, went_number t.ensures.went, h, l.invariant.4, l.invariant.5) in record {
      have_bound = (t.ensures.rest_bound.0, omega (arith, counted, c.loop-turn-test.true));
      rests = (_, _, turned _ _ _ _ t.result.written t.ensures.went (not-false _ c.if-not-stand.false) false l.invariant.7.standing);
    }

-- what is known of the bytes that came
record More (c : goal.In-Continue) : Type 0 where
  some : 0 < c.in-Continue.more
  most : c.in-Continue.more ≤ length (drop c.turn-stand.result.rest c.read_on.new.buffer)
  goes : Goes (brought (Bytes c.in-Continue.more) (drop c.turn-stand.result.rest c.read_on.new.buffer)) c.turn-stand.new.log c.read_on.new.log
  fits : c.turn-stand.result.rest + c.in-Continue.more ≤ 4096

came : (c : goal.In-Continue) → More c
came c =
    let t = c.turn-stand in
    let r = c.read_on in
    let f = follows r.result c.in-Continue.more t.new.log r.new.log (drop t.result.rest r.new.buffer) c.in-Continue.is r.ensures.follows in
    record {
      some = f.0;
      most = f.1;
      goes = f.2;
      fits = omega (arith, f.1, length-drop t.result.rest r.new.buffer, t.ensures.rest_bound.0);
    }

pub overflow_add-have : goal.overflow_add-have
overflow_add-have c = omega (arith, (came c).fits)

pub returns-in-Break : goal.returns-in-Break
returns-in-Break c =
    let r = c.read_on in
    ends r.result _ c.turn-stand.new.log r.new.log (drop c.turn-stand.result.rest r.new.buffer) c.in-Break.is r.ensures.follows

pub loop-turn-preserved : goal.loop-turn-preserved
loop-turn-preserved c =
    let l = c.loop-turn in
    let t = c.turn-stand in
    let r = c.read_on in
    let m = came c in
    let h = length-take-le l.have l.buffer (omega (arith, l.invariant.0, l.invariant.4)) in
    let more = c.in-Continue.more in
    let cs = r.new.buffer in (
      omega arith,
      t.auto.guests ∙ l.invariant.1,
      t.auto.waiting ∙ l.invariant.2,
      t.auto.flight ∙ l.invariant.3,
      m.fits,
      omega (arith, went_number t.ensures.went, h, l.invariant.4, l.invariant.5),
      t.ensures.known_2,
      subst (λ (b : List ℕ). Pumping r.new.log (place_of c.args.version b t.result.number t.result.gate t.new.guests t.new.waiting t.new.flight) (l._turn + 1))
          (ap (λ (b : List ℕ). b ++ take more (drop t.result.rest cs)) (sym r.ensures.buffer_unchanged) ∙ sym (take-add t.result.rest more cs))
          (pumps _ _ _ _ _ l._turn t.result.written t.ensures.went (not-false _ c.if-not-stand.false) (drop t.result.rest cs) more m.goes m.some m.most l.invariant.7),
    )

pub returns : goal.returns
returns c = let l = c.loop-turn in pumped_out _ _ l._turn (omega (arith, c.loop-turn-test.false)) l.invariant.7
