use native.Mathlib.Omega.{arith}
use mathlib.Core.Bool.{true}
use lib.Seq.{length-take-le}
use Rattle.trace.specs.Printed.{printed}
use Rattle.stream.proofs.Outcomes.{next_unwritten}
use Rattle.stream.specs.Outcome.{MOST}
use Rattle.prints.proofs.Pumping.{standing-next, went_number, turned, standing_last}
use Rattle.pumps.proofs.close.Goals as goal

pub turn-stand-requires : goal.turn-stand-requires
turn-stand-requires c =
    let p = c.requires in record {
      have_in_bounds = (p.have_in_bounds, omega (arith, p.have_in_bounds));
      known = p.known;
      next = standing-next p.standing;
    }

pub finish-requires : goal.finish-requires
finish-requires c =
    let a = c.args in
    let p = c.requires in
    let t = c.turn-stand in
    let w = t.ensures.went in
    let l = length-take-le a.have a.buffer.now (omega (arith, p.have_in_bounds)) in
    let few = length-take-le t.result.rest t.new.buffer t.ensures.rest_bound.1 in record {
      number_bound = omega (arith, went_number w, l, p.have_in_bounds);
      last = standing_last _ _ (turned _ _ _ _ t.result.written w c.if-stand.true true p.standing) (omega (arith, few, t.ensures.rest_bound.0));
    }

pub returns-else-stand : goal.returns-else-stand
returns-else-stand c =
    let t = c.turn-stand in
    next_unwritten printed MOST _ _ _ t.result.written t.ensures.went.emits (standing-next c.requires.standing) c.if-stand.false
