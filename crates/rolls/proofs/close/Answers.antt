use native.Mathlib.Omega.{arith}
use lib.ListN.{take, length-take}
use Rattle.rolls.proofs.Pumping.{turned, closes}
use Rattle.rolls.proofs.close.Goals as goal

pub take_in-turn-requires : goal.take_in-turn-requires
take_in-turn-requires c = let p = c.requires in record { have_in_bounds = (p.have_in_bounds, omega (arith, p.have_in_bounds)); firm = p.firm }

pub finish-requires : goal.finish-requires
finish-requires c =
    let t = c.take_in-turn in
    closes _ t.result.number _ (take t.result.rest t.new.buffer) t.result.gate _ _ _ _ _ t.ensures.firm_2 (turned t.ensures.figures_after c.requires.standing) (omega (arith, length-take t.result.rest t.new.buffer, t.ensures.rest_bound.0))
