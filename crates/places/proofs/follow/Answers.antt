use native.Mathlib.Omega.{arith}
use lib.ListN.{length-set}
use Rattle.places.proofs.follow.Goals as goal

pub bounds-guests-from-5 : goal.bounds-guests-from-5
bounds-guests-from-5 c = simp length-set (omega arith)

pub bounds-guests-from-6 : goal.bounds-guests-from-6
bounds-guests-from-6 c = simp length-set (omega arith)

pub returns : goal.returns
returns c = simp (c.gap-r.ensures.0, c.gap-l.ensures.0, c.gap-s.ensures.0)
