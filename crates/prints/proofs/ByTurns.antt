-- The loop by the turns that are left, beside that of Pumping by the turns that were made. Assumes nothing.
use Prim.Native.Nat.{ℕ, ◌+◌, ◌-◌, ◌≤◌, ◌<◌}
use mathlib.Core.Path.{◌≡◌}
use mathlib.Core.Bool.{Bool, true, false}
use mathlib.Core.List.{List}
use native.Mathlib.Omega.{arith}
use lib.ListN.{length, take}
use Rattle.port.specs.Moves.{Goes, brought}
use Rattle.port.specs.declared.Moved.TheVariants.{Bytes}
use Rattle.stream.specs.Outcome.{MOST}
use Rattle.stream.specs.declared.End.TheVariants.{Unended}
use Rattle.trace.specs.Printed.{Place}
use Rattle.trace.specs.Reads.{more}
use Rattle.prints.specs.Standing.{Decided, Standing, Went}
use Rattle.prints.proofs.Pumping.{Pumping as Made, pumps as makes, pumped_out as made_out}

-- THE LOOP: each turn that is made was followed by a read that brought a byte
pub record Pumping (n : ℕ) (p : Place) (turns : ℕ) : Type 0 where
  pub standing : Standing false n p
  pub count : MOST ≤ length standing.tape.read + turns

-- the others were made
made : (n : ℕ) (p : Place) (turns : ℕ) → Pumping n p turns → Made n p (MOST - turns)
made n p turns s = record { standing = s.standing; count = omega (arith, s.count) }

-- one turn and one read more
pub pumps : (n m r : ℕ) (p q : Place) (turns : ℕ) (b : Bool) (w : Went b p q n m) → b ≡ true → (bs : List ℕ) (k : ℕ) → Goes (brought (Bytes k) bs) m r
    → 0 < k → k ≤ length bs → 0 < turns → Pumping n p turns → Pumping r (more q (take k bs)) (turns - 1)
pumps n m r p q turns b w good bs k g some room last s =
    let x = makes n m r p q (MOST - turns) b w good bs k g some room (made n p turns s) in
    record { standing = x.standing; count = omega (arith, x.count, last) }

-- no turn is left
pub pumped_out : (n : ℕ) (p : Place) (turns : ℕ) → turns ≤ 0 → Pumping n p turns → Decided Unended n
pumped_out n p turns out s = made_out n p (MOST - turns) (omega (arith, out)) (made n p turns s)
