-- The loop by the turns that are left, beside that of Pumping by the turns that were made. Assumes nothing.
use Prim.Native.Nat.{ℕ, ◌+◌, ◌-◌, ◌≤◌, ◌<◌}
use mathlib.Core.Path.{◌≡◌}
use mathlib.Core.Bool.{false}
use mathlib.Core.List.{List}
use native.Mathlib.Omega.{arith}
use lib.ListN.{length, take}
use Rattle.port.specs.Moves.{Goes, brought}
use Rattle.port.specs.declared.Moved.TheVariants.{Bytes}
use Rattle.stream.specs.Outcome.{MOST}
use Rattle.stream.specs.declared.End.TheVariants.{Unended}
use Rattle.pages.specs.Sheet.{Stand, onward}
use Rattle.pages.specs.Standing.{Listed, more, Standing}
use Rattle.rolls.proofs.Pumping.{Pumping as Made, pumps as makes, pumped_out as made_out}

-- THE LOOP: each turn that is made was followed by a read that brought a byte
pub record Pumping (n : ℕ) (s : Stand) (turns : ℕ) : Type 0 where
  pub standing : Standing false n s
  pub count : MOST ≤ length standing.tape.read + turns

-- the others were made
made : (n : ℕ) (s : Stand) (turns : ℕ) → Pumping n s turns → Made n s (MOST - turns)
made n s turns p = record { standing = p.standing; count = omega (arith, p.count) }

-- one turn and one read more
pub pumps : (n r : ℕ) (s q : Stand) (turns : ℕ) → q ≡ onward s → (bs : List ℕ) (k : ℕ) → Goes (brought (Bytes k) bs) n r
    → 0 < k → k ≤ length bs → 0 < turns → Pumping n s turns → Pumping r (more q (take k bs)) (turns - 1)
pumps n r s q turns here bs k g some room last a =
    let x = makes n r s q (MOST - turns) here bs k g some room (made n s turns a) in
    record { standing = x.standing; count = omega (arith, x.count, last) }

-- no turn is left
pub pumped_out : (n : ℕ) (s : Stand) (turns : ℕ) → turns ≤ 0 → Pumping n s turns → Listed Unended n
pumped_out n s turns out p = made_out n s (MOST - turns) (omega (arith, out)) (made n s turns p)
