use mathlib.Core.Path.{◌∙◌}
use borrow.Author.Tests.{eq-eqb, ne_eqb}
use Rattle.drops.proofs.lowered.Goals as goal

pub returns-then-owner-guest : goal.returns-then-owner-guest
returns-then-owner-guest c = c.saturating_sub.ensures ∙ simp (eq-eqb _ _ c.if-owner-guest.true)

pub returns-else-owner-guest : goal.returns-else-owner-guest
returns-else-owner-guest c = simp (ne_eqb _ _ c.if-owner-guest.false)
