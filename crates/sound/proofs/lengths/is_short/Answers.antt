-- Each return gives the value of the test on its branch.
use mathlib.Core.Path.{◌≡◌, sym, ◌∙◌}
use mathlib.Core.Bool.{Bool, true, false, ◌&&◌, ◌||◌}
use native.Mathlib.Omega.{arith}
use borrow.Author.Tests.{not-true, not-false, lt-ltb, le-ltb}
use Rattle.table.specs.View.{short}
use Rattle.rules.proofs.Conditions.{counted_means}
use mathlib.Core.Bool.{not}
use mathlib.Core.Path.{ap}
use Rattle.sound.proofs.lengths.is_short.Goals as goal

-- what is left of the three lengths where two suffice
third : {k a b : Bool} (d : Bool) → k ≡ true → a ≡ false → b ≡ false → d ≡ (k && (a || b || d))
third d p q r = rw (p, q, r)

pub returns-then-not-is_countable : goal.returns-then-not-is_countable
unfolding short
returns-then-not-is_countable c = simp (sym c.is_countable.ensures ∙ not-true _ (ap not c.if-not-is_countable.true))

pub overflow_mul-known : goal.overflow_mul-known
overflow_mul-known c = omega (arith, ((counted_means _ _ _).holds.0 (sym c.is_countable.ensures ∙ not-false _ (ap not c.if-not-is_countable.false))).guest-count)

pub returns-then-guests-known : goal.returns-then-guests-known
unfolding short
returns-then-guests-known c = simp ((sym c.is_countable.ensures ∙ not-false _ (ap not c.if-not-is_countable.false)), lt-ltb _ _ c.if-guests-known.true)

pub overflow_mul-capacity : goal.overflow_mul-capacity
overflow_mul-capacity c = omega (arith, ((counted_means _ _ _).holds.0 (sym c.is_countable.ensures ∙ not-false _ (ap not c.if-not-is_countable.false))).capacities)

pub returns-then-waiting-capacity : goal.returns-then-waiting-capacity
unfolding short
returns-then-waiting-capacity c = simp ((sym c.is_countable.ensures ∙ not-false _ (ap not c.if-not-is_countable.false)), le-ltb _ _ c.if-guests-known.false, lt-ltb _ _ c.if-waiting-capacity.true)

pub overflow_mul-result : goal.overflow_mul-result
overflow_mul-result c = omega (arith, ((counted_means _ _ _).holds.0 (sym c.is_countable.ensures ∙ not-false _ (ap not c.if-not-is_countable.false))).depths)

pub returns : goal.returns
unfolding short
returns c = third _ (sym c.is_countable.ensures ∙ not-false _ (ap not c.if-not-is_countable.false)) (le-ltb _ _ c.if-guests-known.false) (le-ltb _ _ c.if-waiting-capacity.false)
