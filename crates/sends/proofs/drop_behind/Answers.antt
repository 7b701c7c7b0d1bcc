-- `drop_behind` meets its contract: either drop is the same, and moves no row. Assumes nothing.
use mathlib.Core.Path.{sym, ◌∙◌, subst}
use mathlib.Core.List.{List}
use Prim.Native.Nat.{ℕ}
use native.Mathlib.Omega.{arith}
use Rattle.moves.specs.Moves.{tags_dropped, next_dropped, fall_of, Lawful, Unreserved}
use Rattle.index.proofs.Laws.{stood-none, stood-some}
use Rattle.sends.proofs.Besides.{beside_dropped}
use Rattle.sends.proofs.Slid.{rest-room, rest-lawful, rest_unreserved, rest_indexed, next-even, tags-even}
use Rattle.sends.proofs.drop_behind.Goals as goal

pub drop_tags-requires : goal.drop_tags-requires
drop_tags-requires c =
    let e = stood-none c.args.index.now c.args.waiting.now c.if-index-eq0.true in record {
      guest_wide_in_bounds = (c.requires.guest_wide_in_bounds.0, omega (arith, c.requires.guest_wide_in_bounds.1));
      cost_le_most_cost = (c.requires.cost_le_most_cost.0, subst (λ (x : List ℕ). Lawful c.args.count x) e c.requires.cost_le_most_cost.1, subst (λ (x : List ℕ). Unreserved c.args.guest c.args.count c.args.guests.now x) e c.requires.cost_le_most_cost.2);
    }

pub returns-then-index-eq0 : goal.returns-then-index-eq0
returns-then-index-eq0 c =
    let d = c.drop_tags.ensures in
    let none = c.if-index-eq0.true in
    let e = sym (stood-none c.args.index.now c.args.waiting.now none) in
    let f = stood-none c.args.index.now _ none ∙ d.waiting_after ∙ (λ i. tags_dropped c.args.guest (fall_of c.args.guest c.args.cost c.args.guests.now) (e i) c.args.count) in record {
      guests_after = d.guests_after ∙ (λ i. next_dropped c.args.guest c.args.cost c.args.count (e i) c.args.guests.now);
      waiting_after = f;
      beside = beside_dropped _ _ c.args.index.now c.args.count c.args.guest _ f c.requires.guest_lt_most_guests.1;
    }

pub drop_along-requires : goal.drop_along-requires
drop_along-requires c =
    let ws = c.args.waiting.now in
    let n = c.args.count in
    let some = stood-some c.args.index.now ws (omega arith) in record {
      guest_wide_in_bounds = (c.requires.guest_wide_in_bounds.0, rest-room ws n c.requires.guest_wide_in_bounds.1, c.requires.guest_lt_most_guests.0);
      cost_le_most_cost = (c.requires.cost_le_most_cost.0, rest-lawful ws n c.requires.guest_wide_in_bounds.1 (rw some at c.requires.cost_le_most_cost.1), rest_unreserved ws n c.requires.guest_wide_in_bounds.1 c.args.guest c.args.guests.now (rw some at c.requires.cost_le_most_cost.2));
      indexed = rest_indexed ws n c.requires.guest_wide_in_bounds.1 (rw some at (c.requires.guest_lt_most_guests.1 (omega arith)));
    }

pub returns : goal.returns
returns c =
    let d = c.drop_along.ensures in
    let ws = c.args.waiting.now in
    let n = c.args.count in
    let e = sym (stood-some c.args.index.now ws (omega arith)) in
    let f = stood-some c.args.index.now _ (omega arith) ∙ tags-even ws n c.requires.guest_wide_in_bounds.1 c.args.guest _ _ d.waiting_after ∙ (λ i. tags_dropped c.args.guest (fall_of c.args.guest c.args.cost c.args.guests.now) (e i) n) in record {
      guests_after = d.guests_after ∙ next-even ws n c.requires.guest_wide_in_bounds.1 c.args.guest c.args.cost c.args.guests.now ∙ (λ i. next_dropped c.args.guest c.args.cost n (e i) c.args.guests.now);
      waiting_after = f;
      beside = beside_dropped _ _ c.args.index.now n c.args.guest _ f c.requires.guest_lt_most_guests.1;
    }
