-- The three kinds one after the other are the order of every guest.
use Prim.Native.Nat.{ℕ}
use mathlib.Core.Path.{◌≡◌, sym, ◌∙◌}
use mathlib.Core.Bool.{Bool, true, false, ◌&&◌}
use mathlib.Core.List.{List}
use Rattle.lists.specs.Words.{below}
use Rattle.table.specs.Columns.{RESERVATION, LIMIT}
use Rattle.entries.specs.Kinds.{kept_all}
use Rattle.orders.proofs.OneKind.{orderly_kinds}
use Rattle.orders.proofs.all_orderly.Goals as goal
use Rattle.orders.proofs.all_orderly.Goals.{then-is_kept, else-is_kept}

-- one kind of every guest is in order
abbrev kind : (gs : List ℕ) (known : ℕ) (ws : List ℕ) (count k : ℕ) → Bool
kind gs known ws count k = below known (kept_all gs known ws count k)

passes : {v a b : Bool} → a ≡ true → v ≡ b → v ≡ (a && b)
passes e f = rw e f

fails : {v a : Bool} (b : Bool) → a ≡ false → v ≡ a → v ≡ (a && b)
fails b e f = rw e (f ∙ e)

pub returns-then-is_kept-2 : goal.returns-then-is_kept-2
returns-then-is_kept-2 c =
    let a = c.args in
    let two : c.if-is_kept.value ≡ (kind a.guests.now a.known a.waiting.now a.count RESERVATION && kind a.guests.now a.known a.waiting.now a.count LIMIT) = elim c.if-is_kept.branch [
      | then-is_kept w ↦ w.value-is ∙ passes (sym c.is_kept.ensures ∙ w.if-is_kept.true) w.is_kept-then-is_kept.ensures
      | else-is_kept w ↦ fails _ (sym c.is_kept.ensures ∙ w.if-is_kept.false) (w.value-is ∙ c.is_kept.ensures)
    ] in
    passes (sym two ∙ c.if-is_kept-2.true) c.is_kept-then-is_kept-2.ensures ∙ orderly_kinds a.guests.now a.known a.waiting.now a.count

pub returns-else-is_kept-2 : goal.returns-else-is_kept-2
returns-else-is_kept-2 c =
    let a = c.args in
    let two : c.if-is_kept.value ≡ (kind a.guests.now a.known a.waiting.now a.count RESERVATION && kind a.guests.now a.known a.waiting.now a.count LIMIT) = elim c.if-is_kept.branch [
      | then-is_kept w ↦ w.value-is ∙ passes (sym c.is_kept.ensures ∙ w.if-is_kept.true) w.is_kept-then-is_kept.ensures
      | else-is_kept w ↦ fails _ (sym c.is_kept.ensures ∙ w.if-is_kept.false) (w.value-is ∙ c.is_kept.ensures)
    ] in
    fails _ (sym two ∙ c.if-is_kept-2.false) two ∙ orderly_kinds a.guests.now a.known a.waiting.now a.count
