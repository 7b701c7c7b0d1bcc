-- One event as it was read, on tables that are known: what the step's functions hand back is what is answered, and is known again. Assumes nothing.
use Prim.Native.Nat.{ℕ, ◌+◌, ◌≤◌}
use mathlib.Core.Path.{◌≡◌, sym, ap, subst}
use mathlib.Core.List.{List}
use Rattle.rules.specs.declared.Event.{Event}
use Rattle.rules.specs.Run.{step}
use Rattle.rules.specs.declared.Gate.{Gate}
use Rattle.rules.specs.declared.Refusal.TheVariants.{BadEvent}
use Rattle.rules.specs.declared.Answer.TheVariants.{Refused}
use Rattle.table.specs.declared.gates.Decision.{Decision}
use Rattle.table.specs.View.{decision_of, table_of, Known}
use Rattle.table.specs.Does.{Leaves}
use Rattle.table.proofs.Left.{stays}
use Rattle.index.specs.Index.{Beside}
use Rattle.lines.specs.Line.{line_of, LINE}
use Rattle.lines.specs.Put.{Put}
use Rattle.lines.proofs.PutLaws.{put_as}
use Rattle.trace.specs.Printed.{answered}
use Rattle.feed.specs.Promise.{Judged}
use Rattle.std.specs.Prelude.{Some, None}
use Rattle.trace.specs.Event.{Read}

module _ (g : Gate) (gs ws fs : List ℕ) (x : Read) where
  -- a good event is answered by the step
  pub good-answers : (e : Event) → x ≡ Some e → {d : Decision} {hs vs es : List ℕ} → Leaves (λ t. step t e) g gs ws fs d hs vs es → Leaves (λ t. answered t x) g gs ws fs d hs vs es
  unfolding answered
  good-answers e p {d} {hs} {vs} {es} l = subst (λ (y : Read). Leaves (λ t. answered t y) g gs ws fs d hs vs es) (sym p) l

  -- a bad one leaves all as it stood
  pub bad_answers : Known g gs ws fs → x ≡ None → (d : Decision) → d ≡ decision_of g (Refused BadEvent) → Leaves (λ t. answered t x) g gs ws fs d gs ws fs × Known d.gate gs ws fs
  unfolding answered
  bad_answers k p d q = (
    subst (λ (y : Decision). Leaves (λ t. answered t x) g gs ws fs y gs ws fs) (sym q) (stays g gs ws fs k {f = λ t. answered t x} (ap (answered (table_of g gs ws fs)) p)),
    subst (λ (y : Decision). Known y.gate gs ws fs) (sym q) k,
  )

  -- and the index beside its rows
  pub bad_beside : {ix : List ℕ} (d : Decision) → d ≡ decision_of g (Refused BadEvent) → Beside ws ix g.waiting → Beside ws ix d.gate.waiting
  bad_beside {ix} d q b = subst (λ (y : Decision). Beside ws ix y.gate.waiting) (sym q) b

-- what is known once the event was judged and its line written
pub judged_by_lem : (g : Gate) (gs ws fs : List ℕ) (x e : Read) → x ≡ e → (number at next : ℕ) (out out' : List ℕ) (d : Decision) (hs vs es : List ℕ)
    → Leaves (λ t. answered t x) g gs ws fs d hs vs es → Known d.gate hs vs es
    → Put at (line_of number d.answer) out next out' → next ≤ at + LINE
    → Judged e number g gs ws fs d.gate hs vs es at out next out'
judged_by_lem g gs ws fs x e p number at next out out' d hs vs es l k line short =
    subst (λ (y : Read). Judged y number g gs ws fs d.gate hs vs es at out next out') p
    (record { became = record { tables = l.shows; known = k }; line = put_as (ap (line_of number) (sym l.answers)) line; short = short })
