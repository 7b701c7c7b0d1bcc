-- The index beside the rows, through a step. Assumes nothing.
use Rattle.std.specs.Prelude.{Option, Err, Result as OkOrErr}
use Prim.Native.Nat.{ℕ, ◌*◌}
use mathlib.Core.Path.{◌≡◌, sym, ap, ◌∙◌, subst}
use mathlib.Core.List.{List}
use Rattle.rules.specs.declared.Gate.{Gate}
use Rattle.rules.specs.declared.Refusal.{Refusal}
use Rattle.rules.specs.declared.Answer.{Answer}
use Rattle.rules.specs.declared.Outcome.{Outcome}
use Rattle.table.specs.declared.gates.Decision.{Decision}
use Rattle.rules.specs.Tables.{Table}
use Rattle.rules.specs.Choice.{Result}
use Rattle.rules.specs.Run.{step}
use Rattle.rules.specs.Waking.{wake}
use Rattle.rules.specs.declared.Event.{Event}
use Rattle.rules.proofs.SameSettings.{step-settings}
use Rattle.table.specs.Columns.{waiting_wide}
use Rattle.table.specs.View.{decision_of, outcome_of, table_of, Known}
use Rattle.table.specs.Does.{Leaves, Lent}
use lib.ListN.{length}
use Rattle.index.specs.Index.{Beside, stands, Snug}
use Rattle.index.proofs.Laws.{stands-kept}
use Rattle.enter.specs.Enters.{EntersBeside}
use Rattle.enter.proofs.Besides.{beside_barred}

module _ {vs ix : List ℕ} (g : Gate) where
  -- the event was refused
  pub beside_refused : (x : OkOrErr Gate Refusal) (r : Refusal) → x ≡ Err r → (a : Answer) (d : Decision) → d ≡ decision_of g a → EntersBeside g x vs ix → Beside vs ix d.gate.waiting
  beside_refused x r e a d p b = subst (λ (y : Decision). Beside vs ix y.gate.waiting) (sym p) (beside_barred g x r e b)

  -- the gate is handed back
  pub beside_handed : (a : Answer) (w : Option ℕ) (o : Outcome) → o ≡ outcome_of g a w → Beside vs ix g.waiting → Beside vs ix o.gate.waiting
  beside_handed a w o p b = subst (λ (y : Outcome). Beside vs ix y.gate.waiting) (sym p) b

-- an index as long says the same of where the rows stand
pub kept_step : (f : Table → Result) (g : Gate) (gs ws fs : List ℕ) (d : Decision) (hs vs es ix ix' jx : List ℕ) → length ix' ≡ length ix
    → Leaves f g gs ws fs d hs (stands ix' d.answer vs) es × Known d.gate hs (stands ix' d.answer vs) es → Beside (stands ix' d.answer vs) jx d.gate.waiting
    → Leaves f g gs ws fs d hs (stands ix d.answer vs) es × (Known d.gate hs (stands ix d.answer vs) es × Beside (stands ix d.answer vs) jx d.gate.waiting)
kept_step f g gs ws fs d hs vs es ix ix' jx e m b =
    subst (λ (x : List ℕ). Leaves f g gs ws fs d hs x es × (Known d.gate hs x es × Beside x jx d.gate.waiting)) (stands-kept ix ix' vs d.answer e) (m.0, (m.1, b))

module _ (g : Gate) (gs ws fs : List ℕ) (e : Event) (d : Decision) (hs vs es ix ix' : List ℕ) (same : length ix' ≡ length ix) where
  -- after a step the table is lent with just the places of the gate, as before it
  pub step_snug : (us : List ℕ) → Leaves (λ t. step t e) g gs ws fs d hs us es → length vs ≡ length ws → Snug g ws ix → Snug d.gate vs ix'
  step_snug us l long snug some =
      let s = (step-settings (table_of g gs ws fs) e).setup in
      let q : d.gate.setup.capacity ≡ g.setup.capacity = ap (λ (y : Lent). y.0.setup.capacity) l.shows ∙ (λ i. (s i).capacity) in
      long ∙ snug (rw (sym same) some) ∙ ap (λ (n : ℕ). n * waiting_wide) (sym q)

  -- what the time to wake asks
  pub wake-asked : Leaves (λ t. step t e) g gs ws fs d hs (stands ix d.answer vs) es → Known d.gate hs (stands ix d.answer vs) es → Beside (stands ix d.answer vs) ix' d.gate.waiting → length vs ≡ length ws
      → Snug g ws ix
      → ((us : List ℕ) × Known d.gate hs (stands ix' d.answer vs) us) × (Beside (stands ix' d.answer vs) ix' d.gate.waiting × Snug d.gate vs ix')
  wake-asked l k b long snug =
      let p = sym (stands-kept ix ix' vs d.answer same) in
      ((es, subst (λ (x : List ℕ). Known d.gate hs x es) p k), (subst (λ (x : List ℕ). Beside x ix' d.gate.waiting) p b, step_snug (stands ix d.answer vs) l long snug))

  -- and what it says
  pub wake-said : Known d.gate hs (stands ix d.answer vs) es → (w : Option ℕ)
      → ((us js : List ℕ) → Known d.gate hs (stands ix' d.answer vs) us → w ≡ wake (table_of d.gate hs (stands ix' d.answer vs) js)) → w ≡ wake (table_of d.gate hs (stands ix d.answer vs) es)
  wake-said k w said =
      let p = stands-kept ix ix' vs d.answer same in
      said es es (subst (λ (x : List ℕ). Known d.gate hs x es) (sym p) k) ∙ (λ i. wake (table_of d.gate hs (p i) es))

-- what is handed back has the answer of the step, and so the rows stand where they stood after it
pub handed-stands : (ix vs : List ℕ) (d : Decision) (a : Answer) (w : Option ℕ) (o : Outcome) → o ≡ outcome_of d.gate a w → a ≡ d.answer → stands ix o.answer vs ≡ stands ix d.answer vs
handed-stands ix vs d a w o p e = ap (λ (x : Outcome). stands ix x.answer vs) p ∙ ap (λ (x : Answer). stands ix x vs) e
