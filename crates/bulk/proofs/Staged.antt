-- A run of events on a table that stands in a window: what the loop over the rows keeps, turn by turn. Assumes nothing.
use Rattle.std.specs.Prelude.{Result, Option}
use Prim.Native.Nat.{ℕ, ◌+◌, ◌*◌, ◌≤◌, ◌<◌}
use mathlib.Core.Path.{◌≡◌, ap, ◌∙◌}
use mathlib.Core.List.{List}
use lib.ListN.{length}
use Rattle.rules.specs.declared.Gate.{Gate}
use Rattle.table.specs.Columns.{waiting_wide}
use Rattle.index.specs.Index.{Beside, shifted, Snug}
use Rattle.windows.specs.Window.{Window}
use Rattle.windows.proofs.Staged.{Staged, staged_next}
use Rattle.gate.specs.Promise.{numbers}
use Rattle.gate.specs.Calls.{Host}
use Rattle.gate.specs.Judges.{Judges}
use Rattle.gate.proofs.Lending.{numbers-lawful}
use Rattle.batch.specs.Rows.{event_at}
use Rattle.batch.specs.Promise.{host_of}
use Rattle.batch.specs.Turns.{turn}
use Rattle.batch.proofs.Beyond.{set_to, one_set}
use Rattle.batch.proofs.Going.{Going, going_none, going_next}
use Rattle.rules.specs.declared.Refusal.{Refusal}
use Rattle.rules.specs.declared.Event.{Event}

-- a turn leaves the gate its places
turn_places : (r : Option Event) (k : ℕ) (h : Host numbers) (bs : List ℕ) (x : Host numbers × List ℕ) → x ≡ turn r k h bs → x.0.gate.setup.capacity ≡ h.gate.setup.capacity
turn_places r k h bs x t =
    ap (λ (y : Host numbers × List ℕ). y.0.gate.setup.capacity) t
    ∙ (one_set numbers numbers-lawful h.gate.guests h.gate.setup.capacity h.gate.setup.depth r h (set_to h.gate)).capacity

-- after k events the table stands in the window from row `start` on, with its index beside it
abbrev pub Stage : (es : List ℕ) (found : Result Unit Refusal) (h₀ : Host numbers) (bs₀ : List ℕ) (size start : ℕ) (window : List ℕ) (k : ℕ) (g : Gate) (gs fs bs ix : List ℕ) → Type 0
Stage es found h₀ bs₀ size start window k g gs fs bs ix = Staged size start window ix g (λ ws. Going es found h₀ bs₀ k g gs ws fs bs)

module _ (es : List ℕ) (found : Result Unit Refusal) (g₀ : Gate) (gs₀ ws₀ fs₀ bs₀ : List ℕ) (size : ℕ) where
  abbrev h₀ : Host numbers
  h₀ = host_of numbers g₀ gs₀ ws₀ fs₀

  -- before them
  pub stage_none : (window ix : List ℕ) → Window size 0 window ws₀ → Judges g₀ gs₀ ws₀ fs₀ found → Beside ws₀ ix g₀.waiting → Snug g₀ ws₀ ix
      → Stage es found h₀ bs₀ size 0 window 0 g₀ gs₀ fs₀ bs₀ ix
  stage_none window ix w j b s = record { table = ws₀; stands = w; beside = b; snug = s; holds = going_none es found g₀ gs₀ ws₀ fs₀ bs₀ j }

  module _ (start : ℕ) (window : List ℕ) (k : ℕ) (g : Gate) (gs fs bs ix : List ℕ) (s : Stage es found h₀ bs₀ size start window k g gs fs bs ix) where
    -- one event more
    pub stage_next : (start' gone : ℕ) (window' : List ℕ) (g' : Gate) (gs' fs' bs' ix' : List ℕ)
        → (vs : List ℕ) × Window size start' window' vs
        × ◌≡◌ {A = Host numbers × List ℕ} (host_of numbers g' gs' (shifted gone vs) fs', bs') (turn (event_at es k) k (host_of numbers g gs s.table fs) bs)
        × Judges g' gs' (shifted gone vs) fs' found × Beside (shifted gone vs) ix' g'.waiting
        → gone ≤ 1 → (0 < gone → (start' + 1) * waiting_wide + size ≤ length window') → length ix' ≡ length ix
        → Stage es found h₀ bs₀ size (start' + gone) window' (k + 1) g' gs' fs' bs' ix'
    stage_next start' gone window' g' gs' fs' bs' ix' (vs, w, t, j, b) =
        staged_next s start' gone window' ix' vs g' (λ ws. Going es found h₀ bs₀ (k + 1) g' gs' ws fs' bs') w b
        (going_next es found g₀ gs₀ ws₀ fs₀ bs₀ k g gs s.table fs bs s.holds g' gs' (shifted gone vs) fs' bs' t j)
        (turn_places (event_at es k) k (host_of numbers g gs s.table fs) bs (host_of numbers g' gs' (shifted gone vs) fs', bs') t)
