-- What a loop over events keeps of a table in a window, whatever else it keeps of it. Assumes nothing.
use Prim.Native.Nat.{ℕ, ◌+◌, ◌*◌, ◌≤◌, ◌<◌}
use mathlib.Core.Path.{◌≡◌, sym, ap, ◌∙◌}
use mathlib.Core.List.{List}
use native.Mathlib.Omega.{arith}
use lib.ListN.{length}
use Rattle.rules.specs.declared.Gate.{Gate}
use Rattle.table.specs.Columns.{waiting_wide}
use Rattle.index.specs.Index.{Beside, shifted, Snug}
use Rattle.windows.specs.Window.{Window}
use Rattle.windows.proofs.Windows.{window_long, window_moves}

-- the table stands in the window from row `start` on, with its index beside it, and P is true of it
pub record Staged (size start : ℕ) (window ix : List ℕ) (g : Gate) (P : List ℕ → Type 0) : Type 0 where
  pub table : List ℕ
  pub stands : Window size start window table
  pub beside : Beside table ix g.waiting
  pub snug : Snug g table ix
  pub holds : P table

-- one event more, on the table where it stands once there is room behind it
pub staged_next : {size start : ℕ} {window ix : List ℕ} {g : Gate} {P : List ℕ → Type 0} → Staged size start window ix g P
    → (start' gone : ℕ) (window' ix' vs : List ℕ) (g' : Gate) (Q : List ℕ → Type 0) → Window size start' window' vs → Beside (shifted gone vs) ix' g'.waiting → Q (shifted gone vs)
    → g'.setup.capacity ≡ g.setup.capacity → gone ≤ 1 → (0 < gone → (start' + 1) * waiting_wide + size ≤ length window') → length ix' ≡ length ix
    → Staged size (start' + gone) window' ix' g' Q
staged_next {size} {start} {window} s start' gone window' ix' vs g' Q w b q places few room same =
    let m = window_moves size start' gone window' vs few room w in
    record {
      table = shifted gone vs;
      stands = m;
      beside = b;
      snug = λ some.
          window_long size (start' + gone) window' (shifted gone vs) m
          ∙ sym (window_long size start window s.table s.stands)
          ∙ s.snug (omega (arith, some, same))
          ∙ ap (λ (n : ℕ). n * waiting_wide) (sym places);
      holds = q;
    }
