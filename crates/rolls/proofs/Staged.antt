-- A run of events on a waiting table that stands in a window: what the loop of `turn_in` keeps, turn by turn. Assumes nothing.
use Prim.Native.Nat.{ℕ, ◌+◌, ◌*◌, ◌≤◌, ◌<◌}
use mathlib.Core.Path.{◌≡◌, sym, ap, ◌∙◌, subst}
use mathlib.Core.List.{List}
use lib.ListN.{length, drop}
use Rattle.rules.specs.Tables.{Table}
use Rattle.rules.specs.declared.Gate.{Gate}
use Rattle.rules.specs.declared.Setup.{Setup}
use Rattle.rules.proofs.SameSettings.{run-settings}
use Rattle.table.specs.Columns.{waiting_wide}
use Rattle.index.specs.Index.{Beside, shifted, Snug}
use Rattle.windows.specs.Window.{Window}
use Rattle.windows.proofs.Staged.{Staged, staged_next}
use Rattle.trace.specs.Event.{event_of, events_of, Read}
use Rattle.trace.proofs.Runs.{run}
use Rattle.book.specs.Page.{Page}
use Rattle.book.proofs.Turning.{turned-after}
use Rattle.tally.specs.Kept.{page_of}
use Rattle.pages.specs.Sheet.{read, page_after}
use Rattle.pages.specs.Standing.{Firm}
use Rattle.pages.proofs.AfterRun.{page-run}
use Rattle.rolls.proofs.Going.{Going, going_none, going_next}

-- a run of events leaves the gate its places
pub same_places : (g : Gate) (gs ws fs bk fg : List ℕ) (p : Page) (es : List Read) → page_of g gs ws fs bk fg ≡ page_after p es → g.setup.capacity ≡ p.table.setup.capacity
same_places g gs ws fs bk fg p es e =
    ap (λ (x : Page). x.table.setup.capacity) (e ∙ page-run p es)
    ∙ ap (λ (t : Table). t.setup.capacity) (turned-after (run es) p)
    ∙ ap Setup.capacity (run-settings (run es) p.table).setup

-- after i events, from the page p on, the table stands in the window from row `start` on, with its index beside it
abbrev pub Stage : (v : ℕ) (p : Page) (bs : List ℕ) (number size start : ℕ) (window : List ℕ) (i : ℕ) (g : Gate) (gs fs bk fg ix : List ℕ) → Type 0
Stage v p bs number size start window i g gs fs bk fg ix = Staged size start window ix g (λ ws. Going v p bs number i g gs ws fs bk fg)

module _ (v : ℕ) (bs : List ℕ) (number size : ℕ) (g : Gate) (gs fs bk fg ix window : List ℕ) where
  -- before them
  pub stage_none : (us : List ℕ) × Window size 0 window us × Firm number g gs us fs bk fg × Beside us ix g.waiting × Snug g us ix → (ws : List ℕ) → Window size 0 window ws
      → Stage v (page_of g gs ws fs bk fg) bs number size 0 window 0 g gs fs bk fg ix
  stage_none (us, w, f, b, s) ws w' =
      subst (λ (xs : List ℕ). Stage v (page_of g gs xs fs bk fg) bs number size 0 window 0 g gs fs bk fg ix) (sym w.shows ∙ w'.shows)
      (record { table = us; stands = w; beside = b; snug = s; holds = going_none v bs number g gs us fs bk fg f })

  -- one event more
  module _ (p : Page) (start i : ℕ) (s : Stage v p bs number size start window i g gs fs bk fg ix) where
    pub stage_next : (start' gone : ℕ) (window' : List ℕ) (g' : Gate) (gs' fs' bk' fg' ix' : List ℕ)
        → (vs : List ℕ) × Window size start' window' vs × (page_of g' gs' (shifted gone vs) fs' bk' fg' ≡ read (page_of g gs s.table fs bk fg) (event_of v (drop (i * 14) bs))) × Firm (number + i + 1) g' gs' (shifted gone vs) fs' bk' fg' × Beside (shifted gone vs) ix' g'.waiting
        → gone ≤ 1 → (0 < gone → (start' + 1) * waiting_wide + size ≤ length window') → length ix' ≡ length ix
        → Stage v p bs number size (start' + gone) window' (i + 1) g' gs' fs' bk' fg' ix'
    stage_next start' gone window' g' gs' fs' bk' fg' ix' (vs, w, e, f, b) =
        let n = going_next v p bs number i g gs s.table fs bk fg g' gs' (shifted gone vs) fs' bk' fg' s.holds e f in
        staged_next s start' gone window' ix' vs g' (λ ws. Going v p bs number (i + 1) g' gs' ws fs' bk' fg') w b n
        (same_places g' gs' (shifted gone vs) fs' bk' fg' p (events_of v (i + 1) bs) n.page ∙ sym (same_places g gs s.table fs bk fg p (events_of v i bs) s.holds.page))
