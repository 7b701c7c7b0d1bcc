-- A run of events on a table that stands in a window: what the loop of `feed_in` keeps, turn by turn. Assumes nothing.
use Prim.Native.Nat.{ℕ, ◌+◌, ◌*◌, ◌≤◌, ◌<◌}
use mathlib.Core.Path.{◌≡◌, sym, ap, ◌∙◌, subst}
use mathlib.Core.List.{List, ◌++◌}
use lib.ListN.{length, take, drop}
use Rattle.rules.specs.Tables.{Table}
use Rattle.rules.specs.declared.Gate.{Gate}
use Rattle.table.specs.Columns.{waiting_wide}
use Rattle.table.specs.View.{table_of, Known}
use Rattle.table.specs.Does.{Lent, written}
use Rattle.index.specs.Index.{Beside, shifted, Snug}
use Rattle.windows.specs.Window.{Window}
use Rattle.windows.proofs.Staged.{Staged, staged_next}
use Rattle.windows.proofs.Longer.{lengthened, longer_known, longer_written, front_long, front-whole, front-shown}
use Rattle.lines.specs.Put.{Put}
use Rattle.trace.specs.Event.{event_of, events_of, Read}
use Rattle.trace.specs.Printed.{answers_to, table_after, lines_from}
use Rattle.feed.specs.Promise.{Judged, FedBy}
use Rattle.feed.proofs.Going.{Going, going_none, going_next, one_same, run-same}

-- an event leaves the gate its places
judged_places : (e : Read) (number : ℕ) (g : Gate) (gs ws fs : List ℕ) (g' : Gate) (gs' ws' fs' : List ℕ) (at : ℕ) (out : List ℕ) (next : ℕ) (out' : List ℕ)
    → Judged e number g gs ws fs g' gs' ws' fs' at out next out' → g'.setup.capacity ≡ g.setup.capacity
judged_places e number g gs ws fs g' gs' ws' fs' at out next out' j =
    let s = (one_same (table_of g gs ws fs) e).setup in ap (λ (x : Lent). x.0.setup.capacity) j.became.tables ∙ (λ i. (s i).capacity)

-- after i events the table stands in the window from row `start` on, with its index beside it
abbrev pub Stage : (v : ℕ) (g₀ : Gate) (gs₀ ws₀ fs₀ bs : List ℕ) (number : ℕ) (out₀ : List ℕ) (size start : ℕ) (window : List ℕ) (i : ℕ) (g : Gate) (gs fs out : List ℕ) (at : ℕ) (ix : List ℕ) → Type 0
Stage v g₀ gs₀ ws₀ fs₀ bs number out₀ size start window i g gs fs out at ix = Staged size start window ix g (λ ws. Going v g₀ gs₀ ws₀ fs₀ bs number out₀ i g gs ws fs out at)

module _ (v : ℕ) (g₀ : Gate) (gs₀ ws₀ fs₀ : List ℕ) (k : Known g₀ gs₀ ws₀ fs₀) (bs : List ℕ) (number : ℕ) (out₀ : List ℕ) (size : ℕ) where
  -- before them
  pub stage_none : (window ix : List ℕ) → Window size 0 window ws₀ → Beside ws₀ ix g₀.waiting → Snug g₀ ws₀ ix
      → Stage v g₀ gs₀ ws₀ fs₀ bs number out₀ size 0 window 0 g₀ gs₀ fs₀ out₀ 0 ix
  stage_none window ix w b s = record { table = ws₀; stands = w; beside = b; snug = s; holds = going_none g₀ gs₀ ws₀ fs₀ k v bs number out₀ }

  module _ (start : ℕ) (window : List ℕ) (i : ℕ) (g : Gate) (gs fs out : List ℕ) (at : ℕ) (ix : List ℕ) (s : Stage v g₀ gs₀ ws₀ fs₀ bs number out₀ size start window i g gs fs out at ix) where
    -- one event more
    pub stage_next : (start' gone : ℕ) (window' : List ℕ) (g' : Gate) (gs' fs' : List ℕ) (next : ℕ) (out' ix' : List ℕ)
        → (vs : List ℕ) × Window size start' window' vs × Judged (event_of v (drop (i * 14) bs)) (number + i + 1) g gs s.table fs g' gs' (shifted gone vs) fs' at out next out' × Beside (shifted gone vs) ix' g'.waiting
        → gone ≤ 1 → (0 < gone → (start' + 1) * waiting_wide + size ≤ length window') → length ix' ≡ length ix
        → Stage v g₀ gs₀ ws₀ fs₀ bs number out₀ size (start' + gone) window' (i + 1) g' gs' fs' out' next ix'
    stage_next start' gone window' g' gs' fs' next out' ix' (vs, w, j, b) =
        staged_next s start' gone window' ix' vs g' (λ ws. Going v g₀ gs₀ ws₀ fs₀ bs number out₀ (i + 1) g' gs' ws fs' out' next) w b
        (going_next g₀ gs₀ ws₀ fs₀ k v bs number out₀ i g gs s.table fs out at g' gs' (shifted gone vs) fs' next out' s.holds j)
        (judged_places (event_of v (drop (i * 14) bs)) (number + i + 1) g gs s.table fs g' gs' (shifted gone vs) fs' at out next out' j)

-- what was judged on the places that the gate has was judged on all that are lent
module _ (v : ℕ) (bs : List ℕ) (number : ℕ) (g : Gate) (gs ws fs : List ℕ) (k : Known g gs ws fs) where
  abbrev size : ℕ
  size = g.setup.capacity * waiting_wide

  abbrev front : List ℕ
  front = take size ws

  abbrev rest : List ℕ
  rest = drop size ws

  pub fed_whole : (g' : Gate) (gs' vs fs' out out' : List ℕ) (events bytes : ℕ) → FedBy v bs number g gs front fs g' gs' vs fs' out out' events bytes → length vs ≡ size
      → FedBy v bs number g gs ws fs g' gs' (vs ++ rest) fs' out out' events bytes
  fed_whole g' gs' vs fs' out out' events bytes f long =
      let es = events_of v events bs in
      let p = front-shown g gs ws fs k in
      let u = table_after (table_of g gs front fs) es in
      let same = (run-same (table_of g gs front fs) es).setup in
      let places : u.setup.capacity ≡ g.setup.capacity = λ i. (same i).capacity in
      let t = f.became.tables in
      let now : g'.setup.capacity ≡ g.setup.capacity = ap (λ (x : Lent). x.0.setup.capacity) t ∙ places in
      record {
        taken = f.taken;
        became = record {
          tables = ap (lengthened rest) t
              ∙ sym (longer_written g gs front rest fs (front_long g gs ws fs k) u places)
              ∙ ap (λ (xs : List ℕ). written gs xs fs u) (front-whole g gs ws fs k)
              ∙ ap (λ (x : Table). written gs ws fs (table_after x es)) p;
          known = longer_known g' gs' vs rest fs' (long ∙ ap (λ (n : ℕ). n * waiting_wide) (sym now)) f.became.known;
        };
        lines = subst (λ (x : Table). Put 0 (lines_from number (answers_to x es)) out bytes out') p f.lines;
        room = f.room;
      }
