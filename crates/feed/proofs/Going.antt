-- A run of events on known tables: what the loop of `feed` keeps, turn by turn, and what a turn of the program has done at its end. Assumes nothing.
use Prim.Native.Nat.{ℕ, ◌+◌, ◌*◌}
use mathlib.Core.Path.{◌≡◌, refl, sym, ap, ◌∙◌, subst}
use mathlib.Core.Bool.{true}
use mathlib.Core.List.{List, [], ◌∷◌, ◌++◌}
use lib.ListN.{drop}
use Rattle.rules.specs.Tables.{Table}
use Rattle.rules.specs.Sound.{sound}
use Rattle.rules.specs.declared.Gate.{Gate}
use Rattle.rules.proofs.SameSettings.{SameSettings, run-settings}
use Rattle.rules.proofs.StepSound.{run_sound}
use Rattle.table.specs.View.{table_of, Known}
use Rattle.table.specs.Does.{Lent, written}
use Rattle.table.proofs.Lens.{Room, written-shown, written-again, known-room, known_written}
use Rattle.lines.specs.Line.{line_of}
use Rattle.lines.specs.Put.{Put}
use Rattle.lines.proofs.PutLaws.{puts, put_as}
use Rattle.trace.specs.Event.{event_of, events_of, whole, Read}
use Rattle.trace.specs.Printed.{answered, answers_to, table_after, lines_from, lines, left}
use Rattle.trace.proofs.RunLaws.{table_more, lines_more}
use Rattle.trace.proofs.Runs.{run, table-run}
use Rattle.feed.specs.Promise.{Became, Judged, FedBy, Turned}

-- the loop of `feed` after i events
pub record Going (v : ℕ) (g₀ : Gate) (gs₀ ws₀ fs₀ bs : List ℕ) (number : ℕ) (out₀ : List ℕ) (i : ℕ) (g : Gate) (gs ws fs out : List ℕ) (at : ℕ) : Type 0 where
  pub became : Became (table_after (table_of g₀ gs₀ ws₀ fs₀) (events_of v i bs)) gs₀ ws₀ fs₀ g gs ws fs
  pub lines : Put 0 (lines_from number (answers_to (table_of g₀ gs₀ ws₀ fs₀) (events_of v i bs))) out₀ at out

-- THE TABLE AFTER A RUN of events as they were read

run-firm : (t : Table) (es : List Read) → sound t ≡ true → sound (table_after t es) ≡ true
run-firm t es h = ap sound (table-run t es) ∙ run_sound (run es) t h

pub run-same : (t : Table) (es : List Read) → SameSettings (table_after t es) t
run-same t es = subst (λ (u : Table). SameSettings u t) (sym (table-run t es)) (run-settings (run es) t)

pub one_same : (t : Table) (e : Read) → SameSettings (answered t e).table t
unfolding table_after
one_same t e = run-same t (e ∷ [])

module _ (g₀ : Gate) (gs₀ ws₀ fs₀ : List ℕ) (k : Known g₀ gs₀ ws₀ fs₀) where
  abbrev t₀ : Table
  t₀ = table_of g₀ gs₀ ws₀ fs₀

  module _ (es : List Read) where
    abbrev u : Table
    u = table_after t₀ es

    abbrev l : Lent
    l = written gs₀ ws₀ fs₀ u

    room : Room gs₀ ws₀ fs₀ u
    room = known-room g₀ gs₀ ws₀ fs₀ k u (run-same t₀ es)

    firm : sound u ≡ true
    firm = run-firm t₀ es k.is_sound

    -- numbers that became the table after a run show it
    pub run-shown : (g : Gate) (gs ws fs : List ℕ) → (g, gs, ws, fs) ≡ l → table_of g gs ws fs ≡ u
    run-shown g gs ws fs p = ap (λ (x : Lent). table_of x.0 x.1 x.2 x.3) p ∙ written-shown gs₀ ws₀ fs₀ u room firm

    -- a table written over them is written over the first ones
    run-again : (w : Table) → SameSettings w u → written l.1 l.2 l.3 w ≡ written gs₀ ws₀ fs₀ w
    run-again = written-again gs₀ ws₀ fs₀ u room firm

  module _ (v : ℕ) (bs : List ℕ) (number : ℕ) (out₀ : List ℕ) where
    pub going_none : Going v g₀ gs₀ ws₀ fs₀ bs number out₀ 0 g₀ gs₀ ws₀ fs₀ out₀ 0
    unfolding events_of table_after answers_to lines_from
    going_none = record { became = record { tables = known_written g₀ gs₀ ws₀ fs₀ k; known = k }; lines = record { next = refl; bytes = refl } }

    -- one event more
    pub going_next : (i : ℕ) (g : Gate) (gs ws fs : List ℕ) (out : List ℕ) (at : ℕ) (g' : Gate) (gs' ws' fs' : List ℕ) (next : ℕ) (out' : List ℕ)
        → Going v g₀ gs₀ ws₀ fs₀ bs number out₀ i g gs ws fs out at
        → Judged (event_of v (drop (i * 14) bs)) (number + i + 1) g gs ws fs g' gs' ws' fs' at out next out'
        → Going v g₀ gs₀ ws₀ fs₀ bs number out₀ (i + 1) g' gs' ws' fs' out' next
    going_next i g gs ws fs out at g' gs' ws' fs' next out' w j =
        let e = event_of v (drop (i * 14) bs) in
        let es = events_of v i bs in
        let p = w.became.tables in
        let s : table_of g gs ws fs ≡ table_after t₀ es = run-shown es g gs ws fs p in
        record {
          became = record {
            tables = j.became.tables
                ∙ ap (λ (x : Table). written gs ws fs (answered x e).table) s
                ∙ ap (λ (x : Lent). written x.1 x.2 x.3 (answered (table_after t₀ es) e).table) p
                ∙ run-again es (answered (table_after t₀ es) e).table (one_same (table_after t₀ es) e)
                ∙ ap (written gs₀ ws₀ fs₀) (sym (table_more v t₀ i bs));
            known = j.became.known;
          };
          lines = put_as
              (lines_more v number t₀ i bs
              ∙ ap (λ (x : Table). lines_from number (answers_to t₀ es) ++ line_of (number + i + 1) (answered x e).answer) (sym s))
              (puts w.lines j.line);
        }

    -- all whole events were judged, and what is left of the bytes stands apart
    pub turned : (g : Gate) (gs ws fs out : List ℕ) (events bytes : ℕ) → FedBy v bs number g₀ gs₀ ws₀ fs₀ g gs ws fs out₀ out events bytes
        → events ≡ whole bs → (rest : List ℕ) → rest ≡ drop (whole bs * 14) bs → (number' : ℕ) → number' ≡ number + whole bs
        → Turned v bs number g₀ gs₀ ws₀ fs₀ rest number' g gs ws fs out₀ bytes out
    unfolding lines left
    turned g gs ws fs out events bytes f n rest p number' q =
        let b = subst (λ (k : ℕ). Became (table_after t₀ (events_of v k bs)) gs₀ ws₀ fs₀ g gs ws fs) n f.became in
        let s = run-shown (events_of v (whole bs) bs) g gs ws fs b.tables in
        record {
          place = λ i. record { version = v; bytes = p i; table = s i; number = q i };
          became = b;
          lines = subst (λ (k : ℕ). Put 0 (lines_from number (answers_to t₀ (events_of v k bs))) out₀ bytes out) n f.lines;
          room = f.room;
        }
