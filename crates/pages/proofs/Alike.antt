-- Document 02, K9, "The printed decisions of a moved trace are the same", and so is its sheet. Assumes nothing.
use Prim.Native.Nat.{ℕ, ◌≤◌}
use mathlib.Core.Path.{◌≡◌, sym, ap, ◌∙◌}
use mathlib.Core.List.{List}
use native.Mathlib.Omega.{arith}
use Rattle.rules.specs.Refusals.{Verdict, accept, judged}
use Rattle.trace.specs.Header.{first_version, last_version, depth_of, capacity_of, rule_of, settings_in, opened_of, header_by}
use Rattle.trace.proofs.Runs.{run}
use Rattle.book.proofs.Balance.{page_for}
use Rattle.moved.specs.Result.{moved_to}
use Rattle.moved.specs.Moves.{reads_in, move_tests}
use Rattle.moved.proofs.Bytes.{rule_there}
use Rattle.moved.proofs.Movable.{Movable, movable, header_good, settings-there, reads_there, moved_movable}
use Rattle.pages.specs.Sheet.{figures_lines, sheet_of}
use Rattle.pages.proofs.AfterRun.{sheet-run}

-- the sheet of a trace that can be moved: the figures after its events
sheet-of : (v : ℕ) (bs : List ℕ) → first_version ≤ v → v ≤ last_version → Movable v bs
    → sheet_of bs ≡ figures_lines 0 (page_for (depth_of bs) (capacity_of bs) (rule_of bs) (settings_in bs) (run (reads_in bs))).figures
sheet-of v bs low high m =
    sheet-run bs (opened_of bs)
    (ap (λ (w : Verdict). header_by w bs) (header_good first_version last_version v bs low high m))

-- that of its move is the same
pub sheet-there : (v w : ℕ) (bs : List ℕ) → Movable v bs → first_version ≤ v → v ≤ last_version → first_version ≤ w → w ≤ last_version → sheet_of (moved_to w bs) ≡ sheet_of bs
unfolding moved_to
sheet-there v w bs m a b c d =
    let rule = rule_there w bs m.fits ∙ sym m.rule in
    sheet-of w (moved_to w bs) c d (moved_movable v w bs m)
    ∙ (λ i. figures_lines 0 (page_for (depth_of bs) (capacity_of bs) (rule i) (settings-there v w bs m i) (run (reads_there v w bs m i))).figures)
    ∙ sym (sheet-of v bs a b m)

-- of a trace that goes up, and of one that goes back
pub up-sheet : (bs : List ℕ) (room : ℕ) → judged (move_tests 1 2 bs room) ≡ accept → sheet_of (moved_to 2 bs) ≡ sheet_of bs
up-sheet bs room e = sheet-there 1 2 bs (movable 1 2 bs room e) (omega arith) (omega arith) (omega arith) (omega arith)

pub back-sheet : (bs : List ℕ) (room : ℕ) → judged (move_tests 2 1 bs room) ≡ accept → sheet_of (moved_to 1 bs) ≡ sheet_of bs
back-sheet bs room e = sheet-there 2 1 bs (movable 2 1 bs room e) (omega arith) (omega arith) (omega arith) (omega arith)
