-- Document 01's example through the public calls: open, then its ten events, whatever the lent tables held before. Assumes nothing.
use Prim.Native.Nat.{ℕ, ◌≤◌}
use mathlib.Core.Path.{◌≡◌, refl, ap, ◌∙◌}
use mathlib.Core.Bool.{true}
use mathlib.Core.List.{List, [], ◌∷◌, map}
use lib.ListN.{length}
use borrow.Author.Tests.{le-ltb}
use Rattle.lists.specs.Lines.{lines_of}
use Rattle.lists.specs.Rows.{rows_of}
use Rattle.rules.specs.Tables.{Table}
use Rattle.rules.specs.Answers.{shown}
use Rattle.rules.specs.Sound.{counted, settled, ruled}
use Rattle.rules.specs.Refusals.{open_tests}
use Rattle.rules.proofs.Trials.{R, -, W, X, lines}
use Rattle.rules.proofs.Readings.{one, ten, readings}
use Rattle.gate.specs.Promise.{numbers, handed_in, open_short_in, opening_in, opened_in, opened}
use Rattle.gate.specs.Calls.{Host, holds, replies, shows, taken}
use Rattle.gate.proofs.Lending.{numbers-lawful}
use Rattle.gate.proofs.Opened.{opened-firm}
use Rattle.gate.proofs.Runs.{calls_run}

-- "one guest (reservation 100, limit 250, shares 1)", with no credit
abbrev lent : List ℕ
lent = 100 ∷ 250 ∷ 1 ∷ 0 ∷ []

module _ (gs ws fs : List ℕ) (g : 7 ≤ length gs) (w : 48 ≤ length ws) (f : 8 ≤ length fs) where
  -- "depth 4 .. capacity 8", under document 01's own rule
  abbrev host : Host numbers
  host = holds numbers (opened 4 1 8 1 lent gs ws fs)

  accepts : taken (opened 4 1 8 1 lent gs ws fs).0.answer ≡ true
  unfolding opened_in opening_in open_tests open_short_in counted settled ruled rows_of lines_of handed_in
  accepts = rw (le-ltb (length gs) 7 g, le-ltb (length ws) 48 w, le-ltb (length fs) 8 f) refl

  starts : shows numbers host ≡ one
  unfolding rows_of lines_of
  starts = (opened-firm numbers numbers-lawful 4 1 8 1 lent gs ws fs accepts).1

  -- the ten answers
  pub example : map shown (replies numbers host ten) ≡ R 0 1 ∷ - ∷ - ∷ - ∷ W 0 2 ∷ W 0 3 ∷ R 0 4 ∷ X 6 ∷ - ∷ X 10 ∷ []
  unfolding lines
  example =
      let r = calls_run numbers numbers-lawful ten host (opened-firm numbers numbers-lawful 4 1 8 1 lent gs ws fs accepts).0 refl in
      ap (map shown) r.answered ∙ ap (λ (t : Table). lines t ten) starts ∙ readings.ten-answers
