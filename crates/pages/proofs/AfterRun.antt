-- The sheet of a trace is that of a run of its good events from the fresh table, so what is proved of the figures over runs holds of what is
-- printed. Assumes nothing.
use Prim.Native.Nat.{ℕ, ◌+◌, ◌<◌}
use mathlib.Core.Path.{◌≡◌, refl, ap, ◌∙◌}
use mathlib.Core.List.{List, [], ◌∷◌}
use lib.ListN.{length, drop}
use Rattle.rules.specs.Run.{fresh, after}
use Rattle.rules.specs.declared.Event.{Event}
use Rattle.trace.specs.Header.{body, settings_in, header_of, Header}
use Rattle.trace.specs.Answers.{reads_of}
use Rattle.trace.proofs.Runs.{run}
use Rattle.book.specs.Page.{Page, turned, turned_by}
use Rattle.book.specs.Balance.{waits_of, flies_of}
use Rattle.book.proofs.Balance.{page_for, figures_for, Covered, fresh_arrivals, fresh_covered}
use Rattle.pages.specs.Sheet.{page_after, onward, closing, figures_lines, sheet_by, sheet_of}
use Rattle.std.specs.Prelude.{Some, None, Ok}
use Rattle.trace.specs.Event.{Read}
use Rattle.trace.specs.declared.Opened.{Opened}

-- the page after events as they were read is the page after the good ones
pub page-run : (p : Page) (es : List Read) → page_after p es ≡ turned_by p (run es)
unfolding page_after turned_by
page-run p [] = refl
page-run p (Some e ∷ es) = page-run (turned p e) es
page-run p (None ∷ es) = page-run p es

-- A TRACE whose header opens with these counts
module _ (bs : List ℕ) (o : Opened) where
  -- its good events
  abbrev pub goods : List Event
  goods = run (reads_of o.version (drop (body o.version o.guests) bs))

  -- THE SHEET: the lines of the figures after them
  pub sheet-run : header_of bs ≡ Ok o → sheet_of bs ≡ figures_lines 0 (page_for o.depth o.capacity o.rule (settings_in bs) goods).figures
  unfolding sheet_of closing onward
  sheet-run e = ap (λ (h : Header). sheet_by h bs) e ∙ ap (λ (p : Page). figures_lines 0 p.figures) (page-run _ (reads_of o.version (drop (body o.version o.guests) bs)))

  -- Document 02, K1: "accepted arrivals equal waiting plus in flight plus completed, per guest", of the figures that are printed
  pub sheet_arrivals : (g : ℕ) → g < length (settings_in bs)
      → (figures_for o.depth o.capacity o.rule (settings_in bs) goods g).arrivals
      ≡ waits_of g (after (fresh o.depth o.capacity o.rule (settings_in bs)) goods) + flies_of g (after (fresh o.depth o.capacity o.rule (settings_in bs)) goods) + (figures_for o.depth o.capacity o.rule (settings_in bs) goods g).completions
  sheet_arrivals = fresh_arrivals o.depth o.capacity o.rule (settings_in bs) goods

  -- and the last two numbers of a line are how many entries the gate's tables have at the end
  pub sheet-left : (g : ℕ) → g < length (settings_in bs) → Covered (after (fresh o.depth o.capacity o.rule (settings_in bs)) goods) g (figures_for o.depth o.capacity o.rule (settings_in bs) goods g)
  sheet-left = fresh_covered o.depth o.capacity o.rule (settings_in bs) goods
