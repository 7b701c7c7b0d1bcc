-- How the bytes of events were split between reads makes no difference to the sheet. Assumes nothing.
use Prim.Native.Nat.{ℕ, ◌+◌, ◌*◌, ◌<◌}
use mathlib.Core.Path.{◌≡◌, refl, ap, ◌∙◌}
use mathlib.Core.List.{List, [], ◌∷◌, ◌++◌}
use native.Mathlib.Omega.{arith}
use lib.ListN.{length, drop}
use Rattle.trace.specs.Event.{event_of, events_of, whole, Read}
use Rattle.trace.proofs.EventLaws.{events_snoc}
use Rattle.trace.proofs.Split.{rest, events_split}
use Rattle.book.specs.Page.{Page}
use Rattle.pages.specs.Sheet.{read, page_after, Stand, onward, closing, figures_lines}
use Rattle.pages.specs.Standing.{more}

-- two runs of events
page-append : (p : Page) (xs ys : List Read) → page_after p (xs ++ ys) ≡ page_after (page_after p xs) ys
unfolding page_after
page-append p [] ys = refl
page-append p (x ∷ xs) ys = page-append (read p x) xs ys

-- none yet
pub page-none : (v : ℕ) (p : Page) (bs : List ℕ) → page_after p (events_of v 0 bs) ≡ p
unfolding page_after events_of
page-none v p bs = refl

-- one event more, as a loop goes over them
pub page-more : (v : ℕ) (p : Page) (k : ℕ) (bs : List ℕ) → page_after p (events_of v (k + 1) bs) ≡ read (page_after p (events_of v k bs)) (event_of v (drop (k * 14) bs))
unfolding page_after
page-more v p k bs = ap (page_after p) (events_snoc v k bs) ∙ page-append p (events_of v k bs) (event_of v (drop (k * 14) bs) ∷ [])

-- THE SPLIT: with more bytes behind, the sheet is the one of the page that the whole events among the first bytes give
pub closing-onward : (s : Stand) (later : List ℕ) → closing (more s later) ≡ closing (more (onward s) later)
unfolding closing onward
closing-onward s later =
    ap (λ (es : List Read). figures_lines 0 (page_after s.page es).figures) (events_split s.bytes later s.version)
    ∙ ap (λ (p : Page). figures_lines 0 p.figures) (page-append s.page (events_of s.version (whole s.bytes) s.bytes) (events_of s.version (whole (rest s.bytes later)) (rest s.bytes later)))

-- where no whole event is left, the sheet is the page's
pub closing_few : (s : Stand) → length s.bytes < 14 → closing s ≡ figures_lines 0 s.page.figures
unfolding closing onward
closing_few s few =
    let z : whole s.bytes ≡ 0 = omega arith in
    ap (λ (k : ℕ). figures_lines 0 (page_after s.page (events_of s.version k s.bytes)).figures) z
    ∙ ap (λ (p : Page). figures_lines 0 p.figures) (page-none s.version s.page s.bytes)
