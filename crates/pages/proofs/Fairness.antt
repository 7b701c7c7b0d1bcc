-- A page that was begun at an empty table stays in balance with it, so no guest was sent more than arrived, and completed no more than was sent.
-- Assumes nothing.
use Prim.Native.Nat.{ℕ, ◌<◌}
use mathlib.Core.Path.{◌≡◌, refl, ap}
use mathlib.Core.List.{List, [], ◌∷◌}
use lib.Dec.{eqb}
use lib.ListN.{length}
use Rattle.lists.specs.Words.{filter}
use Rattle.lists.specs.Tab.{length-tab, get_or-tab}
use Rattle.rules.specs.Tables.{Request, mine}
use Rattle.rules.specs.Run.{fresh}
use Rattle.rules.specs.declared.Settings.{Settings}
use Rattle.rules.specs.declared.Flight.{Flight}
use Rattle.rules.specs.declared.Gate.{Gate}
use Rattle.trace.specs.Event.{events_of, whole, Read}
use Rattle.book.specs.Figures.{unseen, figures_at}
use Rattle.book.specs.Page.{Page, first_page}
use Rattle.book.specs.Balance.{waits_of, flies_of}
use Rattle.book.proofs.Balance.{balanced_first, balanced_turned, covered}
use Rattle.tally.specs.Kept.{figures_in, figures_of, page_of}
use Rattle.pages.specs.Sheet.{read, page_after, Stand, onward}
use Rattle.pages.specs.Standing.{Fair, Owing}
use Rattle.std.specs.Prelude.{Some, None}

-- the first page
pub fair-first : (d c rule : ℕ) (ss : List Settings) → Fair (first_page (fresh d c rule ss))
unfolding fresh
fair-first d c rule ss = record { first = fresh d c rule ss; unwaited = refl; unflown = refl; balanced = balanced_first (fresh d c rule ss) }

-- after an event as it was read
fair-read : (p : Page) (e : Read) → Fair p → Fair (read p e)
fair-read p (Some e) f = record { first = f.first; unwaited = f.unwaited; unflown = f.unflown; balanced = balanced_turned f.first p e f.balanced }
fair-read p None f = f

-- after a run of them
fair-after : (p : Page) (es : List Read) → Fair p → Fair (page_after p es)
unfolding page_after
fair-after p [] f = f
fair-after p (e ∷ es) f = fair-after (read p e) es (fair-read p e f)

-- where the whole events among the bytes are judged
pub fair-onward : (s : Stand) → Fair s.page → Fair (onward s).page
unfolding onward
fair-onward s f = fair-after s.page (events_of s.version (whole s.bytes) s.bytes) f

-- what the rows of such a page owe
pub fair_owing : (g : Gate) (gs ws fs bk fg : List ℕ) → Fair (page_of g gs ws fs bk fg) → Owing g.guests fg
fair_owing g gs ws fs bk fg f k h =
    let l : k < length (figures_of fg g.guests) = rw length-tab h in
    let e : figures_at (figures_of fg g.guests) k ≡ figures_in fg k = get_or-tab g.guests (figures_in fg) k unseen h in
    let a : waits_of k f.first ≡ 0 = ap (λ (w : List Request). length (mine k w)) f.unwaited in
    let b : flies_of k f.first ≡ 0 = ap (λ (w : List Flight). length (filter (λ x. eqb x.guest k) w)) f.unflown in
    let x = covered f.first (page_of g gs ws fs bk fg) f.balanced k l a b in
    (rw e at x.sent, rw e at x.ended)
