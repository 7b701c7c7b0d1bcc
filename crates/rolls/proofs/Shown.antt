-- A page is kept by the requests that its waiting table shows, so places that are lent past those of the gate make no difference to it. Assumes nothing.
use Prim.Native.Nat.{ℕ, ◌*◌, ◌<◌}
use mathlib.Core.Path.{◌≡◌, refl, sym, ap, ◌∙◌}
use mathlib.Core.List.{List, ◌++◌, map}
use lib.ListN.{length, get_or, take, drop}
use Rattle.lists.specs.Tab.{get_or-tab}
use Rattle.rules.specs.Tables.{Table}
use Rattle.rules.specs.declared.Gate.{Gate}
use Rattle.table.specs.Columns.{waiting_wide}
use Rattle.table.specs.View.{table_of, Known}
use Rattle.windows.proofs.Longer.{front-known, front-shown, longer_known, longer_shown}
use Rattle.book.specs.Page.{Page}
use Rattle.book.specs.Stubs.{Stub, stub}
use Rattle.tally.specs.Kept.{book_of, figures_of, page_of}
use Rattle.tally.proofs.Stubs.{stub_at, no_stub, stubs_tab, moved_match}
use Rattle.pages.specs.Sheet.{page_after}
use Rattle.pages.specs.Standing.{Firm}
use Rattle.rolls.proofs.Staged.{same_places}
use Rattle.trace.specs.Event.{Read}

-- two waiting tables that show the same requests
module _ (g : Gate) (gs ws vs fs bk fg : List ℕ) (e : table_of g gs vs fs ≡ table_of g gs ws fs) where
  -- show the same page
  shown-page : page_of g gs vs fs bk fg ≡ page_of g gs ws fs bk fg
  shown-page = λ i. record { table = e i; book = book_of bk g.waiting; figures = figures_of fg g.guests }

  -- by the same stubs
  same-stub : (k : ℕ) → k < g.waiting → stub_at vs k ≡ stub_at ws k
  same-stub k l =
      sym (get_or-tab g.waiting (stub_at vs) k no_stub l)
      ∙ ap (λ (s : List Stub). get_or s k no_stub) (sym (stubs_tab vs g.waiting) ∙ ap (λ (t : Table). map stub t.waiting) e ∙ stubs_tab ws g.waiting)
      ∙ get_or-tab g.waiting (stub_at ws) k no_stub l

  -- so what is kept of one is kept of the other
  shown-firm : (n : ℕ) → Known g gs vs fs → Firm n g gs ws fs bk fg → Firm n g gs vs fs bk fg
  shown-firm n k f =
      let x = f.kept in
      record {
        known = k;
        kept = record {
          book_room = x.book_room;
          figures_room = x.figures_room;
          matches = λ j l. moved_match ws vs bk bk j j (same-stub j l) (λ i d. refl) (x.matches j l);
          past = x.past;
          few = x.few;
        };
      }

-- a waiting table that was lent with at least the places of its gate
module _ (n : ℕ) (g : Gate) (gs ws fs bk fg : List ℕ) (f : Firm n g gs ws fs bk fg) where
  abbrev size : ℕ
  size = g.setup.capacity * waiting_wide

  -- is known by these alone
  pub front-firm : Firm n g gs (take size ws) fs bk fg
  front-firm = shown-firm g gs ws (take size ws) fs bk fg (front-shown g gs ws fs f.known) n (front-known g gs ws fs f.known) f

  -- and what a run of events made of these, with the rest behind it, is what it makes of all
  pub front-after : (m : ℕ) (h : Gate) (hs vs es ck dg : List ℕ) (rs : List Read) → length vs ≡ size → page_of h hs vs es ck dg ≡ page_after (page_of g gs (take size ws) fs bk fg) rs → Firm m h hs vs es ck dg
      → (page_of h hs (vs ++ drop size ws) es ck dg ≡ page_after (page_of g gs ws fs bk fg) rs) × Firm m h hs (vs ++ drop size ws) es ck dg
  front-after m h hs vs es ck dg rs long e k =
      let long' : length vs ≡ h.setup.capacity * waiting_wide = long ∙ ap (λ (c : ℕ). c * waiting_wide) (sym (same_places h hs vs es ck dg (page_of g gs (take size ws) fs bk fg) rs e)) in
      let q = longer_shown h hs vs (drop size ws) es long' k.known in (
        shown-page h hs vs (vs ++ drop size ws) es ck dg q ∙ e ∙ ap (λ (p : Page). page_after p rs) (shown-page g gs ws (take size ws) fs bk fg (front-shown g gs ws fs f.known)),
        shown-firm h hs vs (vs ++ drop size ws) es ck dg q m (longer_known h hs vs (drop size ws) es long' k.known) k,
      )
