-- The stubs of the waiting rows and of the notes: where the waiting rows are given by their stubs, the notes match. Assumes nothing.
use Rattle.std.proofs.Common.{◌≡◌, ℕ, ◌<◌, List, map, sym, ap, ◌∙◌, lit<}
use Rattle.lists.specs.Tab.{tab, map-tab, tab_ext}
use Rattle.lists.specs.Lines.{line_at}
use Rattle.lists.specs.RowsLaws.{rows-tab}
use Rattle.rules.specs.Tables.{name}
use Rattle.table.specs.Columns.{GUEST, ID, LTAG, waiting_wide, waiting_at}
use Rattle.table.specs.View.{request_form, waiting_of}
use Rattle.book.specs.Book.{called}
use Rattle.book.specs.Stubs.{Stub, stub}
use Rattle.tally.specs.Columns.{LIMITED, note_wide, note_at}
use Rattle.tally.specs.Kept.{entry_at, book_of, Matches}

-- the stub of waiting row k
abbrev pub stub_at : List ℕ → ℕ → Stub
stub_at ws k = record { guest = waiting_at ws k GUEST; id = waiting_at ws k ID; ltag = waiting_at ws k LTAG }

-- the stub that stands where there is none
abbrev pub no_stub : Stub
no_stub = record { guest = 0; id = 0; ltag = 0 }

-- the stubs of the first n rows
pub stubs_tab : (ws : List ℕ) (n : ℕ) → map stub (waiting_of ws n) ≡ tab n (stub_at ws)
stubs_tab ws n = ap (map stub) (rows-tab request_form ws n) ∙ map-tab stub n (λ j. request_form.read (line_at waiting_wide ws j))

-- a row and its note, at another place in other lists
pub moved_match : (ws vs bk ck : List ℕ) (i j : ℕ) → stub_at vs i ≡ stub_at ws j → ((c : ℕ) → c < note_wide → note_at ck i c ≡ note_at bk j c) → Matches ws bk j → Matches vs ck i
moved_match ws vs bk ck i j e n m =
    record {
      guest = n GUEST (lit< tt) ∙ m.guest ∙ sym (ap Stub.guest e);
      id = n ID (lit< tt) ∙ m.id ∙ sym (ap Stub.id e);
      ltag = n LIMITED (lit< tt) ∙ m.ltag ∙ sym (ap Stub.ltag e);
    }

-- where every note matches, the book has the names of those that wait
pub matched_names : (ws bk : List ℕ) (n : ℕ) → ((k : ℕ) → k < n → Matches ws bk k) → map called (book_of bk n) ≡ map name (waiting_of ws n)
matched_names ws bk n m =
    map-tab called n (entry_at bk)
    ∙ tab_ext n (λ k. called (entry_at bk k)) (λ k. name (request_form.read (line_at waiting_wide ws k))) (λ k l i. record { guest = (m k l).guest i; id = (m k l).id i })
    ∙ sym (ap (map name) (rows-tab request_form ws n) ∙ map-tab name n (λ k. request_form.read (line_at waiting_wide ws k)))
