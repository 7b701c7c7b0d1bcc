-- The rows of the book: what stands in each once a note is added at the end, or one is struck, and which book that is. Assumes nothing.
use Rattle.std.proofs.Common.{◌≡◌, ℕ, suc, ◌+◌, ◌-◌, ◌*◌, ◌<◌, ◌≤◌, List, [], ◌∷◌, ◌++◌, length, get_or, sym, ap, ◌∙◌, ⊎_elim, add-one, arith, lit<}
use Rattle.lists.specs.Tab.{tab, remove_at, length-tab, get_or-tab, is_tab, length-remove_at, get_or-remove_at-below, get_or-remove_at_from, tab_snoc, tab_ext, lt_or_le}
use Rattle.lists.specs.Stores.{length-stores, stores_other, stores_at}
use Rattle.lists.specs.Parts.{length-shut, shut-before, shut-moved}
use Rattle.table.specs.Columns.{GUEST, ID}
use Rattle.tally.specs.Columns.{SINCE, note_wide, note_at}
use Rattle.tally.specs.Kept.{entry_at, book_of}
use Rattle.tally.specs.Notes.{noted_at, struck_at}

-- a list that is given by a function of the place, without its element at p: those behind it move down one place
module _ {A : Type 0} (d : A) (p n : ℕ) (f : ℕ → A) (here : p < n) where
  long : p < length (tab n f)
  long = omega (arith, length-tab n f)

  pub removed_below : (k : ℕ) → k < p → get_or (remove_at p (tab n f)) k d ≡ f k
  removed_below k l = get_or-remove_at-below p (tab n f) k d l ∙ get_or-tab n f k d (omega arith)

  pub removed_from : (k : ℕ) → p ≤ k → suc k < n → get_or (remove_at p (tab n f)) k d ≡ f (suc k)
  removed_from k l m = get_or-remove_at_from p (tab n f) k d l ∙ get_or-tab n f (suc k) d m

  pub tab_removed : (h : ℕ → A) → ((k : ℕ) → k < p → h k ≡ f k) → ((k : ℕ) → p ≤ k → suc k < n → h k ≡ f (suc k)) → tab (n - 1) h ≡ remove_at p (tab n f)
  tab_removed h below from =
      is_tab d (n - 1) h (remove_at p (tab n f)) (length-remove_at p (tab n f) long ∙ ap (λ (m : ℕ). m - 1) (length-tab n f))
      (λ k l. ⊎_elim (λ b. below k b ∙ sym (removed_below k b)) (λ b. let m : suc k < n = omega arith in from k b m ∙ sym (removed_from k b m)) (lt_or_le k p))

-- A NOTE AT THE END

module _ (m : ℕ) (note bk : List ℕ) (room : m * note_wide + note_wide ≤ length bk) where
  -- the notes before it are as they were
  pub noted-below : (k j : ℕ) → k < m → j < note_wide → note_at (noted_at m note bk) k j ≡ note_at bk k j
  noted-below k j h l = stores_other (λ i. m * note_wide + i) (λ i. get_or note i 0) bk note_wide (k * note_wide + j) (λ i b e. omega arith)

  -- it has its numbers
  pub noted_last : (j : ℕ) → j < note_wide → note_at (noted_at m note bk) m j ≡ get_or note j 0
  noted_last j l = stores_at (λ i. m * note_wide + i) (λ i. get_or note i 0) bk (λ a b h e. omega arith) note_wide j l (omega arith)

  -- the book is as long as it was
  pub length-noted : length (noted_at m note bk) ≡ length bk
  length-noted = length-stores (λ i. m * note_wide + i) (λ i. get_or note i 0) bk note_wide

  -- and it has one entry more
  pub noted_book : book_of (noted_at m note bk) (m + 1) ≡ book_of bk m ++ (record { guest = get_or note GUEST 0; id = get_or note ID 0; time = get_or note SINCE 0 } ∷ [])
  noted_book =
      let last : entry_at (noted_at m note bk) m ≡ record { guest = get_or note GUEST 0; id = get_or note ID 0; time = get_or note SINCE 0 } =
      λ i. record { guest = noted_last GUEST (lit< tt) i; id = noted_last ID (lit< tt) i; time = noted_last SINCE (lit< tt) i } in
      let front : tab m (entry_at (noted_at m note bk)) ≡ tab m (entry_at bk) =
      tab_ext m (entry_at (noted_at m note bk)) (entry_at bk) (λ k h i. record { guest = noted-below k GUEST h (lit< tt) i; id = noted-below k ID h (lit< tt) i; time = noted-below k SINCE h (lit< tt) i }) in
      ap (book_of (noted_at m note bk)) (add-one m) ∙ tab_snoc m (entry_at (noted_at m note bk)) ∙ (λ i. front i ++ (last i ∷ []))

-- A NOTE STRUCK

module _ (p n : ℕ) (bk : List ℕ) (here : p < n) (room : n * note_wide ≤ length bk) where
  -- the notes before it are as they were
  pub struck-below : (k j : ℕ) → k < p → j < note_wide → note_at (struck_at p n bk) k j ≡ note_at bk k j
  struck-below k j h l = shut-before note_wide (p * note_wide) (n * note_wide) bk (omega arith) room (k * note_wide + j) (omega arith)

  -- those behind it have moved down one place
  pub struck_from : (k j : ℕ) → p ≤ k → suc k < n → j < note_wide → note_at (struck_at p n bk) k j ≡ note_at bk (suc k) j
  struck_from k j h m l =
      shut-moved note_wide (p * note_wide) (n * note_wide) bk (omega arith) room (k * note_wide + j) (omega arith) (omega arith)
      ∙ ap (λ (i : ℕ). get_or bk i 0) (omega arith)

  -- the book is as long as it was
  pub length-struck : length (struck_at p n bk) ≡ length bk
  length-struck = length-shut note_wide (p * note_wide) (n * note_wide) bk (omega arith) room

  -- and it lacks the entry
  pub struck_book : book_of (struck_at p n bk) (n - 1) ≡ remove_at p (book_of bk n)
  struck_book =
      tab_removed (record { guest = 0; id = 0; time = 0 }) p n (entry_at bk) here (entry_at (struck_at p n bk))
      (λ k h i. record { guest = struck-below k GUEST h (lit< tt) i; id = struck-below k ID h (lit< tt) i; time = struck-below k SINCE h (lit< tt) i })
      (λ k h m i. record { guest = struck_from k GUEST h m (lit< tt) i; id = struck_from k ID h m (lit< tt) i; time = struck_from k SINCE h m (lit< tt) i })
