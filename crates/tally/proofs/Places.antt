-- The place of a name in a list of names, and among the notes. Assumes nothing.
use Rattle.std.proofs.Common.{◌≡◌, ℕ, zero, suc, ◌<◌, ◌≤◌, true, false, eqb, List, [], ◌∷◌, map, length, get_or, sym, refl, ap, ◌∙◌, arith, eq-eqb, ne_eqb}
use mathlib.Core.Bool.{and-false}
use lib.ListN.{length-map}
use Rattle.lists.specs.Tab.{length-tab, get_or-tab, map-tab}
use Rattle.rules.specs.Tables.{same}
use Rattle.rules.specs.declared.Flight.{Flight}
use Rattle.table.specs.Columns.{GUEST, ID}
use Rattle.book.specs.Book.{called}
use Rattle.book.specs.Page.{named}
use Rattle.tally.specs.Columns.{note_at}
use Rattle.tally.specs.Kept.{entry_at, book_of}
use Rattle.tally.specs.Notes.{place_of, found_in}

-- the first place of a name
pub place_at_lem : (f : Flight) (l : List Flight) (d : Flight) (k : ℕ) → k < length l → same f (get_or l k d) ≡ true → ((j : ℕ) → j < k → same f (get_or l j d) ≡ false) → place_of f l ≡ k
place_at_lem f [] d k h e n = absurd (omega arith)
place_at_lem f (a ∷ l) d zero h e n = rw e
place_at_lem f (a ∷ l) d (suc k) h e n = rw (n 0 (omega arith)) (ap suc (place_at_lem f l d k (omega arith) e (λ j m. n (suc j) (omega arith))))

-- where none has the name
pub place_none : (f : Flight) (l : List Flight) (d : Flight) → ((j : ℕ) → j < length l → same f (get_or l j d) ≡ false) → place_of f l ≡ length l
place_none f [] d n = refl
place_none f (a ∷ l) d n = rw (n 0 (omega arith)) (ap suc (place_none f l d (λ j m. n (suc j) (omega arith))))

-- AMONG THE NOTES

-- no note before k has this name
abbrev pub NoneBefore : List ℕ → (g i k : ℕ) → Type 0
NoneBefore bk g i k = (j : ℕ) → j < k → same (named g i) (called (entry_at bk j)) ≡ false

module _ (bk : List ℕ) (count g i : ℕ) where
  names : List Flight
  names = map called (book_of bk count)

  long : length names ≡ count
  unfolding names
  long = length-map (book_of bk count) called ∙ length-tab count (entry_at bk)

  at : (k : ℕ) → k < count → get_or names k (named 0 0) ≡ called (entry_at bk k)
  unfolding names
  at k h = ap (λ (l : List Flight). get_or l k (named 0 0)) (map-tab called count (entry_at bk)) ∙ get_or-tab count (λ j. called (entry_at bk j)) k (named 0 0) h

  none : (k : ℕ) → k ≤ count → NoneBefore bk g i k → (j : ℕ) → j < k → same (named g i) (get_or names j (named 0 0)) ≡ false
  none k h n j l = ap (same (named g i)) (at j (omega arith)) ∙ n j l

  -- another id
  pub not_id : (k : ℕ) → (note_at bk k ID ≡ i → ⊥) → same (named g i) (called (entry_at bk k)) ≡ false
  not_id k d = rw (ne_eqb i (note_at bk k ID) (λ e. d (sym e))) (and-false (eqb g (note_at bk k GUEST)))

  -- another guest's
  pub not_guest : (k : ℕ) → (note_at bk k GUEST ≡ g → ⊥) → same (named g i) (called (entry_at bk k)) ≡ false
  not_guest k d = rw (ne_eqb g (note_at bk k GUEST) (λ e. d (sym e)))

  -- the first note of this name is found
  pub found_at : (k : ℕ) → k < count → note_at bk k GUEST ≡ g → note_at bk k ID ≡ i → NoneBefore bk g i k → found_in (named g i) bk count ≡ k
  unfolding names
  found_at k h e f n =
      place_at_lem (named g i) names (named 0 0) k (omega (arith, long))
      (ap (same (named g i)) (at k h) ∙ rw (eq-eqb g (note_at bk k GUEST) (sym e), eq-eqb i (note_at bk k ID) (sym f)))
      (none k (omega arith) n)

  -- none is found
  pub found_none : NoneBefore bk g i count → found_in (named g i) bk count ≡ count
  unfolding names
  found_none n = place_none (named g i) names (named 0 0) (λ j h. none count (omega arith) n j (omega (arith, long))) ∙ long
