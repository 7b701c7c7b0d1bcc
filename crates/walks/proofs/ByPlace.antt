-- Laws of walks that are told by the place where a row's numbers begin, and whose marks are numbers: they stand beside those by rows, which the code cites.
-- Assumes nothing.
use Rattle.std.specs.Prelude.{ℕ, zero, suc, ◌+◌, ◌-◌, ◌*◌, ◌≤◌, ◌<◌, ◌≡◌, refl, Bool, true, false, not, List, eqb, length, get_or, set, replicate}
use Rattle.std.proofs.Common.{sym, ap, ◌∙◌, subst, ⊎_elim, arith, length-set, get_or-set_other, get_or-set_same, eqb-true}
use Rattle.std.proofs.lemmas.List.{length-replicate, get_or-replicate}
use Rattle.std.proofs.lemmas.Bool.{eqb-false}
use Rattle.lists.specs.Tab.{lt_or_le}
use Rattle.table.specs.Columns.{GUEST, ID, waiting_wide, most_guests, waiting_at}
use Rattle.walks.specs.Survey.{idle_in}
use Rattle.walks.specs.WalksRows.{row_from}
use Rattle.walks.specs.Marks.{Stood, stood-later}
use Rattle.walks.specs.Unseen.{Marked}
use Rattle.walks.specs.SurveyLaws.{lacks_in, lacks_not, Behind, none-lacks, idle_by}

-- MARKS

-- every guest that is marked has one of the first i rows
pub record Marks (ws : List ℕ) (i : ℕ) (seen : List ℕ) : Type 0 where
  pub long : length seen ≡ most_guests
  pub stood : (g : ℕ) → g < most_guests → (get_or seen g 0 ≡ 0 → ⊥) → Stood ws i g

module _ (ws : List ℕ) where
  -- nobody is marked at first
  pub marks_start : Marks ws 0 (replicate most_guests 0)
  marks_start = record { long = length-replicate {A = ℕ} most_guests 0; stood = λ g h marked. absurd (marked (get_or-replicate {A = ℕ} most_guests g 0 0 h)) }

  -- row i is passed over
  pub marks_later : (i : ℕ) (seen : List ℕ) → Marks ws i seen → Marks ws (i + 1) seen
  marks_later i seen m = record { long = m.long; stood = λ g h marked. stood-later (m.stood g h marked) (omega arith) }

  -- the guest of row i is marked
  pub marks_mark : (i : ℕ) (seen : List ℕ) → Marks ws i seen → Marks ws (i + 1) (set seen (waiting_at ws i GUEST) 1)
  marks_mark i seen m =
      record {
        long = length-set seen (waiting_at ws i GUEST) 1 ∙ m.long;
        stood = λ g h marked. go g h marked (eqb g (waiting_at ws i GUEST)) refl;
      }
    where
      go : (g : ℕ) → g < most_guests → (get_or (set seen (waiting_at ws i GUEST) 1) g 0 ≡ 0 → ⊥) → (b : Bool) → eqb g (waiting_at ws i GUEST) ≡ b → Stood ws (i + 1) g
      go g h marked true e = record { place = i; before = omega arith; own = sym (eqb-true g (waiting_at ws i GUEST) e) }
      go g h marked false e =
          stood-later (m.stood g h (λ z. marked (get_or-set_other seen (waiting_at ws i GUEST) g 1 0 (eqb-false g (waiting_at ws i GUEST) e) ∙ z))) (omega arith)

-- a guest's mark in a list
abbrev pub mark_in : List ℕ → (g : ℕ) → ℕ
mark_in seen g = get_or seen g 0

-- a mark is put in a list
pub marked_set : (seen : List ℕ) (g : ℕ) → g < length seen → Marked (mark_in seen) g (mark_in (set seen g 1))
marked_set seen g long = record { own = get_or-set_same seen g 1 0 long; others = λ k other. get_or-set_other seen g k 1 0 other }

-- A GUEST'S OWN ROWS

-- the walk over the rows from the last to the first, down to the one whose numbers begin at `from`: none passed is this request, and whether one is of
-- its guest
pub record Searched (ws : List ℕ) (count g id : ℕ) (waits : Bool) (from : ℕ) : Type 0 where
  pub row : ℕ
  pub begins : from ≡ row * waiting_wide
  pub inside : row ≤ count
  pub lacking : (k : ℕ) → row ≤ k → k < count → waiting_at ws k GUEST ≡ g → waiting_at ws k ID ≡ id → ⊥
  pub idling : Behind ws count g row waits

module _ (ws : List ℕ) (count g id : ℕ) where
  -- behind the last row
  pub search_start : Searched ws count g id false (count * waiting_wide)
  search_start = record { row = count; begins = refl; inside = omega arith; lacking = λ k l m e i. omega (arith, l, m); idling = λ k l m e. omega (arith, l, m) }

  module _ {waits : Bool} {from : ℕ} (s : Searched ws count g id waits from) (more : 0 < from) where
    -- the row that is next
    next : ℕ
    next = s.row - 1

    -- it is the first of those passed from then on
    next_is : (s.row ≡ next + 1) × (from - waiting_wide ≡ next * waiting_wide)
    unfolding next
    next_is = (omega (arith, s.begins, more), omega (arith, s.begins, more))

    -- a number of it
    read : (j : ℕ) → get_or ws (from - waiting_wide + j) 0 ≡ waiting_at ws next j
    read j = row_from ws next j next_is.1

    -- a row from it on is it, or one passed before
    split : {A : Type 0} (k : ℕ) → next ≤ k → (next ≡ k → A) → (s.row ≤ k → A) → A
    split k l f h = ⊎_elim (λ m. f (omega (arith, m, l))) (λ m. h (omega (arith, m, next_is.0))) (lt_or_le k (next + 1))

    -- the row is this request
    pub search_hit : get_or ws (from - waiting_wide + GUEST) 0 ≡ g → get_or ws (from - waiting_wide + ID) 0 ≡ id → lacks_in ws count g id ≡ false
    search_hit e i = lacks_not ws g id count next (omega (arith, next_is.0, s.inside)) (sym (read GUEST) ∙ e) (sym (read ID) ∙ i)

    -- another request of the guest
    pub search_own : get_or ws (from - waiting_wide + GUEST) 0 ≡ g → (get_or ws (from - waiting_wide + ID) 0 ≡ id → ⊥) → Searched ws count g id true (from - waiting_wide)
    search_own e i =
        record {
          row = next;
          begins = next_is.1;
          inside = omega (arith, next_is.0, s.inside);
          lacking = λ k l m f q. split k l (λ n. i (read ID ∙ ap (λ (x : ℕ). waiting_at ws x ID) n ∙ q)) (λ n. s.lacking k n m f q);
          idling = (next, omega arith, omega (arith, next_is.0, s.inside), sym (read GUEST) ∙ e);
        }

    -- another guest's
    pub search_other : (get_or ws (from - waiting_wide + GUEST) 0 ≡ g → ⊥) → Searched ws count g id waits (from - waiting_wide)
    search_other d =
        record {
          row = next;
          begins = next_is.1;
          inside = omega (arith, next_is.0, s.inside);
          lacking = λ k l m f q. split k l (λ n. here k n f) (λ n. s.lacking k n m f q);
          idling = still waits s.idling;
        }
      where
        here : (k : ℕ) → next ≡ k → waiting_at ws k GUEST ≡ g → ⊥
        here k n f = d (read GUEST ∙ ap (λ (x : ℕ). waiting_at ws x GUEST) n ∙ f)

        still : (b : Bool) → Behind ws count g s.row b → Behind ws count g next b
        still true (k, l, m, e) = (k, omega (arith, l, next_is.0), m, e)
        still false none = λ k l m f. split k l (λ n. here k n f) (λ n. none k n m f)

  -- at the first row
  pub search_end : {waits : Bool} {from : ℕ} → Searched ws count g id waits from → from ≤ 0 → (lacks_in ws count g id ≡ true) × (idle_in ws count g ≡ not waits)
  search_end {waits} s done =
      let q : s.row ≡ 0 = omega (arith, s.begins, done) in
      (none-lacks ws count g id count (λ k m. s.lacking k (omega (arith, q)) m), idle_by ws count g id count waits (rw q at s.idling))

-- WHAT IS LEFT

-- what each row that is left keeps holds behind the last of count rows; n are left, and the first of them begins at `from`
pub kept-to-end : (P : ℕ → Type 0) (count : ℕ) → ((at : ℕ) → at < count * waiting_wide → P at → P (at + waiting_wide)) → (n from : ℕ) → n * waiting_wide + from ≡ count * waiting_wide → P from → P (count * waiting_wide)
kept-to-end P count keep zero from e p = subst P (omega (arith, e)) p
kept-to-end P count keep (suc n) from e p = kept-to-end P count keep n (from + waiting_wide) (omega (arith, e)) (keep from (omega (arith, e)) p)
