-- Which guests have a row among the first ones, and marks that tell it, in a list. Assumes nothing.
use Rattle.std.specs.Prelude.{ℕ, ◌+◌, ◌≤◌, ◌<◌, ◌≡◌, refl, Bool, true, false, List, eqb, length, get_or, set, replicate}
use Rattle.std.proofs.Common.{sym, ◌∙◌, arith, length-set, get_or-set_other, eqb-true}
use Rattle.std.proofs.lemmas.List.{length-replicate, get_or-replicate}
use Rattle.std.proofs.lemmas.Bool.{false≢true, eqb-false}
use Rattle.table.specs.Columns.{GUEST, most_guests, waiting_at}

-- guest g has one of the first i rows
pub record Stood (ws : List ℕ) (i g : ℕ) : Type 0 where
  pub place : ℕ
  pub before : place < i
  pub own : waiting_at ws place GUEST ≡ g

-- and so of the first j, where these are no fewer
pub stood-later : {ws : List ℕ} {i j g : ℕ} → Stood ws i g → i ≤ j → Stood ws j g
stood-later s h = record { place = s.place; before = omega (arith, s.before, h); own = s.own }

-- every guest that is marked has one of the first i rows
pub record Marks (ws : List ℕ) (i : ℕ) (seen : List Bool) : Type 0 where
  pub long : length seen ≡ most_guests
  pub stood : (g : ℕ) → g < most_guests → get_or seen g false ≡ true → Stood ws i g

module _ (ws : List ℕ) where
  -- nobody is marked at first
  pub marks_start : Marks ws 0 (replicate most_guests false)
  marks_start = record { long = length-replicate {A = Bool} most_guests false; stood = λ g h marked. absurd (false≢true (sym (get_or-replicate {A = Bool} most_guests g false false h) ∙ marked)) }

  -- row i is passed over
  pub marks_later : (i : ℕ) (seen : List Bool) → Marks ws i seen → Marks ws (i + 1) seen
  marks_later i seen m = record { long = m.long; stood = λ g h marked. stood-later (m.stood g h marked) (omega arith) }

  -- the guest of row i is marked
  pub marks_mark : (i : ℕ) (seen : List Bool) → Marks ws i seen → Marks ws (i + 1) (set seen (waiting_at ws i GUEST) true)
  marks_mark i seen m =
      record {
        long = length-set seen (waiting_at ws i GUEST) true ∙ m.long;
        stood = λ g h marked. go g h marked (eqb g (waiting_at ws i GUEST)) refl;
      }
    where
      go : (g : ℕ) → g < most_guests → get_or (set seen (waiting_at ws i GUEST) true) g false ≡ true → (b : Bool) → eqb g (waiting_at ws i GUEST) ≡ b → Stood ws (i + 1) g
      go g h marked true e = record { place = i; before = omega arith; own = sym (eqb-true g (waiting_at ws i GUEST) e) }
      go g h marked false e =
          stood-later (m.stood g h (sym (get_or-set_other seen (waiting_at ws i GUEST) g true false (eqb-false g (waiting_at ws i GUEST) e)) ∙ marked)) (omega arith)
