-- Laws of the walk that collects, told by the place where a row's numbers begin: they stand beside those by rows, which the code cites. Assumes nothing.
use Rattle.std.specs.Prelude.{ℕ, zero, suc, ◌+◌, ◌-◌, ◌*◌, ◌/◌, ◌≤◌, ◌<◌, ◌≡◌, refl, Bool, true, false, List, eqb, ltb, length, get_or, set}
use Rattle.std.proofs.Common.{sym, ap, ◌∙◌, subst, arith, add-one, get_or-set_other, get_or-set_same, eqb-true, ltb-true, ltb-false}
use Rattle.std.proofs.lemmas.Bool.{eqb-false}
use Rattle.table.specs.Columns.{GUEST, waiting_wide, waiting_at}
use Rattle.walks.specs.Walks.{Owned}
use Rattle.walks.specs.Marks.{Stood, stood-later}
use Rattle.looks.specs.InLine.{Behind}
use Rattle.walks.specs.Unseen.{bit_of, Marked, none-set, unseen, unseen_most, unseen-some, unseen-mark, unseen-again}
use Rattle.walks.specs.WalksRows.{row_from}
use Rattle.picks.specs.Collected.{next, Collects, Collected, collects_more, collected_none, collected_write, collected_take, collected_pass}

-- the walk that collects, at the row whose numbers begin at `from`: each guest whose bit is set has one of the rows passed, and n are collected of them
pub record Collecting (ws : List ℕ) (known count : ℕ) (rows : List ℕ) (seen n from : ℕ) : Type 0 where
  pub row : ℕ
  pub begins : from ≡ row * waiting_wide
  pub inside : row ≤ count
  pub stood : (g : ℕ) → bit_of seen g ≡ 1 → Stood ws row g
  pub sofar : Collected ws rows n row
  pub left : unseen (bit_of seen) known + n ≤ known

module _ (ws : List ℕ) (known count : ℕ) where
  module _ {rows : List ℕ} {seen n from : ℕ} (l : Collecting ws known count rows seen n from) (more : from < count * waiting_wide) where
    -- the row is one of those that are used
    here : l.row < count
    here = omega (arith, l.begins, more)

    -- its guest, as the code reads it
    abbrev guest : ℕ
    guest = get_or ws (from + GUEST) 0

    -- which exists
    pub known-here : Owned ws count known → guest < known
    known-here owned = omega (arith, row_from ws l.row GUEST l.begins, owned l.row here)

    -- the row is written down, and kept where its guest has no bit; the guest gets its bit
    pub collecting_next : Owned ws count known → n < length rows → {seen' : ℕ} → Marked (bit_of seen) guest (bit_of seen')
        → Collecting ws known count (set rows n from) seen' (n + (1 - bit_of seen guest)) (from + waiting_wide)
    collecting_next owned room {seen'} m = go (eqb (bit_of seen guest) 0) refl
      where
        same : guest ≡ waiting_at ws l.row GUEST
        same = row_from ws l.row GUEST l.begins

        written : Collected ws (set rows n from) n l.row
        written = collected_write ws from l.sofar

        stands : (g : ℕ) → bit_of seen' g ≡ 1 → (b : Bool) → eqb g guest ≡ b → Stood ws (l.row + 1) g
        stands g h true e = record { place = l.row; before = omega arith; own = sym same ∙ sym (eqb-true g guest e) }
        stands g h false e = stood-later (l.stood g (sym (m.others g (eqb-false g guest e)) ∙ h)) (omega arith)

        step : {n' : ℕ} → Collected ws (set rows n from) n' (l.row + 1) → unseen (bit_of seen') known + n' ≤ known → Collecting ws known count (set rows n from) seen' n' (from + waiting_wide)
        step c h = record { row = l.row + 1; begins = omega (arith, l.begins); inside = omega (arith, here); stood = λ g e. stands g e (eqb g guest) refl; sofar = c; left = h }

        go : (b : Bool) → eqb (bit_of seen guest) 0 ≡ b → Collecting ws known count (set rows n from) seen' (n + (1 - bit_of seen guest)) (from + waiting_wide)
        go true e =
            let none = eqb-true (bit_of seen guest) 0 e in
            let one : n + (1 - bit_of seen guest) ≡ n + 1 = omega (arith, none) in
            rw one (step (collected_take ws written (get_or-set_same rows n from 0 room ∙ l.begins)) (omega (arith, l.left, unseen-mark (bit_of seen) (bit_of seen') known guest m (known-here owned) none)))
        go false e =
            let set1 : bit_of seen guest ≡ 1 = omega (arith, eqb-false (bit_of seen guest) 0 e) in
            let zero1 : n + (1 - bit_of seen guest) ≡ n = omega (arith, set1) in
            rw zero1 (step (collected_pass ws written (rw same at (l.stood guest set1))) (omega (arith, l.left, unseen-again (bit_of seen) (bit_of seen') known guest m set1)))

  module _ {rows : List ℕ} {seen n from : ℕ} (l : Collecting ws known count rows seen n from) where
    -- where every guest was seen, the rows that are left stand behind others: the walk may end
    pub collecting_all : Owned ws count known → known ≤ n → Collected ws rows n count
    collecting_all owned all = record { each = λ k h. collects_more ws count l.inside (l.sofar.each k h); rest = record { ahead = omega (arith, l.sofar.rest.ahead, l.inside); each = behind } }
      where
        bits : (g : ℕ) → g < known → bit_of seen g ≡ 1
        bits g h = go (eqb (bit_of seen g) 0) refl
          where
            go : (b : Bool) → eqb (bit_of seen g) 0 ≡ b → bit_of seen g ≡ 1
            go true e = absurd (omega (arith, all, l.left, unseen-some (bit_of seen) known g h (eqb-true (bit_of seen g) 0 e)))
            go false e = omega (arith, eqb-false (bit_of seen g) 0 e)

        behind : (j : ℕ) → next rows n ≤ j → j < count → Stood ws j (waiting_at ws j GUEST)
        behind j h i = go (ltb j l.row) refl
          where
            go : (b : Bool) → ltb j l.row ≡ b → Stood ws j (waiting_at ws j GUEST)
            go true e = l.sofar.rest.each j h (ltb-true j l.row e)
            go false e = stood-later (l.stood (waiting_at ws j GUEST) (bits (waiting_at ws j GUEST) (owned j i))) (ltb-false j l.row e)

    -- behind the last row
    pub collecting_end : count * waiting_wide ≤ from → Collected ws rows n count
    collecting_end done = subst (Collected ws rows n) (omega (arith, done, l.begins, l.inside)) l.sofar

-- before the first row
pub collecting_start : (ws : List ℕ) (known count : ℕ) (rows : List ℕ) → Collecting ws known count rows 0 0 0
collecting_start ws known count rows =
    record {
      row = 0;
      begins = refl;
      inside = omega arith;
      stood = λ g e. absurd (omega (arith, e, none-set g));
      sofar = collected_none ws rows;
      left = omega (arith, unseen_most (bit_of 0) known);
    }
