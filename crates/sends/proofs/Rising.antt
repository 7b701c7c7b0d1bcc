-- In a known table no later row of a guest has a smaller tag of any kind: what lets the walk of the choice look at the first row of each guest
-- alone. Assumes nothing.
use Prim.Native.Nat.{ℕ, zero, suc, ◌+◌, ◌*◌, ◌≤◌, ◌<◌}
use mathlib.Core.Path.{◌≡◌, refl, ap, ◌∙◌}
use mathlib.Core.Bool.{Bool, true, false, ◌&&◌}
use mathlib.Core.List.{List, [], ◌∷◌}
use native.Mathlib.Omega.{arith}
use lib.Dec.{leb, eqb}
use lib.ListN.{length, get_or}
use borrow.Author.Tests.{eq-eqb, eqb-true, leb-true}
use Rattle.lists.specs.Words.{if◌then◌else◌, all}
use Rattle.lists.specs.WordsLaws.{both, all-passing-at}
use Rattle.lists.specs.RowsLaws.{length-rows}
use Rattle.rules.specs.Tables.{Request, Table, reserved, limited, rspacing, lspacing, sspacing, owner, of, mine}
use Rattle.rules.specs.Sound.{kept, no_gap}
use Rattle.rules.specs.Chosen.{blank, at}
use Rattle.rules.proofs.Chains.{rising, kept-rising}
use Rattle.rules.proofs.Facts.{orderly_is, any_orderly}
use Rattle.rules.specs.declared.Gate.{Gate}
use Rattle.table.specs.Columns.{waiting_wide, GUEST}
use Rattle.table.specs.View.{request_form, table_of, Known}
use Rattle.walks.specs.Walks.{Rising}
use Rattle.table.proofs.Facts.{facts, row_is}

module _ (tag : Request → ℕ) (n : ℕ) where
  -- without the one in front the tags of guest n still rise
  rising_tail : (q : Request) (l : List Request) → rising tag (mine n (q ∷ l)) ≡ true → rising tag (mine n l) ≡ true
  rising_tail q l =
      elim (of n q) as (λ b. rising tag (if b then q ∷ mine n l else mine n l) ≡ true → rising tag (mine n l) ≡ true) [ true ↦ λ r. (both (all (λ y. leb (tag q) (tag y)) (mine n l)) (rising tag (mine n l)) r).1 | false ↦ λ r. r ]

  -- where the tags of guest n rise, an earlier one of them is no larger than a later
  rising-at : (l : List Request) → rising tag (mine n l) ≡ true → (j k : ℕ) → j < k → k < length l → of n (at l j) ≡ true → of n (at l k) ≡ true → tag (at l j) ≤ tag (at l k)
  rising-at [] r j k i h a b = absurd (omega arith)
  rising-at (q ∷ l) r j zero i h a b = absurd (omega arith)
  rising-at (q ∷ l) r zero (suc k) i h a b =
      let s : (all (λ y. leb (tag q) (tag y)) (mine n l) && rising tag (mine n l)) ≡ true = rw a at r in
      leb-true (tag q) (tag (at l k)) (all-passing-at (λ y. leb (tag q) (tag y)) (of n) l blank (both (all (λ y. leb (tag q) (tag y)) (mine n l)) (rising tag (mine n l)) s).0 k (omega arith) b)
  rising-at (q ∷ l) r (suc j) (suc k) i h a b = rising-at l (rising_tail q l r) j k (omega arith) (omega arith) a b

  -- the same of a kind of tags as the rule of soundness has it: a guest that lacks the kind has zeros
  kept_at : (has : Bool) (gap spacing : Request → ℕ) (l : List Request) (next : ℕ) → kept has tag gap spacing (mine n l) next ≡ true
      → (j k : ℕ) → j < k → k < length l → of n (at l j) ≡ true → of n (at l k) ≡ true → tag (at l j) ≤ tag (at l k)
  unfolding kept
  kept_at true gap spacing l next h j k i s a b = rising-at l (kept-rising tag gap spacing true (mine n l) next h refl) j k i s a b
  kept_at false gap spacing l next h j k i s a b =
      let z = both (eqb next 0) (all (λ p. eqb (tag p) 0) (mine n l)) h in
      omega (arith, eqb-true (tag (at l j)) 0 (all-passing-at (λ p. eqb (tag p) 0) (of n) l blank z.1 j (omega arith) a))

module _ (g : Gate) (gs ws fs : List ℕ) (k : Known g gs ws fs) where
  abbrev t : Table
  t = table_of g gs ws fs

  pub rising-rows : Rising ws g.waiting
  rising-rows j i l h e =
      let n = get_or ws (i * waiting_wide + GUEST) 0 in
      let s = (owner t.guests n).settings in
      let o = orderly_is (owner t.guests n) (mine n t.waiting) (any_orderly t (facts g gs ws fs k).firm n) in
      let m : j < g.waiting = omega arith in
      let size : i < length t.waiting = omega (arith, length-rows request_form ws g.waiting) in
      let pj = row_is g gs ws fs k j m in
      let pi = row_is g gs ws fs k i h in
      let a : of n (at t.waiting j) ≡ true = eq-eqb (at t.waiting j).guest n (ap Request.guest pj ∙ e) in
      let b : of n (at t.waiting i) ≡ true = eq-eqb (at t.waiting i).guest n (ap Request.guest pi) in
      let x = kept_at Request.rtag n (reserved s) no_gap (rspacing s) t.waiting (owner t.guests n).rnext o.reservations j i l size a b in
      let y = kept_at Request.ltag n (limited s) (lspacing s) (lspacing s) t.waiting (owner t.guests n).lnext o.limits j i l size a b in
      let z = kept_at Request.stag n true (sspacing s) (sspacing s) t.waiting (owner t.guests n).snext o.shares j i l size a b in
      (omega (arith, x, ap Request.rtag pj, ap Request.rtag pi), omega (arith, y, ap Request.ltag pj, ap Request.ltag pi), omega (arith, z, ap Request.stag pj, ap Request.stag pi))
