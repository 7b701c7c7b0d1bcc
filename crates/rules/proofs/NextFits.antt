-- In a sound table no next number passes the bound of an idle guest's, whether something waits or not, so that code may raise it. Assumes nothing.
use mathlib.Core.Path.{◌≡◌}
use mathlib.Core.Bool.{Bool, true, false}
use mathlib.Core.List.{List, [], ◌∷◌}
use Prim.Native.Nat.{ℕ, ◌+◌, ◌≤◌}
use native.Mathlib.Omega.{arith}
use lib.Dec.{eqb}
use borrow.Author.Tests.{leb-true, eqb-true}
use Rattle.lists.specs.Words.{all}
use Rattle.lists.specs.WordsLaws.{both, all_filter}
use Rattle.rules.specs.Numbers.{idle_bound}
use Rattle.rules.specs.Tables.{Guest, Request, Table, reserved, limited, rplain, lplain, splain, rspacing, lspacing, sspacing, owner, of, mine}
use Rattle.rules.specs.Sound.{lawful, priced, apart, follows, kept, no_gap, sound}
use Rattle.rules.proofs.Spacings.{down_le, up_le, fair_is, cost_le}
use Rattle.rules.proofs.Facts.{sound_is, orderly_is, lawful_is, any_orderly}

module _ (tag gap spacing : Request → ℕ) (fits : (q : Request) → lawful q ≡ true → priced q ≡ true → tag q + spacing q ≤ idle_bound) where
  -- a next number that follows something, or is an idle guest's
  follows-fits : (l : List Request) (n : ℕ) → all lawful l ≡ true → all priced l ≡ true → follows tag spacing l n ≡ true → n ≤ idle_bound
  follows-fits [] n a c f = leb-true n idle_bound f
  follows-fits (q ∷ []) n a c f = omega (arith, eqb-true n (tag q + spacing q) f, fits q (both (lawful q) true a).0 (both (priced q) true c).0)
  follows-fits (q ∷ p ∷ l) n a c f = follows-fits (p ∷ l) n (both (lawful q) (all lawful (p ∷ l)) a).1 (both (priced q) (all priced (p ∷ l)) c).1 f

  -- one kind
  kept-fits : (has : Bool) (l : List Request) (n : ℕ) → all lawful l ≡ true → all priced l ≡ true → kept has tag gap spacing l n ≡ true → n ≤ idle_bound
  unfolding kept
  kept-fits true l n a c k = follows-fits l n a c (both (apart tag gap l) (follows tag spacing l n) k).1
  kept-fits false l n a c k = omega (arith, eqb-true n 0 (both (eqb n 0) (all (λ q. eqb (tag q) 0) l) k).0)

-- no next number of a guest passes the bound
pub record NextFits (h : Guest) : Type 0 where
  pub reservation : h.rnext ≤ idle_bound
  pub limit : h.lnext ≤ idle_bound
  pub share : h.snext ≤ idle_bound

-- So it is with every guest of a sound table.
pub next_fits : (t : Table) → sound t ≡ true → (g : ℕ) → NextFits (owner t.guests g)
next_fits t h g =
    let s = sound_is t h in
    let x = owner t.guests g in
    let w = x.settings in
    let l = mine g t.waiting in
    let o = orderly_is x l (any_orderly t s g) in
    let a = all_filter lawful (of g) t.waiting s.tags_fit in
    let c = all_filter priced (of g) t.waiting s.costs_fit in
    record {
      reservation = kept-fits Request.rtag no_gap (rspacing w)
          (λ q f p. omega (arith, (lawful_is q f).reservation, cost_le q.cost (rplain w) (fair_is q.cost p).1 (down_le w.reservation))) (reserved w) l x.rnext a c o.reservations;
      limit = kept-fits Request.ltag (lspacing w) (lspacing w)
          (λ q f p. omega (arith, (lawful_is q f).limit, cost_le q.cost (lplain w) (fair_is q.cost p).1 (up_le w.limit))) (limited w) l x.lnext a c o.limits;
      share = kept-fits Request.stag (sspacing w) (sspacing w)
          (λ q f p. omega (arith, (lawful_is q f).share, cost_le q.cost (splain w) (fair_is q.cost p).1 (down_le w.shares))) true l x.snext a c o.shares;
    }
