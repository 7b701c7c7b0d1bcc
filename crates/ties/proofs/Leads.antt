-- The first request of its guest, by the index. Assumes nothing.
use Prim.Native.Nat.{ℕ, ◌+◌, ◌≤◌, ◌<◌}
use mathlib.Core.Path.{◌≡◌, refl, sym, ap, ◌∙◌}
use mathlib.Core.Logic.{⊎_elim}
use mathlib.Core.Bool.{Bool, true, false, not}
use mathlib.Core.List.{List}
use native.Mathlib.Omega.{arith}
use lib.Dec.{eqb}
use borrow.Author.Tests.{eq-eqb, ne_eqb, eqb-true, eqb-false}
use Rattle.lists.specs.Tab.{lt_or_le}
use Rattle.lists.specs.WordsLaws.{at-below}
use Rattle.lists.specs.Walks.{below_fails}
use Rattle.table.specs.View.{waiting_of}
use Rattle.index.specs.Index.{first_at, owner_of, Indexed}
use Rattle.index.proofs.Laws.{first_of}
use Rattle.judge.specs.Judging.{leads}
use Rattle.judge.proofs.Tied.{other_at, leads-numbers}

module _ (ws ix : List ℕ) (count place : ℕ) (here : place < count) (i : Indexed ws ix count) where
  -- whose it is
  abbrev owner : ℕ
  owner = owner_of ws place

  -- the index says it, or an earlier one
  pub first_said : eqb (first_at ix (owner_of ws place)) (place + 1) ≡ leads (waiting_of ws count) place
  first_said = go (eqb (first_at ix owner) (place + 1)) refl
    where
      go : (b : Bool) → eqb (first_at ix owner) (place + 1) ≡ b → b ≡ leads (waiting_of ws count) place
      go true e =
          let head = ((i.first owner (i.owned place here)).some place (eqb-true (first_at ix owner) (place + 1) e)).1 in
          sym (leads-numbers ws count place here ∙ at-below place (other_at ws place) (λ j l. ap not (ne_eqb (owner_of ws j) owner (head.before j (omega arith) l))))
      go false e =
          let f = first_of i place here in
          let early : f.place < place =
          ⊎_elim
          (λ (l : f.place < place). l)
          (λ (m : place ≤ f.place). let q : first_at ix owner ≡ place + 1 = omega (arith, f.says, f.upto, m) in absurd (eqb-false (first_at ix owner) (place + 1) e q))
          (lt_or_le f.place place) in
          sym (leads-numbers ws count place here ∙ below_fails (other_at ws place) place f.place early (ap not (eq-eqb (owner_of ws f.place) owner f.head.own)))
