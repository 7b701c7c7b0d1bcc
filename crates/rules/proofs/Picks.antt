-- A pick takes one request out of the list and leaves the others in their order; none is picked only where none may go. Assumes nothing.
use mathlib.Core.Path.{◌≡◌, refl, ap}
use mathlib.Core.Bool.{Bool, true, false, not, ◌&&◌}
use mathlib.Core.List.{List, [], ◌∷◌, ◌++◌}
use Prim.Native.Nat.{ℕ}
use native.Mathlib.Omega.{arith}
use lib.Dec.{leb}
use Rattle.lists.specs.Words.{if◌then◌else◌, all}
use Rattle.lists.specs.WordsLaws.{join}
use Rattle.rules.specs.Tables.{Request, Table, mine}
use Rattle.rules.specs.Choice.{Pick, nobody, picked, behind, against, least, due, open?}
use Rattle.rules.proofs.Facts.{Sound}
use Rattle.rules.proofs.Firsts.{First, first-due, first_open}

-- p stood in w between those before and those after it, and v is what stays
pub record Between (p : Request) (v w : List Request) : Type 0 where
  pub before : List Request
  pub after : List Request
  pub stood : w ≡ before ++ p ∷ after
  pub stay : v ≡ before ++ after

-- what is picked from w stood in it
abbrev pub Split : Pick → List Request → Type 0
Split nobody w = Unit {0}
Split (picked p v) w = Between p v w

-- so it is with what is least
pub splits : (ok : Request → Bool) (tag : Request → ℕ) (w : List Request) → Split (least ok tag w) w
splits ok tag [] = tt
splits ok tag (q ∷ w) = go (ok q) (least ok tag w) (splits ok tag w)
  where
    under : (k : Pick) → Split k w → Split (behind q k) (q ∷ w)
    under nobody h = tt
    under (picked p v) h = record { before = q ∷ h.before; after = h.after; stood = ap (q ∷◌) h.stood; stay = ap (q ∷◌) h.stay }

    here : Between q w (q ∷ w)
    here = record { before = []; after = w; stood = refl; stay = refl }

    go : (c : Bool) (k : Pick) → Split k w → Split (if c then against tag q w k else behind q k) (q ∷ w)
    go true nobody h = here
    go true (picked p v) h =
        elim (leb (tag q) (tag p)) as (λ c. Split (if c then picked q w else picked p (q ∷ v)) (q ∷ w)) [ true ↦ here | false ↦ under (picked p v) h ]
    go false k h = under k h

-- a pick is not nobody
never : {p : Request} {v : List Request} → picked p v ≡ nobody → ⊥
never e = let z : ◌≡◌ {A = ℕ} 0 1 = cc in omega arith

-- one of two is picked
against_picks : (tag : Request → ℕ) (q : Request) (w : List Request) (k : Pick) → against tag q w k ≡ nobody → ⊥
against_picks tag q w nobody = never
against_picks tag q w (picked p v) =
    elim (leb (tag q) (tag p)) as (λ c. (if c then picked q w else picked p (q ∷ v)) ≡ nobody → ⊥) [ true ↦ never | false ↦ never ]

-- nobody is picked behind q only where nobody was
behind_nobody : (q : Request) (k : Pick) → behind q k ≡ nobody → k ≡ nobody
behind_nobody q nobody e = refl
behind_nobody q (picked p v) e = absurd (never e)

-- where none is picked, none may go
pub none_ok : (ok : Request → Bool) (tag : Request → ℕ) (w : List Request) → least ok tag w ≡ nobody → all (λ q. not (ok q)) w ≡ true
none_ok ok tag [] e = refl
none_ok ok tag (q ∷ w) e = go (ok q) refl (none_ok ok tag w)
  where
    go : (c : Bool) → ok q ≡ c → (least ok tag w ≡ nobody → all (λ q. not (ok q)) w ≡ true) → not (ok q) && all (λ q. not (ok q)) w ≡ true
    go true a k = absurd (against_picks tag q w (least ok tag w) (rw a at e))
    go false a k = join (ap not a) (k (behind_nobody q (least ok tag w) (rw a at e)))

-- p may go and v stays: p is the first of its guest
pub record Goes (t : Table) (p : Request) (v : List Request) : Type 0 where
  pub split : Between p v t.waiting
  pub first : (g : ℕ) → mine g t.waiting ≡ mine g (p ∷ v)

module _ (t : Table) (s : Sound t) (p : Request) (v : List Request) where
  -- what the reservation phase picks may go
  pub due-goes : least (due t) Request.rtag t.waiting ≡ picked p v → Goes t p v
  due-goes e =
      record {
        split = rw e at (splits (due t) Request.rtag t.waiting);
        first = λ g. let m : First (due t) Request.rtag g (picked p v) t.waiting = rw e at (first-due t s g) in m.0;
      }

  -- what the weight phase picks may go
  pub open_goes : least (open? t) Request.stag t.waiting ≡ picked p v → Goes t p v
  open_goes e =
      record {
        split = rw e at (splits (open? t) Request.stag t.waiting);
        first = λ g. let m : First (open? t) Request.stag g (picked p v) t.waiting = rw e at (first_open t s g) in m.0;
      }
