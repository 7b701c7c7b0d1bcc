-- The first waiting of a guest. In a sound table what a phase of ours picks is such a one: within a guest no tag falls, and a tie goes to the earlier. Of another
-- gate's send it is tested. Assumes nothing.
use Prim.Native.Nat.{ℕ, zero, suc, ◌+◌, ◌-◌, ◌≤◌, ◌<◌}
use mathlib.Core.Path.{◌≡◌, refl, sym, ap, ◌∙◌}
use mathlib.Core.Bool.{Bool, true, false, not, true≢false}
use mathlib.Core.List.{List, [], ◌∷◌}
use native.Mathlib.Omega.{arith}
use lib.Dec.{leb, eqb}
use lib.ListN.{length, drop, length-drop}
use lib.Seq.{get_or-drop}
use borrow.Author.Tests.{leb-true, eq-eqb, ne_eqb, eqb-true, not-true}
use Rattle.lists.specs.Words.{if◌then◌else◌, all, below}
use Rattle.lists.specs.Tab.{remove_at}
use Rattle.lists.specs.WordsLaws.{all-passing-at, below_at, at-below}
use Rattle.lists.specs.Walks.{below_ext}
use Rattle.lists.specs.RowsLaws.{row-at}
use Rattle.rules.specs.Tables.{Request, Table, reserved, limited, rspacing, lspacing, sspacing, owner, settings_of, of, mine}
use Rattle.rules.specs.Sound.{kept, no_gap}
use Rattle.rules.specs.Choice.{due, open?}
use Rattle.rules.specs.Chosen.{blank, at, Open, Due, Foremost}
use Rattle.rules.specs.declared.Guest.{Guest}
use Rattle.rules.specs.declared.Phase.{Phase}
use Rattle.rules.specs.declared.Phase.TheVariants.{Reservation, Weight}
use Rattle.rules.proofs.Chains.{kept_above}
use Rattle.rules.proofs.Chosen.{open_means, due_means}
use Rattle.rules.proofs.Facts.{Sound, Orderly, orderly_is, any_orderly}
use Rattle.table.specs.Columns.{GUEST, waiting_at}
use Rattle.table.specs.View.{request_form, waiting_of}
use Rattle.sends.specs.Firsts.{FirstOf}
use Rattle.judge.specs.Judging.{ok_in, tag_in, leads}

-- THE FIRST OF A GUEST

-- at or before place j of w stands the first request of guest n, and these are those behind it
pub record FirstOwn (n : ℕ) (w : List Request) (j : ℕ) : Type 0 where
  pub place : ℕ
  pub early : place ≤ j
  pub its_own : of n (at w place) ≡ true
  pub heads : mine n w ≡ at w place ∷ mine n (drop (suc place) w)

first-own : (n : ℕ) (w : List Request) (j : ℕ) → j < length w → of n (at w j) ≡ true → FirstOwn n w j
first-own n [] j h a = absurd (omega arith)
first-own n (q ∷ w) j h a = go (of n q) refl j h a (λ j h a. first-own n w j h a)
  where
    go : (b : Bool) → of n q ≡ b → (j : ℕ) → j < length (q ∷ w) → of n (at (q ∷ w) j) ≡ true → ((j : ℕ) → j < length w → of n (at w j) ≡ true → FirstOwn n w j) → FirstOwn n (q ∷ w) j
    go true e j h a i = record { place = 0; early = omega arith; its_own = e; heads = rw e }
    go false e zero h a i = absurd (true≢false (sym a ∙ e))
    go false e (suc j) h a i =
        let r = i j (omega arith) a in
        record { place = suc r.place; early = omega (arith, r.early); its_own = r.its_own; heads = rw e r.heads }

-- what holds of all of guest n's behind its first holds of one of them at a place
behind : (n : ℕ) (w : List Request) (j : ℕ) (o : FirstOwn n w j) (f : Request → Bool) → all f (mine n (drop (suc o.place) w)) ≡ true
    → (i : ℕ) → j < i → i < length w → of n (at w i) ≡ true → f (at w i) ≡ true
behind n w j o f h i l k a =
    let v = drop (suc o.place) w in
    let m = i - suc o.place in
    let e : at v m ≡ at w i = get_or-drop (suc o.place) w m blank ∙ ap (at w) (let d : suc o.place + m ≡ i = omega (arith, o.early) in d) in
    let size : m < length v = omega (arith, o.early, length-drop (suc o.place) w) in
    ap f (sym e) ∙ all-passing-at f (of n) v blank h m size (ap (of n) e ∙ a)

-- so its tag of a kind that the guest has is not below the first one's
above : (tag gap spacing : Request → ℕ) (n : ℕ) (w : List Request) (next : ℕ) → kept true tag gap spacing (mine n w) next ≡ true → (j : ℕ) (o : FirstOwn n w j)
    → (i : ℕ) → j < i → i < length w → of n (at w i) ≡ true → tag (at w o.place) ≤ tag (at w i)
above tag gap spacing n w next k j o i l h a =
    let q = at w o.place in
    let v = mine n (drop (suc o.place) w) in
    let up = (kept_above tag gap spacing (tag q) q v next (omega arith) (omega arith) (rw o.heads at k)).0 in
    leb-true (tag q) (tag (at w i)) (behind n w j o (λ p. leb (tag q) (tag p)) up i l h a)

-- OUR PICK

module _ (t : Table) (s : Sound t) (i : ℕ) (inside : i < length t.waiting) where
  abbrev w : List Request
  w = t.waiting

  abbrev n : ℕ
  n = (at w i).guest

  abbrev own : Guest
  own = owner t.guests n

  -- an earlier one of the guest: the first of them
  module _ (j : ℕ) (l : j < i) (same : (at w j).guest ≡ n) where
    o : FirstOwn n w j
    o = first-own n w j (omega arith) (eq-eqb (at w j).guest n same)

    abbrev q : Request
    q = at w o.place

    here : o.place < i
    here = omega (arith, o.early)

    mate : q.guest ≡ n
    mate = eqb-true q.guest n o.its_own

    orders : Orderly own (mine n w)
    orders = orderly_is own (mine n w) (any_orderly t s n)

    -- it has its own guest's settings
    alike : settings_of t.guests q ≡ own.settings
    alike = ap (λ (m : ℕ). (owner t.guests m).settings) mate

    limits : limited own.settings ≡ true → q.ltag ≤ (at w i).ltag
    limits e =
        let k : kept true Request.ltag (lspacing own.settings) (lspacing own.settings) (mine n w) own.lnext ≡ true = rw e at orders.limits in
        above Request.ltag (lspacing own.settings) (lspacing own.settings) n w own.lnext k j o i l inside (eq-eqb n n refl)

    -- it is open where the later one is
    opens : Open t (at w i) → Open t q
    opens f e =
        let r : limited own.settings ≡ true = ap limited (sym alike) ∙ e in
        omega (arith, f r, limits r)

    -- the weight phase would not pick the later one
    no_weight : open? t (at w i) ≡ true → (open? t q ≡ true → (at w i).stag < q.stag) → ⊥
    no_weight g later =
        let f = (open_means t q).1 (opens ((open_means t (at w i)).0 g)) in
        let a = above Request.stag (sspacing own.settings) (sspacing own.settings) n w own.snext orders.shares j o i l inside (eq-eqb n n refl) in
        omega (arith, later f)

    -- nor would the reservation phase
    no_reservation : due t (at w i) ≡ true → (due t q ≡ true → (at w i).rtag < q.rtag) → ⊥
    no_reservation g later =
        let x = (due_means t (at w i)).0 g in
        let r = x.has_tag in
        let k : kept true Request.rtag no_gap (rspacing own.settings) (mine n w) own.rnext ≡ true = rw r at orders.reservations in
        let a = above Request.rtag no_gap (rspacing own.settings) n w own.rnext k j o i l inside (eq-eqb n n refl) in
        let y : Due t q = record { has_tag = ap reserved alike ∙ r; at_or_before = omega (arith, x.at_or_before); by_rule_2 = λ e. opens (x.by_rule_2 e) } in
        omega (arith, later ((due_means t q).1 y))

  -- so no earlier request is of the guest of what stands foremost
  pub foremost_first : (p : Phase) → Foremost (ok_in p t) (tag_in p) w i → (j : ℕ) → j < i → (at w j).guest ≡ (at w i).guest → ⊥
  foremost_first Reservation f j l e = no_reservation j l e f.good (f.earliest (o j l e).place (here j l e))
  foremost_first Weight f j l e = no_weight j l e f.good (f.earliest (o j l e).place (here j l e))

-- ANOTHER GATE'S SEND

-- what the test of the first says
pub leads-first : (w : List Request) (i : ℕ) → leads w i ≡ true → (j : ℕ) → j < i → (at w j).guest ≡ (at w i).guest → ⊥
unfolding leads
leads-first w i h j l e =
    let n = not-true (of (at w i).guest (at w j)) (below_at i (λ j. not (of (at w i).guest (at w j))) h j l) in
    true≢false (sym (eq-eqb (at w j).guest (at w i).guest e) ∙ n)

pub first-leads : (w : List Request) (i : ℕ) → ((j : ℕ) → j < i → (at w j).guest ≡ (at w i).guest → ⊥) → leads w i ≡ true
unfolding leads
first-leads w i f = at-below i (λ j. not (of (at w i).guest (at w j))) (λ j l. ap not (ne_eqb (at w j).guest (at w i).guest (f j l)))

-- the request at place j of the lent numbers is another guest's than the one at `place`
abbrev pub other_at : List ℕ → (place j : ℕ) → Bool
other_at ws place j = not (eqb (waiting_at ws j GUEST) (waiting_at ws place GUEST))

-- so it is tested over them
pub leads-numbers : (ws : List ℕ) (count place : ℕ) → place < count → leads (waiting_of ws count) place ≡ below place (other_at ws place)
unfolding leads
leads-numbers ws count place h = below_ext place _ (other_at ws place) (λ j l i. not (eqb (guest-at j (omega arith) i) (guest-at place h i)))
  where
    guest-at : (j : ℕ) → j < count → (at (waiting_of ws count) j).guest ≡ waiting_at ws j GUEST
    guest-at j k = ap Request.guest (row-at request_form ws count j k)

-- AS THE SEND ASKS IT

-- x goes in front of q, where not both are of the guest
swap : (q x : Request) (b c : Bool) (l m : List Request) → l ≡ (if c then x ∷ m else m) → (b ≡ true → c ≡ true → ⊥)
    → (if b then q ∷ l else l) ≡ (if c then x ∷ (if b then q ∷ m else m) else (if b then q ∷ m else m))
swap q x true true l m e h = absurd (h refl refl)
swap q x true false l m e h = ap (q ∷◌) e
swap q x false true l m e h = e
swap q x false false l m e h = e

-- where no earlier request is of its guest, it is the first of it
pub first_of : (w : List Request) (i : ℕ) → i < length w → ((j : ℕ) → j < i → (at w j).guest ≡ (at w i).guest → ⊥) → FirstOf w i
first_of [] i h f g = absurd (omega arith)
first_of (q ∷ w) zero h f g = refl
first_of (q ∷ w) (suc i) h f g =
    swap q (at w i) (of g q) (of g (at w i)) (mine g w) (mine g (remove_at i w)) (first_of w i (omega arith) (λ j l. f (suc j) (omega arith)) g)
    (λ a b. f 0 (omega arith) (eqb-true q.guest g a ∙ sym (eqb-true (at w i).guest g b)))
