-- What a drop of reservation tags does: to the guest's own requests and next number, and nothing to others'. Assumes nothing.
use mathlib.Core.Path.{◌≡◌, refl, ap, ◌∙◌}
use mathlib.Core.Bool.{Bool, true, false}
use mathlib.Core.List.{◌++◌, map}
use Prim.Native.Nat.{ℕ, ◌<◌}
use native.Mathlib.Omega.{arith}
use lib.Dec.{eqb}
use lib.ListN.{length, length-map}
use lib.Seq.{get_or-set_same, get_or-set_other}
use borrow.Author.Tests.{eqb-true, eqb-false}
use Rattle.lists.specs.Words.{if◌then◌else◌, all}
use Rattle.lists.specs.WordsLaws.{all_map, all_same, map_same, map_on, map_id, filter_map, filter_passes}
use Rattle.rules.specs.Tables.{Request, Flight, Table, nobodys, owner, of, mine, name, names}
use Rattle.rules.specs.Sound.{lawful}
use Rattle.rules.specs.Choice.{earlier, renewed, drop_of, next_of, dropped}
use Rattle.rules.proofs.Facts.{lawful_is, is_lawful}

module _ (p : Request) (u : Table) where
  -- what becomes of each waiting request
  abbrev lower : Request → Request
  lower q = if of p.guest q then earlier (drop_of u p) q else q

  -- whose it is stays
  lower_of : (g : ℕ) (q : Request) → of g (lower q) ≡ of g q
  unfolding earlier
  lower_of g q =
      elim (of p.guest q) as (λ b. of g (if b then earlier (drop_of u p) q else q) ≡ of g q) [ true ↦ refl | false ↦ refl ]

  -- and its name
  lower-name : (q : Request) → name (lower q) ≡ name q
  unfolding earlier
  lower-name q =
      elim (of p.guest q) as (λ b. name (if b then earlier (drop_of u p) q else q) ≡ name q) [ true ↦ refl | false ↦ refl ]

  -- and that its tags are lawful
  lower-lawful : (q : Request) → lawful q ≡ true → lawful (lower q) ≡ true
  unfolding earlier
  lower-lawful q h =
      let l = lawful_is q h in
      elim (of p.guest q) as (λ b. lawful (if b then earlier (drop_of u p) q else q) ≡ true) [
        | true ↦ is_lawful (earlier (drop_of u p) q) (record { reservation = omega arith; limit = l.limit; share = l.share })
        | false ↦ h
      ]

  -- and its cost
  lower_cost : (q : Request) → (lower q).cost ≡ q.cost
  unfolding earlier
  lower_cost q = elim (of p.guest q) as (λ b. (if b then earlier (drop_of u p) q else q).cost ≡ q.cost) [ true ↦ refl | false ↦ refl ]

  -- the requests of guest g
  mine-lower : (g : ℕ) → mine g (dropped p u).waiting ≡ map lower (mine g u.waiting)
  unfolding dropped
  mine-lower g = filter_map (of g) lower (lower_of g) u.waiting

  -- the names are as they were
  pub dropped-names : names (dropped p u) ≡ names u
  unfolding dropped
  dropped-names = ap (◌++ u.flight) (map_same name lower lower-name u.waiting)

  -- and so is the number of them that wait
  pub dropped-length : length (dropped p u).waiting ≡ length u.waiting
  unfolding dropped
  dropped-length = length-map u.waiting lower

  -- what is in flight, and the time
  pub dropped_flight : (dropped p u).flight ≡ u.flight
  unfolding dropped
  dropped_flight = refl

  -- and the time
  pub dropped_time : (dropped p u).time ≡ u.time
  unfolding dropped
  dropped_time = refl

  -- no tag rises
  pub dropped-lawful : all lawful u.waiting ≡ true → all lawful (dropped p u).waiting ≡ true
  unfolding dropped
  dropped-lawful h = all_map lawful lawful lower lower-lawful u.waiting h

  -- no cost changes
  pub dropped_costs : (f : ℕ → Bool) → all (λ q. f q.cost) (dropped p u).waiting ≡ all (λ q. f q.cost) u.waiting
  unfolding dropped
  dropped_costs f = all_same (λ q. f q.cost) lower (λ q. ap f (lower_cost q)) u.waiting

  -- the ids of a guest, in order of acceptance
  pub dropped_ids : (g : ℕ) → map Request.id (mine g (dropped p u).waiting) ≡ map Request.id (mine g u.waiting)
  dropped_ids g =
      ap (map Request.id) (mine-lower g) ∙ map_same Request.id lower (λ q. ap Flight.id (lower-name q)) (mine g u.waiting)

  -- the requests of the guest that sent
  pub dropped-own : mine p.guest (dropped p u).waiting ≡ map (earlier (drop_of u p)) (mine p.guest u.waiting)
  dropped-own =
      mine-lower p.guest
      ∙ map_on (of p.guest) lower (earlier (drop_of u p)) (λ q e. rw e) (mine p.guest u.waiting) (filter_passes (of p.guest) u.waiting)

  -- and its next numbers
  pub dropped-owner : p.guest < length u.guests → owner (dropped p u).guests p.guest ≡ renewed (next_of u p) (owner u.guests p.guest)
  unfolding dropped
  dropped-owner h = get_or-set_same u.guests p.guest (renewed (next_of u p) (owner u.guests p.guest)) nobodys h

  -- those of another guest
  pub dropped-others : (g : ℕ) → eqb g p.guest ≡ false → mine g (dropped p u).waiting ≡ mine g u.waiting
  dropped-others g e =
      let other : (q : Request) → of g q ≡ true → of p.guest q ≡ false = λ q z. ap (λ n. eqb n p.guest) (eqb-true q.guest g z) ∙ e in
      mine-lower g
      ∙ map_on (of g) lower (λ q. q) (λ q z. rw (other q z)) (mine g u.waiting) (filter_passes (of g) u.waiting)
      ∙ map_id (mine g u.waiting)

  -- and its next numbers
  pub dropped_other : (g : ℕ) → eqb g p.guest ≡ false → owner (dropped p u).guests g ≡ owner u.guests g
  unfolding dropped
  dropped_other g e =
      get_or-set_other u.guests p.guest g (renewed (next_of u p) (owner u.guests p.guest)) nobodys (eqb-false g p.guest e)
