-- The phases of what is in flight at an array: where a request stands, what is left once one has gone, and phases written over a lent list. Assumes nothing.
use Prim.Native.Nat.{ℕ, zero, suc, ◌+◌, ◌-◌, ◌≤◌, ◌<◌}
use mathlib.Core.Path.{◌≡◌, refl, sym, ap, ◌∙◌}
use mathlib.Core.Bool.{Bool, true, false, true≢false}
use mathlib.Core.List.{List, [], ◌∷◌, map}
use mathlib.Core.Logic.{⊎_elim}
use native.Mathlib.Omega.{arith}
use lib.ListN.{length, get_or, drop, length-drop, get_or-eq_default}
use lib.Seq.{get_or-drop, ext_get_or}
use Rattle.lists.specs.Words.{if◌then◌else◌, without}
use Rattle.lists.specs.Tab.{remove_at, is_tab, lt_or_le}
use Rattle.rules.specs.Tables.{same, lacks}
use Rattle.rules.specs.declared.Flight.{Flight}
use Rattle.rules.proofs.Conditions.{same_is}
use Rattle.arrays.specs.Phases.{phases_of, place_of, phases_over}
use Rattle.arrays.proofs.Places.{over-at, over_past, length_over}

-- WHERE A REQUEST STANDS

-- the place that is taken out is that of the first of the name
pub place-without : (f : Flight) (l : List Flight) → remove_at (place_of f l) l ≡ without (same f) l
unfolding place_of
place-without f [] = refl
place-without f (x ∷ l) =
    let i = place-without f l in
    elim (same f x) as (λ b. remove_at (if b then 0 else suc (place_of f l)) (x ∷ l) ≡ (if b then l else x ∷ without (same f) l)) [ true ↦ refl | false ↦ ap (x ∷◌) i ]

-- a request that is among those in flight stands at its place
pub place-holds : (f d : Flight) (l : List Flight) → lacks f l ≡ false → (place_of f l < length l) × (get_or l (place_of f l) d ≡ f)
unfolding place_of
place-holds f d [] h = absurd (true≢false h)
place-holds f d (x ∷ l) h = go (same f x) refl (place-holds f d l)
  where
    go : (b : Bool) → same f x ≡ b → (lacks f l ≡ false → (place_of f l < length l) × (get_or l (place_of f l) d ≡ f))
        → ((if b then 0 else suc (place_of f l)) < length (x ∷ l)) × (get_or (x ∷ l) (if b then 0 else suc (place_of f l)) d ≡ f)
    go true e k = (omega arith, sym (same_is f x e))
    go false e k = let (i, j) = k (rw e at h) in (omega arith, j)

-- an entry of a changed list taken out
pub removed_map : {A B : Type 0} (f : A → B) (i : ℕ) (l : List A) → remove_at i (map f l) ≡ map f (remove_at i l)
removed_map f i [] = refl
removed_map f zero (x ∷ l) = refl
removed_map f (suc i) (x ∷ l) = ap (f x ∷◌) (removed_map f i l)

-- PHASES OVER A LENT LIST

module _ (d : ℕ) (l ps : List ℕ) where
  -- the places past the depth hold what they held
  phases_past : (i : ℕ) → d ≤ i → get_or (phases_over d l ps) i 0 ≡ get_or ps i 0
  phases_past i h =
      ⊎_elim
      (λ k. over_past d l ps i k h)
      (λ k. get_or-eq_default (phases_over d l ps) 0 (rw (length_over d l ps) k) ∙ sym (get_or-eq_default ps 0 k))
      (lt_or_le i (length ps))

  -- as a list
  pub phases_beyond : drop d (phases_over d l ps) ≡ drop d ps
  phases_beyond =
      ext_get_or 0 (drop d (phases_over d l ps)) (drop d ps) (length-drop d (phases_over d l ps) ∙ ap (◌- d) (length_over d l ps) ∙ sym (length-drop d ps))
      (λ i h. get_or-drop d (phases_over d l ps) i 0 ∙ phases_past (d + i) (omega arith) ∙ sym (get_or-drop d ps i 0))

  -- phases are read again as they were written
  pub phases_back : d ≤ length ps → length l ≤ d → phases_of (phases_over d l ps) (length l) ≡ l
  phases_back room fits = is_tab 0 (length l) (λ i. get_or (phases_over d l ps) i 0) l refl (λ k h. over-at d l ps k (omega arith) (omega arith))
