-- The rows before the one that goes close up number by number, from the last down: laws of such a loop, which stand beside what the library's copy promises. Assumes nothing.
use Rattle.std.specs.Prelude.{ℕ, ◌+◌, ◌-◌, ◌≤◌, ◌<◌, ◌≡◌, refl, Bool, true, false, List, eqb, length, get_or, set}
use Rattle.std.proofs.Common.{ap, ◌∙◌, arith, length-set, get_or-set_same, get_or-set_other, eqb-true}
use Rattle.std.proofs.lemmas.Bool.{eqb-false}
use Rattle.moves.specs.Moves.{Pushed}

-- the loop from the end down to i
pub record Pushing (s : ℕ) (xs ys : List ℕ) (i : ℕ) : Type 0 where
  pub same : length ys ≡ length xs
  pub done : (k : ℕ) → i ≤ k + s → k + s < length xs → get_or ys (k + s) 0 ≡ get_or xs k 0
  pub rest : (k : ℕ) → k < i → get_or ys k 0 ≡ get_or xs k 0

module _ (s : ℕ) (xs : List ℕ) where
  -- before it nothing has moved
  pub pushing_start : Pushing s xs xs (length xs)
  pushing_start = record { same = refl; done = λ k l h. absurd (omega (arith, l, h)); rest = λ k l. refl }

  -- one number moves
  pub pushing_next : (ys : List ℕ) (i : ℕ) → 0 < s → s < i → i ≤ length xs → Pushing s xs ys i → Pushing s xs (set ys (i - 1) (get_or ys (i - 1 - s) 0)) (i - 1)
  pushing_next ys i some low high w =
      record {
        same = length-set ys (i - 1) (get_or ys (i - 1 - s) 0) ∙ w.same;
        done = λ k l h. go k l h (eqb (k + s) (i - 1)) refl;
        rest = λ k l. get_or-set_other ys (i - 1) k (get_or ys (i - 1 - s) 0) 0 (λ e. omega (arith, e, l)) ∙ w.rest k (omega (arith, l));
      }
    where
      go : (k : ℕ) → i - 1 ≤ k + s → k + s < length xs → (b : Bool) → eqb (k + s) (i - 1) ≡ b → get_or (set ys (i - 1) (get_or ys (i - 1 - s) 0)) (k + s) 0 ≡ get_or xs k 0
      go k l h true e =
          let q : k + s ≡ i - 1 = eqb-true (k + s) (i - 1) e in
          let p : i - 1 - s ≡ k = omega (arith, q) in
          ap (λ (j : ℕ). get_or (set ys (i - 1) (get_or ys (i - 1 - s) 0)) j 0) q
          ∙ get_or-set_same ys (i - 1) (get_or ys (i - 1 - s) 0) 0 (omega (arith, w.same, low, high))
          ∙ ap (λ (j : ℕ). get_or ys j 0) p
          ∙ w.rest k (omega (arith, q, low, some))
      go k l h false e =
          let n = eqb-false (k + s) (i - 1) e in
          get_or-set_other ys (i - 1) (k + s) (get_or ys (i - 1 - s) 0) 0 n ∙ w.done k (omega (arith, l, n)) h

  -- behind it all have moved but the first s
  pub pushing_end : (ys : List ℕ) (i : ℕ) → i ≤ s → Pushing s xs ys i → Pushed s xs ys
  pushing_end ys i low w = record { same = w.same; moved = λ k h. w.done k (omega (arith, low)) h }
