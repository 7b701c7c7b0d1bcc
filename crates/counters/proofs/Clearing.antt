-- The rows of the guests at an array, one behind the other, are a part of the list that is zeros once they begin anew. Assumes nothing.
use Rattle.std.proofs.Common.{◌≡◌, refl, sym, ap, ◌∙◌, ℕ, zero, suc, ◌+◌, ◌*◌, List, [], ◌∷◌, length, set, replicate, add-zero, add-one, arith}
use Rattle.std.proofs.lemmas.List.{length-replicate, replicate-append-replicate}
use Rattle.std.proofs.lemmas.List.Edits.{sets}
use Rattle.lists.specs.Sets.{sets_append}
use Rattle.arrays.specs.Counters.{counter_wide, DELTA, RHO, cleared_all, row_of, row_set}

both : (k : ℕ) (xs : List ℕ) → sets xs k (0 ∷ 0 ∷ []) ≡ set (set xs (k + DELTA) 0) (k + RHO) 0
both k xs = rw (add-zero, add-one) refl

-- the first m of them
pub cleared_is : (n a m : ℕ) (cs : List ℕ) → sets cs (a * n * counter_wide) (replicate (m * counter_wide) 0) ≡ cleared_all n a m cs
unfolding cleared_all row_set
cleared_is n a zero cs = refl
cleared_is n a (suc m) cs =
    let long : m * counter_wide + 2 ≡ suc m * counter_wide = omega arith in
    let from : a * n * counter_wide + length (replicate (m * counter_wide) 0) ≡ row_of n a m * counter_wide = omega (arith, length-replicate {A = ℕ} (m * counter_wide) 0) in
    ap (λ k. sets cs (a * n * counter_wide) (replicate k 0)) (sym long)
    ∙ ap (sets cs (a * n * counter_wide)) (sym (replicate-append-replicate (m * counter_wide) 2 0))
    ∙ sym (sets_append cs (a * n * counter_wide) (replicate (m * counter_wide) 0) (0 ∷ 0 ∷ []))
    ∙ ap (λ k. sets (sets cs (a * n * counter_wide) (replicate (m * counter_wide) 0)) k (0 ∷ 0 ∷ [])) from
    ∙ ap (λ l. sets l (row_of n a m * counter_wide) (0 ∷ 0 ∷ [])) (cleared_is n a m cs)
    ∙ both (row_of n a m * counter_wide) (cleared_all n a m cs)
