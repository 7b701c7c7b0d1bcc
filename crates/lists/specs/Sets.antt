-- Numbers stored side by side (`sets` of the library): two runs of stores are one, and a part of a list that is overwritten is a run of stores.
-- Assumes nothing.
use Rattle.std.specs.Prelude.{ℕ, zero, suc, ◌+◌, ◌≤◌, ◌<◌, ◌≡◌, refl, List, [], ◌∷◌, ◌++◌, length, take, drop, set, get_or}
use Rattle.std.proofs.Common.{sym, ap, ◌∙◌, append_assoc, arith, add-zero, add-suc, suc-add, add-one, take-suc, length-take-le}
use Rattle.std.proofs.Math.Seq.{drop-drop}
use Rattle.std.proofs.lemmas.List.Edits.{sets, sets-eq}
use Rattle.lists.specs.Stores.{stores}

-- two runs of stores, one behind the other, are one
pub sets_append : (ys : List ℕ) (at : ℕ) (xs zs : List ℕ) → sets (sets ys at xs) (at + length xs) zs ≡ sets ys at (xs ++ zs)
sets_append ys at [] zs = rw add-zero
sets_append ys at (x ∷ xs) zs = rw (add-suc, ← suc-add) (sets_append _ (suc at) xs zs)

-- one number more of a list that is being copied
pub sets_take : (ys zs : List ℕ) (at : ℕ) (xs : List ℕ) (i : ℕ) → zs ≡ sets ys at (take i xs) → i < length xs → set zs (at + i) (get_or xs i 0) ≡ sets ys at (take (i + 1) xs)
sets_take ys zs at xs i e h =
    rw (add-one, take-suc xs i 0)
    (ap (λ (l : List ℕ). set l (at + i) (get_or xs i 0)) e
    ∙ ap (λ (k : ℕ). set (sets ys at (take i xs)) (at + k) (get_or xs i 0)) (sym (length-take-le i xs (omega arith)))
    ∙ sets_append ys at (take i xs) (get_or xs i 0 ∷ []))

-- a part of a list that was lent, and is overwritten: its numbers are stored side by side
pub sets_part : (ys : List ℕ) (at k : ℕ) (xs : List ℕ) → at + length xs ≤ length ys → k ≡ length xs → take at ys ++ (xs ++ drop k (drop at ys)) ≡ sets ys at xs
sets_part ys at k xs h e =
    rw (e, drop-drop (length xs) at ys) (sym (append_assoc (take at ys) xs (drop (at + length xs) ys)) ∙ sym (sets-eq xs ys at h))

-- the first n numbers of a list, stored side by side, are n stores, one to a turn
pub sets_stores : (ys xs : List ℕ) (at n : ℕ) → n ≤ length xs → sets ys at (take n xs) ≡ stores (λ k. at + k) (λ k. get_or xs k 0) n ys
unfolding stores
sets_stores ys xs at zero h = refl
sets_stores ys xs at (suc n) h =
    let v = get_or xs n 0 in
    let long : length (take n xs) ≡ n = length-take-le n xs (omega (arith, h)) in
    ap (sets ys at) (take-suc xs n 0 (omega (arith, h)))
    ∙ sym (sets_append ys at (take n xs) (v ∷ []))
    ∙ (λ i. set (sets_stores ys xs at n (omega (arith, h)) i) (at + long i) v)
