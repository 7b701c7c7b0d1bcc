-- The numbers behind a place, copied one place down, are stored one by one. Assumes nothing.
use Rattle.std.proofs.Common.{◌≡◌, sym, ap, ◌∙◌, ℕ, ◌+◌, ◌-◌, ◌≤◌, ◌<◌, List, ◌++◌, length, get_or, take, drop, length-drop, length-take-le, get_or-drop, arith}
use Rattle.std.proofs.Math.Seq.{paste}
use Rattle.std.proofs.lemmas.List.Edits.{sets, sets-eq}
use Rattle.lists.specs.Sets.{sets_stores}
use Rattle.lists.specs.Stores.{stores, stores_same}

-- numbers stored side by side are pasted in
sets_is : (ps : List ℕ) (at : ℕ) (xs : List ℕ) (k : ℕ) → length xs ≡ k → at + k ≤ length ps → sets ps at xs ≡ take at ps ++ xs ++ drop (at + k) ps
sets_is ps at xs k e h = rw (sym e) (sets-eq xs ps at (omega (arith, e, h)))

-- of n numbers, those behind `place`
pub copied_is : (n place : ℕ) (ps : List ℕ) → place < n → n ≤ length ps
    → paste ps place (drop (place + 1) ps) (n - (place + 1)) ≡ stores (λ k. place + k) (λ k. get_or ps (place + k + 1) 0) (n - 1 - place) ps
copied_is n place ps h room =
    let k : n - (place + 1) ≡ n - 1 - place = omega arith in
    let behind : List ℕ = drop (place + 1) ps in
    let far : length behind ≡ length ps - (place + 1) = length-drop (place + 1) ps in
    let long : length (take (n - (place + 1)) behind) ≡ n - (place + 1) = length-take-le (n - (place + 1)) behind (omega (arith, far, h, room)) in
    sym (sets_is ps place (take (n - (place + 1)) behind) (n - (place + 1)) long (omega (arith, h, room)))
    ∙ sets_stores ps behind place (n - (place + 1)) (omega (arith, far, h, room))
    ∙ ap (λ m. stores (λ j. place + j) (λ j. get_or behind j 0) m ps) k
    ∙ stores_same (λ j. place + j) (λ j. get_or behind j 0) (λ j. get_or ps (place + j + 1) 0) ps (n - 1 - place)
    (λ j l. get_or-drop (place + 1) ps j 0 ∙ ap (λ m. get_or ps m 0) {y = place + j + 1} (omega arith))
