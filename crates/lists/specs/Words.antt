-- Words for tests and lists that every definition uses. Each computes.
use Rattle.std.specs.Prelude.{Bool, true, false, ◌&&◌, List, [], ◌∷◌, ℕ, zero, suc, min, if◌then◌else◌}
pub use Rattle.std.specs.Prelude.{if◌then◌else◌}

-- every entry passes
abbrev pub all : {A : Type 0} → (A → Bool) → List A → Bool
all f [] = true
all f (x ∷ xs) = f x && all f xs

-- the entries that pass, in their order
abbrev pub filter : {A : Type 0} → (A → Bool) → List A → List A
filter f [] = []
filter f (x ∷ xs) = if f x then x ∷ filter f xs else filter f xs

-- the list without the first entry that passes
abbrev pub without : {A : Type 0} → (A → Bool) → List A → List A
without f [] = []
without f (x ∷ xs) = if f x then xs else x ∷ without f xs

-- f of each entry and its place, the places counted from i
abbrev pub each : {A B : Type 0} → (ℕ → A → B) → ℕ → List A → List B
each f i [] = []
each f i (x ∷ xs) = f i x ∷ each f (suc i) xs

-- the list has no entry
abbrev pub empty : {A : Type 0} → List A → Bool
empty [] = true
empty (x ∷ xs) = false

-- every number below n passes
abbrev pub below : ℕ → (ℕ → Bool) → Bool
below zero f = true
below (suc n) f = f n && below n f

-- the smallest number of the list, 0 where it has none
unfoldable pub lowest : List ℕ → ℕ
lowest [] = 0
lowest (x ∷ []) = x
lowest (x ∷ y ∷ l) = min x (lowest (y ∷ l))
