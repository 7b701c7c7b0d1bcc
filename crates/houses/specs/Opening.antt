-- The start of a house: its arrays are opened one after the other, each call handed the counters that the last one left. Guest settings are the same at every array:
-- what proofs/Begins.antt speaks of. Words in quotes are K14's.
use Rattle.std.specs.Prelude.{ℕ, suc, Bool, true, ◌&&◌, List, [], ◌∷◌, length}
use Rattle.rules.specs.Answers.{taken}
use Rattle.arrays.specs.Promise.{HandedAt, begun}
use Rattle.houses.specs.House.{House, left_at}

-- what is lent for one array, and how it is set
pub record Lent : Type 0 where
  pub depth : ℕ
  pub capacity : ℕ
  pub rule : ℕ
  pub guests : List ℕ
  pub waiting : List ℕ
  pub flight : List ℕ
  pub phases : List ℕ

-- the opening of array a of m, for n guests with the settings ss
abbrev pub opens_at : (m n : ℕ) (ss : List ℕ) (a : ℕ) → Lent → (cs : List ℕ) → HandedAt
opens_at m n ss a l cs = begun (record { arrays = m; array = a }) l.depth n l.capacity l.rule ss l.guests l.waiting l.flight cs l.phases

-- the house after the openings of its arrays from array a on
unfoldable pub opened_from : (m n : ℕ) (ss : List ℕ) (a : ℕ) → List Lent → (cs : List ℕ) → House
opened_from m n ss a [] cs = record { counters = cs; arrays = [] }
opened_from m n ss a (l ∷ ls) cs =
    record {
      counters = (opened_from m n ss (suc a) ls (opens_at m n ss a l cs).4).counters;
      arrays = left_at (opens_at m n ss a l cs) ∷ (opened_from m n ss (suc a) ls (opens_at m n ss a l cs).4).arrays;
    }

-- all of them are accepted
unfoldable pub accepted_from : (m n : ℕ) (ss : List ℕ) (a : ℕ) → List Lent → (cs : List ℕ) → Bool
accepted_from m n ss a [] cs = true
accepted_from m n ss a (l ∷ ls) cs = taken (opens_at m n ss a l cs).0.answer && accepted_from m n ss (suc a) ls (opens_at m n ss a l cs).4

-- the house after the openings of all its arrays
abbrev pub opened_all : (n : ℕ) (ss : List ℕ) → List Lent → (cs : List ℕ) → House
opened_all n ss ls cs = opened_from (length ls) n ss 0 ls cs

-- all of those are accepted
abbrev pub accepted_all : (n : ℕ) (ss : List ℕ) → List Lent → (cs : List ℕ) → Bool
accepted_all n ss ls cs = accepted_from (length ls) n ss 0 ls cs
