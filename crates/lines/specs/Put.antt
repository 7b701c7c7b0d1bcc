-- Bytes written into a lent buffer from a place on, the rest of it left alone.
use Rattle.std.specs.Prelude.{ℕ, ◌+◌, ◌≡◌, List, length}
use Rattle.std.proofs.lemmas.List.Edits.{sets}

-- the bytes xs stand in ys from place `at` on, which makes it zs, and r is the place after them
pub record Put (at : ℕ) (xs ys : List ℕ) (r : ℕ) (zs : List ℕ) : Type 0 where
  pub next : r ≡ at + length xs
  pub bytes : zs ≡ sets ys at xs
