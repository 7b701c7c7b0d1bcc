-- The first reads, into a buffer of 4,096 bytes: for any P that a program prints. Assumes nothing.
use Rattle.std.specs.Prelude.{Result, Ok, Err}
use Prim.Native.Nat.{ℕ, ◌≤◌}
use mathlib.Core.Path.{◌≡◌, refl, sym, ap, ◌∙◌, subst}
use mathlib.Core.Bool.{Bool, true, false}
use mathlib.Core.List.{List, [], ◌++◌}
use mathlib.Core.Logic.{◌⊎◌, inl, inr}
use native.Mathlib.Omega.{arith}
use lib.Dec.{ltb}
use lib.ListN.{length, take}
use lib.Seq.{length-take-le}
use borrow.Author.Tests.{ltb-false}
use Rattle.port.specs.Tape.{blank, Holds}
use Rattle.stream.specs.Runs.{filled, Fills}
use Rattle.stream.specs.Outcome.{May, Ran, First}
use Rattle.stream.specs.declared.ReadFailed.{ReadFailed}
use Rattle.stream.specs.declared.End.TheVariants.{Unread}

module _ (n m : ℕ) (bs : List ℕ) (w : Result ℕ ReadFailed) (fills : Fills w bs n m) (fresh : Holds n blank) where
  -- the first bytes are there
  pub filled-first : (k : ℕ) → w ≡ Ok k → length bs ≡ 4096 → (k ≤ 4096) × First m (take k bs)
  filled-first k e room =
      let f = subst (λ (x : Result ℕ ReadFailed). Fills x bs n m) e fills in
      let as_many : length (take k bs) ≡ k = length-take-le k bs f.0 in (
        omega (arith, f.0, room),
        record {
          tape = filled k bs blank;
          held = f.1 blank fresh refl;
          read = refl;
          wrote = refl;
          mark = ap (ltb k) room ∙ ap (λ (j : ℕ). ltb j 4096) (sym as_many);
        },
      )

  -- a read failed
  pub unfilled : (P : List ℕ → List ℕ) (most : ℕ) (x : ReadFailed) → w ≡ Err x → Ran P most Unread m
  unfilled P most x e =
      let f = subst (λ (x : Result ℕ ReadFailed). Fills x bs n m) e fills blank fresh refl in
      record { tape = f.0; held = f.1; right = λ later may. (P (f.0.read ++ later), ap (λ (l : List ℕ). l ++ P (f.0.read ++ later)) (sym f.2)); ends = f.3 }

-- the first bytes fill the buffer, or are all there is
pub full_or_all : (n : ℕ) (bs later : List ℕ) (f : First n bs) → May f.tape later → (4096 ≤ length bs) ⊎ (later ≡ [])
full_or_all n bs later f may = go (ltb (length bs) 4096) refl
  where
    go : (b : Bool) → ltb (length bs) 4096 ≡ b → (4096 ≤ length bs) ⊎ (later ≡ [])
    go true e = inr (may (f.mark ∙ e))
    go false e = inl (ltb-false (length bs) 4096 e)
