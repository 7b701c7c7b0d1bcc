-- Bytes are written part by part. Assumes nothing.
use Prim.Native.Nat.{ℕ, ◌+◌, ◌-◌, ◌≤◌, ◌<◌}
use mathlib.Core.Path.{◌≡◌, sym, ap, ◌∙◌, subst}
use mathlib.Core.Bool.{true, false}
use mathlib.Core.Logic.{◌⊎◌, ⊎_elim}
use mathlib.Core.List.{List, ◌++◌, append_assoc, append-nil}
use native.Mathlib.Omega.{arith}
use lib.ListN.{length, take, drop, length-drop}
use lib.Seq.{take-add, take_all}
use Rattle.port.specs.Tape.{Holds}
use Rattle.port.specs.Moves.{Goes, took, Within}
use Rattle.port.specs.declared.Moved.{Moved}
use Rattle.port.specs.declared.Moved.TheVariants.{Bytes, Nothing, Failed}
use Rattle.stream.specs.Runs.{written, Emits}

-- what was moved, where bytes were
pub within : {w : Moved} {j n : ℕ} → w ≡ Bytes j → Within w n → (0 < j) × (j ≤ n)
within {w} {j} {n} e h = subst (λ (m : Moved). Within m n) e h

-- none yet
pub emits_none : (bs : List ℕ) (n : ℕ) → Goes (written (take 0 bs)) n n
emits_none bs n t h = subst (λ (l : List ℕ). Holds n (record { read = t.read; wrote = l; ended = t.ended; failed = t.failed })) (sym (append-nil t.wrote)) h

-- k bytes of bs so far, and a call for the part behind them
module _ (k n m r : ℕ) (bs : List ℕ) (w : Moved) (p : Goes (written (take k bs)) n m) (g : Goes (took w (take (length bs - k) (drop k bs))) m r) where
  behind : Goes (took w (drop k bs)) m r
  behind = subst (λ (l : List ℕ). Goes (took w l) m r) (take_all (length bs - k) (drop k bs) (omega (arith, length-drop k bs))) g

  -- j bytes more
  pub emits_more : (j : ℕ) → w ≡ Bytes j → Goes (written (take (k + j) bs)) n r
  emits_more j e t h =
      subst (λ (l : List ℕ). Holds r (record { read = t.read; wrote = l; ended = t.ended; failed = t.failed }))
      (append_assoc t.wrote (take k bs) (take j (drop k bs)) ∙ ap (λ (l : List ℕ). t.wrote ++ l) (sym (take-add k j bs)))
      (subst (λ (x : Moved). Holds r (took x (drop k bs) (written (take k bs) t))) e (behind _ (p t h)))

  -- a write took none, or failed
  pub emits_stops : (w ≡ Nothing) ⊎ (w ≡ Failed) → Emits false bs n r
  emits_stops e t h = (k, ⊎_elim stops stops e)
    where
      stops : {v : Moved} → w ≡ v → Holds r (took v (drop k bs) (written (take k bs) t))
      stops e = subst (λ (x : Moved). Holds r (took x (drop k bs) (written (take k bs) t))) e (behind _ (p t h))

  -- a write failed
  pub emits_fails : (w ≡ Failed) → Emits false bs n r
  emits_fails e t h = (k, subst (λ (x : Moved). Holds r (took x (drop k bs) (written (take k bs) t))) e (behind _ (p t h)))

-- all of them
pub emits_all : (k n m : ℕ) (bs : List ℕ) → length bs ≤ k → Goes (written (take k bs)) n m → Emits true bs n m
emits_all k n m bs full p t h = subst (λ (l : List ℕ). Holds m (written l t)) (take_all k bs full) (p t h)
