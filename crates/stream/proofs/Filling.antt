-- A buffer is filled read by read. Assumes nothing.
use Rattle.std.specs.Prelude.{Ok, Err}
use Prim.Native.Nat.{ℕ, ◌+◌, ◌≤◌, ◌<◌}
use mathlib.Core.Path.{◌≡◌, refl, sym, ap, ◌∙◌, subst}
use mathlib.Core.Bool.{Bool, true, false}
use mathlib.Core.List.{List, ◌++◌, append_assoc, append-nil}
use native.Mathlib.Omega.{arith}
use lib.ListN.{length, take, drop}
use lib.Seq.{take-add}
use borrow.Author.Tests.{lt-ltb, le-ltb}
use Rattle.port.specs.Tape.{Tape, Holds}
use Rattle.port.specs.Moves.{Goes, brought}
use Rattle.port.specs.declared.Moved.{Moved}
use Rattle.port.specs.declared.Moved.TheVariants.{Bytes, Nothing, Failed}
use Rattle.stream.specs.Runs.{Fills}
use Rattle.stream.specs.declared.ReadFailed.{ReadFailed}

-- the bytes xs were read behind what was, and the mark at the end is e
abbrev with : List ℕ → Bool → Tape → Tape
with xs e t = record { read = t.read ++ xs; wrote = t.wrote; ended = e; failed = t.failed }

-- so far the first k bytes of the buffer bs were read, and more may come
abbrev pub Filling : ℕ → List ℕ → (n m : ℕ) → Type 0
Filling k bs n m = (t : Tape) → Holds n t → t.ended ≡ false → Holds m (record { read = t.read ++ take k bs; wrote = t.wrote; ended = false; failed = t.failed })

-- none yet
pub fills_none : (bs : List ℕ) (n : ℕ) → Filling 0 bs n n
fills_none bs n t h o =
    subst (λ (l : List ℕ). Holds n (record { read = l; wrote = t.wrote; ended = false; failed = t.failed })) (sym (append-nil t.read))
    (subst (λ (e : Bool). Holds n (record { read = t.read; wrote = t.wrote; ended = e; failed = t.failed })) o h)

-- k bytes so far, and a read behind them, which left cs in the buffer
module _ (k n m r : ℕ) (bs cs : List ℕ) (w : Moved) (p : Filling k bs n m) (kept : take k cs ≡ take k bs) (g : Goes (brought w (drop k cs)) m r) where
  -- j bytes more came
  pub fills_more : (j : ℕ) → w ≡ Bytes j → Filling (k + j) cs n r
  fills_more j e t h o =
      subst (λ (l : List ℕ). Holds r (with l false t))
      (ap (λ (l : List ℕ). l ++ take j (drop k cs)) (sym kept) ∙ sym (take-add k j cs))
      (subst (λ (l : List ℕ). Holds r (record { read = l; wrote = t.wrote; ended = false; failed = t.failed })) (append_assoc t.read (take k bs) (take j (drop k cs)))
      (subst (λ (x : Moved). Holds r (brought x (drop k cs) (with (take k bs) false t))) e (g _ (p t h o))))

  -- no more come
  pub fills_upto : w ≡ Nothing → k < length cs → Fills (Ok k) cs n r
  fills_upto e room = (
    omega arith,
    λ t h o.
        subst (λ (b : Bool). Holds r (with (take k cs) b t)) (sym (lt-ltb k (length cs) room))
        (subst (λ (l : List ℕ). Holds r (with l true t)) (sym kept)
        (subst (λ (x : Moved). Holds r (brought x (drop k cs) (with (take k bs) false t))) e (g _ (p t h o)))),
  )

  -- a read failed
  pub fills_failed : (x : ReadFailed) → w ≡ Failed → Fills (Err x) cs n r
  fills_failed x e t h o = (_, subst (λ (x : Moved). Holds r (brought x (drop k cs) (with (take k bs) false t))) e (g _ (p t h o)), refl, refl)

-- the buffer is full
pub fills_all : (k n m : ℕ) (bs : List ℕ) → k ≤ length bs → length bs ≤ k → Filling k bs n m → Fills (Ok k) bs n m
fills_all k n m bs room full p = (room, λ t h o. subst (λ (e : Bool). Holds m (with (take k bs) e t)) (sym (le-ltb k (length bs) full)) (p t h o))
