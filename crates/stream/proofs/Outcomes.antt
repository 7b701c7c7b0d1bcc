-- What may be handed on, and what is then left: for any P that a program prints. Assumes nothing.
use Prim.Native.Nat.{ℕ}
use mathlib.Core.Path.{◌≡◌, refl, sym, ap, ◌∙◌, subst}
use mathlib.Core.Bool.{Bool, true, false}
use mathlib.Core.List.{List, [], ◌++◌, append_assoc, append-nil}
use lib.ListN.{take, drop, take-append-drop}
use Rattle.port.specs.Tape.{Tape, Holds}
use Rattle.stream.specs.Runs.{written, stopped, Emits}
use Rattle.stream.specs.Outcome.{Begins, Right, Lacks, Next, Last, Ran}
use Rattle.stream.specs.declared.End.{End}
use Rattle.stream.specs.declared.End.TheVariants.{Whole, Unwritten}

module _ (P : List ℕ → List ℕ) (xs : List ℕ) (t : Tape) where
  -- a beginning of what may be handed on may be
  pub right_stopped : Right P (written xs t) → (k : ℕ) → Right P (stopped (take k xs) t)
  right_stopped r k later may =
      let z = r later may in (
        drop k xs ++ z.0,
        z.1
            ∙ append_assoc t.wrote xs z.0
            ∙ ap (λ (l : List ℕ). t.wrote ++ (l ++ z.0)) (sym (take-append-drop k xs))
            ∙ ap (λ (l : List ℕ). t.wrote ++ l) (append_assoc (take k xs) (drop k xs) z.0)
            ∙ sym (append_assoc t.wrote (take k xs) (drop k xs ++ z.0)),
      )

  -- the last bytes may be handed on
  pub last_right : Lacks P xs t → Right P (written xs t)
  last_right l later may = ([], l later may ∙ sym (append-nil (t.wrote ++ xs)))

  -- and then all is written
  pub last_written : Lacks P xs t → Lacks P [] (written xs t)
  last_written l later may = l later may ∙ sym (append-nil (t.wrote ++ xs))

pub last_next : (P : List ℕ → List ℕ) (n : ℕ) (xs : List ℕ) → Last P n xs → Next P n xs
last_next P n xs l = record { tape = l.tape; held = l.held; right = last_right P xs l.tape l.lacks }

-- from the count n to the count m the bytes xs were handed on, and all of them written (true), or not
module _ (P : List ℕ → List ℕ) (most n m : ℕ) (xs : List ℕ) (b : Bool) (emits : Emits b xs n m) where
  -- they were the last: all is written
  pub last_whole : Last P n xs → b ≡ true → Ran P most Whole m
  last_whole l e =
      record {
        tape = written xs l.tape;
        held = subst (λ (c : Bool). Emits c xs n m) e emits l.tape l.held;
        right = last_right P xs l.tape l.lacks;
        ends = last_written P xs l.tape l.lacks;
      }

  -- a write failed
  pub next_unwritten : Next P n xs → b ≡ false → Ran P most Unwritten m
  next_unwritten l e =
      let k = subst (λ (c : Bool). Emits c xs n m) e emits l.tape l.held in
      record {
        tape = stopped (take k.0 xs) l.tape;
        held = k.1;
        right = right_stopped P xs l.tape l.right k.0;
        ends = refl;
      }

-- A RUN in short
module _ (P : List ℕ → List ℕ) (most n : ℕ) where
  -- where it ends well, and the input has ended, what was written is what is printed of all the bytes that were read
  pub ran_whole : Ran P most Whole n → (t : Tape) × Holds n t × (t.ended ≡ true → t.wrote ≡ P t.read)
  ran_whole d =
      let t = d.tape in
      (t, d.held, λ e. sym (append-nil t.wrote) ∙ sym (d.ends [] (λ x. refl)) ∙ ap P (append-nil t.read))

  -- and however it ends, what was written is a beginning of that
  pub ran_beginning : (end : End) → Ran P most end n → (t : Tape) × Holds n t × Begins t.wrote (P t.read)
  ran_beginning end d =
      let t = d.tape in
      let z = d.right [] (λ x. refl) in
      (t, d.held, (z.0, sym (ap P (append-nil t.read)) ∙ z.1))
