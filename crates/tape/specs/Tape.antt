-- What a program has read and written so far. No contract of C's read and write says which bytes they move, so the bytes are told by a count that
-- each call moves on. `Holds` is shut, and a crate that does not stand on this one can name none of the laws below: there a proof has it only
-- from what the functions of `port` promise.
use Rattle.std.specs.Prelude.{ℕ, ◌+◌, ◌%◌, ◌^◌, ◌≡◌, refl, Bool, false, List, [], length}
use Rattle.std.proofs.Common.{sym, ap, ◌∙◌, arith}

-- the bytes that reads brought and those that writes took, each behind the one before; that the last read said there are no more; that a call has failed
pub record Tape : Type 0 where
  pub read : List ℕ
  pub wrote : List ℕ
  pub ended : Bool
  pub failed : Bool

-- nothing yet
abbrev pub blank : Tape
blank = record { read = []; wrote = []; ended = false; failed = false }

-- how many bytes went through
abbrev pub moved : Tape → ℕ
moved t = length t.read + length t.wrote

-- the count n, in 64 bits, is that of the tape t
pub Holds : ℕ → Tape → Type 0
Holds n t = n ≡ moved t % 2 ^ 64

-- 0 is the count of a tape on which nothing is yet
pub started : Holds 0 blank
unfolding Holds
started = refl

-- k bytes more went through
pub grown : (n k : ℕ) (t u : Tape) → moved u ≡ moved t + k → Holds n t → Holds ((n + k) % 2 ^ 64) u
unfolding Holds
grown n k t u e h = omega (arith, e, h)

-- none did
pub stays : (n : ℕ) (t u : Tape) → moved u ≡ moved t → Holds n t → Holds n u
unfolding Holds
stays n t u e h = h ∙ ap (λ (k : ℕ). k % 2 ^ 64) (sym e)
