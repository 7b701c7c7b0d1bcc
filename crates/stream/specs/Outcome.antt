-- What a program that prints P of its input has done, whatever P is: what it may hand on, and how it ends.
use Rattle.std.specs.Prelude.{ℕ, ◌^◌, ◌≤◌, ◌≡◌, true, List, [], ◌++◌, ltb, length}
use Rattle.port.specs.Tape.{Tape, Holds}
use Rattle.stream.specs.Runs.{written}
use Rattle.stream.specs.declared.End.{End}
use Rattle.stream.specs.declared.End.TheVariants.{Whole, Unread, Unwritten, Unended}

-- how many turns a program makes at the most: nothing says that an input ends
abbrev pub MOST : ℕ
MOST = 2 ^ 48

-- ys begins with xs
abbrev pub Begins : (xs ys : List ℕ) → Type 0
Begins xs ys = (zs : List ℕ) × (ys ≡ xs ++ zs)

-- bytes that may come yet: none where the last read said that there are no more
abbrev pub May : Tape → (later : List ℕ) → Type 0
May t later = t.ended ≡ true → later ≡ []

-- what was written is a beginning of what is printed, whatever comes yet
abbrev pub Right : (P : List ℕ → List ℕ) → Tape → Type 0
Right P t = (later : List ℕ) → May t later → Begins t.wrote (P (t.read ++ later))

-- with xs behind it, what was written is all that is printed, whatever comes yet
abbrev pub Lacks : (P : List ℕ → List ℕ) → (xs : List ℕ) → Tape → Type 0
Lacks P xs t = (later : List ℕ) → May t later → P (t.read ++ later) ≡ t.wrote ++ xs

-- the bytes xs may be handed on: with them behind it, what was written is right
pub record Next (P : List ℕ → List ℕ) (n : ℕ) (xs : List ℕ) : Type 0 where
  pub tape : Tape
  pub held : Holds n tape
  pub right : Right P (written xs tape)

-- the bytes xs are the last to be handed on
pub record Last (P : List ℕ → List ℕ) (n : ℕ) (xs : List ℕ) : Type 0 where
  pub tape : Tape
  pub held : Holds n tape
  pub lacks : Lacks P xs tape

-- how a run ends: all is written; a call failed; or the input has at least `most` bytes
abbrev pub Ends : (P : List ℕ → List ℕ) → (most : ℕ) → End → Tape → Type 0
Ends P most Whole t = Lacks P [] t
Ends P most Unread t = t.failed ≡ true
Ends P most Unwritten t = t.failed ≡ true
Ends P most Unended t = most ≤ length t.read

-- A RUN OF THE PROGRAM: what was written is right, and it ends so
pub record Ran (P : List ℕ → List ℕ) (most : ℕ) (end : End) (n : ℕ) : Type 0 where
  pub tape : Tape
  pub held : Holds n tape
  pub right : Right P tape
  pub ends : Ends P most end tape

-- nothing is written yet, and the bytes bs are read: they fill the buffer of 4,096 bytes, or there are no more
pub record First (n : ℕ) (bs : List ℕ) : Type 0 where
  pub tape : Tape
  pub held : Holds n tape
  pub read : tape.read ≡ bs
  pub wrote : tape.wrote ≡ []
  pub mark : tape.ended ≡ ltb (length bs) 4096
