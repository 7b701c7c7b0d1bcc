-- What the functions over one printed line know at their ends. Assumes nothing.
use Prim.Native.Nat.{ℕ, ◌≤◌}
use mathlib.Core.Path.{◌≡◌, refl, sym, ap, ◌∙◌, subst}
use mathlib.Core.Bool.{Bool, true, false}
use mathlib.Core.List.{List}
use native.Mathlib.Omega.{arith}
use lib.Dec.{eqb}
use lib.ListN.{length, take, drop}
use Rattle.lists.specs.Words.{if◌then◌else◌}
use Rattle.rules.specs.declared.Gate.{Gate}
use Rattle.rules.specs.declared.Answer.{Answer}
use Rattle.table.specs.View.{table_of, Known}
use Rattle.std.specs.Prelude.{Some, None}
use Rattle.std.specs.Bool.{then_some}
use Rattle.std.specs.Cmp.Lexicographic.{pointwise}
use Rattle.std.proofs.lemmas.Bool.Decides.{Decides-eqb}
use Rattle.std.proofs.lemmas.Slice.Eq.{slice_eq-Decides}
use Rattle.std.proofs.lemmas.Option.{none-some, same_Some}
use Rattle.lines.specs.Line.{line_of}
use Rattle.lines.specs.Put.{Put}
use Rattle.lines.proofs.PutLaws.{put_front}
use Rattle.trace.proofs.HeaderLaws.{is_same}
use Rattle.judge.specs.Judging.{begins, follows, wrong, told}
use Rattle.judge.specs.Hearing.{size_if, said_of, Hears}
use Rattle.judge.specs.declared.Said.{Said}

-- a test of what the lines start with is whether they begin with it
pub starts_begins : (xs ls : List ℕ) (b : Bool) → b ≡ pointwise eqb xs (take (length xs) ls) → b ≡ begins xs ls
starts_begins xs ls b e =
    let d = slice_eq-Decides Decides-eqb xs (take (length xs) ls) b e in
    is_same b xs (take (length xs) ls) d.0 d.1

-- and so is whether it can be stripped of them
pub strips_begins : (xs ls : List ℕ) (b : Bool) → b ≡ pointwise eqb (take (length xs) ls) xs → b ≡ begins xs ls
strips_begins xs ls b e =
    let d = slice_eq-Decides Decides-eqb (take (length xs) ls) xs b e in
    is_same b xs (take (length xs) ls) (λ h. sym (d.0 h)) (λ h. d.1 (sym h))

module _ {xs ys zs : List ℕ} {r : ℕ} (p : Put 0 xs ys r zs) (room : r ≤ length ys) (ls : List ℕ) where
  -- what was put is held against the lines
  pub put-begins : (b : Bool) → b ≡ begins (take r zs) ls → b ≡ begins xs ls
  put-begins b e = e ∙ ap (λ (l : List ℕ). begins l ls) (put_front p room)

  pub says_yes : (b : Bool) → b ≡ begins (take r zs) ls → b ≡ true → Some r ≡ size_if (begins xs ls) xs
  says_yes b e h =
      let size : r ≡ length xs = omega (arith, p.next) in
      ap Some size ∙ ap (λ (c : Bool). size_if c xs) (sym h ∙ put-begins b e)

  pub says_not : (b : Bool) → b ≡ begins (take r zs) ls → b ≡ false → None ≡ size_if (begins xs ls) xs
  says_not b e h = ap (λ (c : Bool). size_if c xs) (sym h ∙ put-begins b e)

  -- the lines start with it
  pub put-starts : (b : Bool) → b ≡ pointwise eqb (take r zs) (take (length (take r zs)) ls) → b ≡ begins xs ls
  put-starts b e = put-begins b (starts_begins (take r zs) ls b e)

  -- how long it is
  pub says_size : (b : Bool) → b ≡ pointwise eqb (take r zs) (take (length (take r zs)) ls) → then_some b r ≡ size_if (begins xs ls) xs
  says_size b e = go b ∙ ap (λ (c : Bool). size_if c xs) (put-starts b e)
    where
      go : (c : Bool) → then_some c r ≡ size_if c xs
      go true = let size : r ≡ length xs = omega (arith, p.next) in ap Some size
      go false = refl

  -- or it is stripped of them
  pub put-strips : (b : Bool) → b ≡ pointwise eqb (take (length (take r zs)) ls) (take r zs) → b ≡ begins xs ls
  put-strips b e = strips_begins (take r zs) ls b e ∙ ap (λ (l : List ℕ). begins l ls) (put_front p room)

  -- and the rest is left
  pub put-rest : (rest : List ℕ) → rest ≡ drop (length (take r zs)) ls → rest ≡ drop (length xs) ls
  put-rest rest e = e ∙ ap (λ (l : List ℕ). drop (length l) ls) (put_front p room)

-- where only one answer may stand, which leaves the table
module _ (g : Gate) (gs ws fs : List ℕ) (k : Known g gs ws fs) (a : Answer) (n : ℕ) (ls : List ℕ) where
  pub plain_hears : (r : Said) → r ≡ said_of g a (size_if (begins (line_of n a) ls) (line_of n a)) → Hears (told n ls (record { table = table_of g gs ws fs; answer = a })) a n r gs ws fs
  unfolding told
  plain_hears r e = subst (λ (x : Said). Hears (if begins (line_of n a) ls then follows (record { table = table_of g gs ws fs; answer = a }) else wrong) a n x gs ws fs) (sym e) (go (begins (line_of n a) ls))
    where
      go : (b : Bool) → Hears (if b then follows (record { table = table_of g gs ws fs; answer = a }) else wrong) a n (said_of g a (size_if b (line_of n a))) gs ws fs
      go true =
          record {
            due = refl;
            errs = λ z. absurd (none-some (length (line_of n a)) (sym z));
            goes = λ long z. record { result = record { table = table_of g gs ws fs; answer = a }; says = refl; sends = record { shows = refl; known = k }; size = sym (same_Some (length (line_of n a)) long z) };
          }
      go false = record { due = refl; errs = λ z. refl; goes = λ long z. absurd (none-some long z) }
