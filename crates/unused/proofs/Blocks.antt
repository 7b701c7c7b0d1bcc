-- Numbers tested a block at a time: the bits of several numbers together are 0 exactly where each is, and all pass where each block does and what is left
-- behind the blocks. Assumes nothing.
use Prim.Native.Nat.{ℕ, zero, suc, ◌+◌, ◌-◌, ◌*◌, ◌≤◌, ◌<◌}
use mathlib.Core.Path.{◌≡◌, refl, sym, ap, ◌∙◌}
use mathlib.Core.Bool.{Bool, true, false, ◌&&◌, and_assoc, and-true, false≢true}
use mathlib.Core.List.{List, [], ◌∷◌}
use native.Mathlib.Omega.{arith}
use native.Mathlib.Nat.{zero-mul, suc-mul}
use denote.Bor.{Bor}
use lib.Bits.{bit_or, or_add_and, and_le_l, and_le_r}
use lib.Dec.{eqb}
use lib.ListN.{length, get_or, take, drop, take-append-drop}
use lib.Seq.{drop-cons, drop-nil, take-nil}
use borrow.Author.Tests.{eqb-true, eq-eqb}
use Rattle.std.specs.Prelude.{Option, Some, None, IfSome, IsSomeAnd}
use Rattle.std.specs.Option.{option_map}
use Rattle.std.specs.List.{fold}
use Rattle.std.proofs.lemmas.Option.{none-some}
use Rattle.lists.specs.Words.{all}
use Rattle.lists.specs.WordsLaws.{both, join, all_append}

-- the number is 0
abbrev pub none : ℕ → Bool
none x = eqb x 0

-- two tests that hold together are one
alike : (a b : Bool) → (a ≡ true → b ≡ true) → (b ≡ true → a ≡ true) → a ≡ b
alike true b f g = sym (f refl)
alike false true f g = absurd (false≢true (g refl))
alike false false f g = refl

-- the bits of two numbers together are 0 exactly where both numbers are
or_none : (a b : ℕ) → none (bit_or a b) ≡ (none a && none b)
or_none a b =
    alike (none (bit_or a b)) (none a && none b)
    (λ h.
    let s : bit_or a b ≡ 0 = eqb-true (bit_or a b) 0 h in
    join (eq-eqb a 0 (omega (arith, or_add_and a b, and_le_r a b))) (eq-eqb b 0 (omega (arith, or_add_and a b, and_le_l a b))))
    (λ h.
    let z = both (none a) (none b) h in
    let p : a ≡ 0 = eqb-true a 0 z.0 in
    let q : b ≡ 0 = eqb-true b 0 z.1 in
    eq-eqb (bit_or a b) 0 (omega (arith, or_add_and a b)))

-- the bits of a number and of those behind it, together, are 0 exactly where each of these numbers is
pub bits_none : (l : List ℕ) (a : ℕ) → none (fold bit_or a l) ≡ (none a && all none l)
bits_none [] a = sym (and-true (none a))
bits_none (x ∷ l) a =
    bits_none l (bit_or a x)
    ∙ ap (λ (b : Bool). b && all none l) (or_none a x)
    ∙ and_assoc (none a) (none x) (all none l)

-- a list is a part at its front and the rest
pub split_none : (n : ℕ) (xs : List ℕ) → all none xs ≡ (all none (take n xs) && all none (drop n xs))
split_none zero xs = refl
split_none (suc n) [] = refl
split_none (suc n) (x ∷ xs) =
    ap (λ (b : Bool). none x && b) (split_none n xs)
    ∙ sym (and_assoc (none x) (all none (take n xs)) (all none (drop n xs)))

-- a block is two blocks, one behind the other
blocks_none : (m n : ℕ) (xs : List ℕ) → all none (take (m + n) xs) ≡ (all none (take m xs) && all none (take n (drop m xs)))
blocks_none zero n xs = ap (λ (k : ℕ). all none (take k xs)) (let e : 0 + n ≡ n = omega arith in e)
blocks_none (suc m) n [] = ap (all none) (take-nil (suc m + n) ∙ sym (take-nil n))
blocks_none (suc m) n (x ∷ xs) =
    ap (λ (k : ℕ). all none (take k (x ∷ xs))) (let e : suc m + n ≡ suc (m + n) = omega arith in e)
    ∙ ap (λ (b : Bool). none x && b) (blocks_none m n xs)
    ∙ sym (and_assoc (none x) (all none (take m xs)) (all none (take n (drop m xs))))

-- where each of the first m blocks passes, so do their numbers
pub blocks_pass : (n m : ℕ) (xs : List ℕ) → ((k : ℕ) → k < m → all none (take n (drop (k * n) xs)) ≡ true) → all none (take (m * n) xs) ≡ true
blocks_pass n zero xs h = ap (λ (k : ℕ). all none (take k xs)) (zero-mul n)
blocks_pass n (suc m) xs h =
    ap (λ (k : ℕ). all none (take k xs)) (suc-mul m n)
    ∙ blocks_none (m * n) n xs
    ∙ ap (λ (b : Bool). b && all none (take n (drop (m * n) xs))) (blocks_pass n m xs (λ k l. h k (omega arith)))
    ∙ h m (omega arith)

-- BLOCKS of eight numbers, and of two blocks, from a place on

-- the bits of a number and of those behind it, together
abbrev pub bits : ℕ → List ℕ → ℕ
bits a [] = a
bits a (x ∷ l) = bits (bit_or a x) l

bits_fold : (l : List ℕ) (a : ℕ) → bits a l ≡ fold bit_or a l
bits_fold [] a = refl
bits_fold (x ∷ l) a = bits_fold l (bit_or a x)

-- n numbers, from place i + k on
abbrev some : List ℕ → (i k n : ℕ) → List ℕ
some xs i k zero = []
some xs i k (suc n) = get_or xs (i + k) 0 ∷ some xs i (suc k) n

some_is : (xs : List ℕ) (i n k : ℕ) → i + k + n ≤ length xs → take n (drop (i + k) xs) ≡ some xs i k n
some_is xs i zero k h = refl
some_is xs i (suc n) k h =
    let e : suc (i + k) ≡ i + suc k = omega arith in
    ap (take (suc n)) (drop-cons xs (i + k) 0 (omega arith))
    ∙ ap (λ (m : ℕ). get_or xs (i + k) 0 ∷ take n (drop m xs)) e
    ∙ ap (λ (l : List ℕ). get_or xs (i + k) 0 ∷ l) (some_is xs i n (suc k) (omega arith))

-- eight numbers from place i on
pub eight-none : (xs : List ℕ) (i : ℕ) → i + 8 ≤ length xs → none (bits (get_or xs i 0) (some xs i 1 7)) ≡ all none (take 8 (drop i xs))
eight-none xs i h =
    let e : suc i ≡ i + 1 = omega arith in
    ap none (bits_fold (some xs i 1 7) (get_or xs i 0))
    ∙ bits_none (some xs i 1 7) (get_or xs i 0)
    ∙ ap (λ (l : List ℕ). none (get_or xs i 0) && all none l) (sym (some_is xs i 7 1 (omega arith)))
    ∙ ap (λ (m : ℕ). all none (get_or xs i 0 ∷ take 7 (drop m xs))) (sym e)
    ∙ ap (λ (l : List ℕ). all none (take 8 l)) (sym (drop-cons xs i 0 (omega arith)))

-- two parts that are left out, one behind the other
drop-drop : (m n : ℕ) (xs : List ℕ) → drop m (drop n xs) ≡ drop (n + m) xs
drop-drop m zero xs = ap (λ (k : ℕ). drop k xs) (let e : m ≡ 0 + m = omega arith in e)
drop-drop m (suc n) [] = drop-nil m ∙ sym (drop-nil (suc n + m))
drop-drop m (suc n) (x ∷ xs) = drop-drop m n xs ∙ ap (λ (k : ℕ). drop k (x ∷ xs)) (let e : suc (n + m) ≡ suc n + m = omega arith in e)

-- the bits of two blocks, one behind the other, are those of both
pub pair_none : (xs : List ℕ) (i m n a b : ℕ) → none a ≡ all none (take m (drop i xs)) → none b ≡ all none (take n (drop (i + m) xs)) → none (bit_or a b) ≡ all none (take (m + n) (drop i xs))
pair_none xs i m n a b p q =
    or_none a b
    ∙ ap (λ (t : Bool). t && none b) p
    ∙ ap (λ (t : Bool). all none (take m (drop i xs)) && t) (q ∙ ap (λ (l : List ℕ). all none (take n l)) (sym (drop-drop m i xs)))
    ∙ sym (blocks_none m n (drop i xs))

-- a block before place i passes, and all from there on
pub block_next : (n : ℕ) (xs : List ℕ) (i : ℕ) → n ≤ i → all none (take n (drop (i - n) xs)) ≡ true → all none (drop i xs) ≡ true → all none (drop (i - n) xs) ≡ true
block_next n xs i h p q =
    let e : i - n + n ≡ i = omega arith in
    ap (all none) (sym (take-append-drop n (drop (i - n) xs)))
    ∙ all_append none (take n (drop (i - n) xs)) (drop n (drop (i - n) xs)) p (ap (all none) (drop-drop n (i - n) xs ∙ ap (λ (k : ℕ). drop k xs) e) ∙ q)

-- what all pass, a part passes
all-part : (f : ℕ → Bool) (n i : ℕ) (xs : List ℕ) → all f xs ≡ true → all f (take n (drop i xs)) ≡ true
all-part f zero zero xs h = refl
all-part f (suc n) zero [] h = refl
all-part f (suc n) zero (x ∷ xs) h = let z = both (f x) (all f xs) h in join z.0 (all-part f n zero xs z.1)
all-part f zero (suc i) xs h = refl
all-part f (suc n) (suc i) [] h = refl
all-part f (suc n) (suc i) (x ∷ xs) h = all-part f (suc n) i xs (both (f x) (all f xs) h).1

-- a block that fails: not all pass
pub block_fails : (n : ℕ) (xs : List ℕ) (i : ℕ) → all none (take n (drop i xs)) ≡ false → all none xs ≡ false
block_fails n xs i h = go (all none xs) refl
  where
    go : (b : Bool) → all none xs ≡ b → all none xs ≡ false
    go true e = absurd (false≢true (sym h ∙ all-part none n i xs e))
    go false e = e

-- ITEMS of a walk over the blocks

-- an item that there is passes, and so does the block that it is
pub item_passes : (o : Option (Bor (List ℕ))) (v : Bor (List ℕ)) (b : List ℕ) → option_map (λ y. y) o ≡ Some v → IfSome o (λ x. all none x.now ≡ true) → IfSome o (λ x. x.now ≡ b) → all none b ≡ true
item_passes None v b e p q = absurd (none-some v e)
item_passes (Some x) v b e p q = ap (all none) (sym q) ∙ p

-- an item fails, and so does the block that it is
pub item_fails : (o : Option (Bor (List ℕ))) (b : List ℕ) → IsSomeAnd o (λ x. all none x.now ≡ false) → IfSome o (λ x. x.now ≡ b) → all none b ≡ false
item_fails None b p q = absurd p
item_fails (Some x) b p q = ap (all none) (sym q) ∙ p
