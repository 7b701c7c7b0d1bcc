-- Lines as bytes: what it is to begin with some, and that a printed line begins with no other line of the same number. Assumes nothing.
use Prim.Native.Nat.{ℕ, zero, suc, ◌+◌, ◌-◌, ◌/◌, ◌%◌, ◌<◌}
use mathlib.Core.Path.{◌≡◌, refl, sym, ap, ◌∙◌}
use mathlib.Core.Bool.{Bool, true, false, not, true≢false}
use mathlib.Core.List.{List, [], ◌∷◌, ◌++◌, append_assoc, append-nil}
use native.Mathlib.Omega.{arith}
use lib.Dec.{ltb, eqb}
use lib.ListN.{length, get_or, take, drop, length-append, length-drop, take-append-drop}
use lib.Seq.{take_all, take-append_seam, drop_at}
use borrow.Author.Tests.{eq-eqb, ne_eqb, not-true}
use Rattle.lists.specs.Words.{if◌then◌else◌, all}
use Rattle.lists.specs.WordsLaws.{both, join, all_append}
use Rattle.rules.specs.Answers.{number_of}
use Rattle.rules.specs.declared.Phase.TheVariants.{Reservation, Weight}
use Rattle.rules.specs.declared.Answer.{Answer}
use Rattle.rules.specs.declared.Answer.TheVariants.{Nothing, Sent, Refused}
use Rattle.rules.proofs.Judged.{number_of_once}
use Rattle.lines.specs.Line.{decimal_in, decimal_of, spaced, answer_of, line_of}
use Rattle.lines.proofs.Decimal.{read_back, decimal_back}
use Rattle.trace.proofs.HeaderLaws.{same_is}
use Rattle.judge.specs.Acceptable.{Begins}
use Rattle.judge.specs.Judging.{begins}

-- TO BEGIN WITH

-- what begins with xs is xs and then the rest
pub begins_is : (xs ls : List ℕ) → begins xs ls ≡ true → ls ≡ xs ++ drop (length xs) ls
begins_is xs ls e =
    sym (take-append-drop (length xs) ls) ∙ ap (λ (l : List ℕ). l ++ drop (length xs) ls) (sym ((same_is xs (take (length xs) ls)).0 e))

-- and xs and then anything begins with xs
pub is_begins : (xs rest : List ℕ) → begins xs (xs ++ rest) ≡ true
is_begins xs rest = (same_is xs (take (length xs) (xs ++ rest))).1 (sym (take-append_seam xs rest))

-- the rest, as it is reached
pub behind_begin : (xs rest : List ℕ) → drop (length xs) (xs ++ rest) ≡ rest
behind_begin xs rest = drop_at xs rest (length xs) refl

-- what is lent on from a place is the rest from there
abbrev pub part : (at : ℕ) → List ℕ → List ℕ
part at xs = take (length xs - at) (drop at xs)

pub part-rest : (at : ℕ) (xs : List ℕ) → part at xs ≡ drop at xs
part-rest at xs = take_all (length xs - at) (drop at xs) (omega (arith, length-drop at xs))

-- the test says just that
pub begins-with : (xs ls : List ℕ) → begins xs ls ≡ true → Begins xs ls
begins-with xs ls e = record { rest = drop (length xs) ls; split = begins_is xs ls e }

pub begins_not : (xs ls : List ℕ) → begins xs ls ≡ false → Begins xs ls → ⊥
begins_not xs ls e b = true≢false (sym (ap (begins xs) b.split ∙ is_begins xs b.rest) ∙ e)

-- too few bytes begin with nothing so long
pub begins-short : (xs ls : List ℕ) → length ls < length xs → begins xs ls ≡ false
begins-short xs ls h = go (begins xs ls) refl
  where
    go : (b : Bool) → begins xs ls ≡ b → b ≡ false
    go false e = refl
    go true e = absurd (omega (arith, ap length (begins_is xs ls e), length-append xs (drop (length xs) ls)))

-- A PRINTED LINE

-- is not empty
pub line_long : (n : ℕ) (a : Answer) → 0 < length (line_of n a)
unfolding line_of
line_long n a = rw (length-append (decimal_of n) (32 ∷ (answer_of a ++ (10 ∷ [])))) (omega arith)

-- no byte of xs is b
abbrev pub free : ℕ → List ℕ → Bool
free b xs = all (λ x. not (eqb x b)) xs

-- what stands before the first byte b, and what behind it
abbrev before : ℕ → List ℕ → List ℕ
before b [] = []
before b (x ∷ xs) = if eqb x b then [] else x ∷ before b xs

abbrev after : ℕ → List ℕ → List ℕ
after b [] = []
after b (x ∷ xs) = if eqb x b then xs else after b xs

before_is : (b : ℕ) (xs ys : List ℕ) → free b xs ≡ true → before b (xs ++ b ∷ ys) ≡ xs
before_is b [] ys h = rw (eq-eqb b b refl)
before_is b (x ∷ xs) ys h =
    let c = both (not (eqb x b)) (free b xs) h in
    rw (not-true (eqb x b) c.0) (ap (x ∷◌) (before_is b xs ys c.1))

after_is : (b : ℕ) (xs ys : List ℕ) → free b xs ≡ true → after b (xs ++ b ∷ ys) ≡ ys
after_is b [] ys h = rw (eq-eqb b b refl)
after_is b (x ∷ xs) ys h =
    let c = both (not (eqb x b)) (free b xs) h in
    rw (not-true (eqb x b) c.0) (after_is b xs ys c.1)

-- a byte that is not b
other : (b x : ℕ) → (x ≡ b → ⊥) → not (eqb x b) ≡ true
other b x h = ap not (ne_eqb x b h)

-- digits are 48 and above
pub digits_free : (b : ℕ) → b < 48 → (f n : ℕ) → free b (decimal_in f n) ≡ true
unfolding decimal_in
digits_free b h zero n = join (other b (48 + n) (λ e. omega arith)) refl
digits_free b h (suc f) n = go (ltb n 10) (digits_free b h f (n / 10))
  where
    go : (c : Bool) → free b (decimal_in f (n / 10)) ≡ true → free b (if c then (48 + n) ∷ [] else decimal_in f (n / 10) ++ ((48 + n % 10) ∷ [])) ≡ true
    go true i = join (other b (48 + n) (λ e. omega arith)) refl
    go false i = all_append (λ x. not (eqb x b)) (decimal_in f (n / 10)) ((48 + n % 10) ∷ []) i (join (other b (48 + n % 10) (λ e. omega arith)) refl)

-- so numbers behind spaces have no byte 10
pub spaced-free : (vs : List ℕ) → free 10 (spaced vs) ≡ true
spaced-free [] = refl
spaced-free (v ∷ vs) = all_append (λ x. not (eqb x 10)) (decimal_of v) (spaced vs) (digits_free 10 (omega arith) v v) (spaced-free vs)

-- and an answer has none
pub answer_free : (a : Answer) → free 10 (answer_of a) ≡ true
answer_free Nothing = refl
answer_free (Sent Reservation g i) = spaced-free (g ∷ i ∷ [])
answer_free (Sent Weight g i) = spaced-free (g ∷ i ∷ [])
answer_free (Refused r) = spaced-free (number_of r ∷ [])

-- the first number of an answer, where another follows it, and that other; and the first where none follows
first_of : List ℕ → ℕ
first_of l = read_back 0 (before 32 (drop 2 l))

second_of : List ℕ → ℕ
second_of l = read_back 0 (after 32 (drop 2 l))

only_of : List ℕ → ℕ
only_of l = read_back 0 (drop 2 l)

guest-back : (b g i : ℕ) → first_of (b ∷ spaced (g ∷ i ∷ [])) ≡ g
unfolding first_of
guest-back b g i = ap (read_back 0) (before_is 32 (decimal_of g) (decimal_of i ++ []) (digits_free 32 (omega arith) g g)) ∙ decimal_back g

id_back : (b g i : ℕ) → second_of (b ∷ spaced (g ∷ i ∷ [])) ≡ i
unfolding second_of
id_back b g i = ap (read_back 0) (after_is 32 (decimal_of g) (decimal_of i ++ []) (digits_free 32 (omega arith) g g) ∙ append-nil (decimal_of i)) ∙ decimal_back i

number_back : (b n : ℕ) → only_of (b ∷ spaced (n ∷ [])) ≡ n
unfolding only_of
number_back b n = ap (read_back 0) (append-nil (decimal_of n)) ∙ decimal_back n

-- the letter
head : List ℕ → ℕ
head l = get_or l 0 0

-- an answer is what its bytes say
answer_once : (a b : Answer) → answer_of a ≡ answer_of b → a ≡ b
unfolding head
answer_once Nothing Nothing e = refl
answer_once Nothing (Sent Reservation g i) e = absurd (omega (arith, ap head e))
answer_once Nothing (Sent Weight g i) e = absurd (omega (arith, ap head e))
answer_once Nothing (Refused r) e = absurd (omega (arith, ap head e))
answer_once (Sent Reservation g i) Nothing e = absurd (omega (arith, ap head e))
answer_once (Sent Reservation g i) (Sent Reservation h j) e =
    λ k. Sent Reservation ((sym (guest-back 82 g i) ∙ ap first_of e ∙ guest-back 82 h j) k) ((sym (id_back 82 g i) ∙ ap second_of e ∙ id_back 82 h j) k)
answer_once (Sent Reservation g i) (Sent Weight h j) e = absurd (omega (arith, ap head e))
answer_once (Sent Reservation g i) (Refused r) e = absurd (omega (arith, ap head e))
answer_once (Sent Weight g i) Nothing e = absurd (omega (arith, ap head e))
answer_once (Sent Weight g i) (Sent Reservation h j) e = absurd (omega (arith, ap head e))
answer_once (Sent Weight g i) (Sent Weight h j) e =
    λ k. Sent Weight ((sym (guest-back 87 g i) ∙ ap first_of e ∙ guest-back 87 h j) k) ((sym (id_back 87 g i) ∙ ap second_of e ∙ id_back 87 h j) k)
answer_once (Sent Weight g i) (Refused r) e = absurd (omega (arith, ap head e))
answer_once (Refused r) Nothing e = absurd (omega (arith, ap head e))
answer_once (Refused r) (Sent Reservation g i) e = absurd (omega (arith, ap head e))
answer_once (Refused r) (Sent Weight g i) e = absurd (omega (arith, ap head e))
answer_once (Refused r) (Refused s) e = ap Refused (number_of_once r s (sym (number_back 88 (number_of r)) ∙ ap only_of e ∙ number_back 88 (number_of s)))

-- what stands in a line behind its number and a space
line_split : (n : ℕ) (a : Answer) (x : List ℕ) → line_of n a ++ x ≡ decimal_of n ++ (32 ∷ (answer_of a ++ 10 ∷ x))
unfolding line_of
line_split n a x =
    append_assoc (decimal_of n) (32 ∷ (answer_of a ++ (10 ∷ []))) x ∙ ap (λ (l : List ℕ). decimal_of n ++ (32 ∷ l)) (append_assoc (answer_of a) (10 ∷ []) x)

-- Where bytes begin with two lines of the same number, the lines are of the same answer: a printed line ends with byte 10 and has no other.
pub line_once : (n : ℕ) (a b : Answer) (x y : List ℕ) → line_of n a ++ x ≡ line_of n b ++ y → a ≡ b
line_once n a b x y e = answer_once a b (sym (answer a x) ∙ ap (λ (l : List ℕ). before 10 (drop 1 (drop (length (decimal_of n)) l))) e ∙ answer b y)
  where
    answer : (c : Answer) (z : List ℕ) → before 10 (drop 1 (drop (length (decimal_of n)) (line_of n c ++ z))) ≡ answer_of c
    answer c z =
        ap (λ (l : List ℕ). before 10 (drop 1 (drop (length (decimal_of n)) l))) (line_split n c z)
        ∙ ap (λ (l : List ℕ). before 10 (drop 1 l)) (behind_begin (decimal_of n) (32 ∷ (answer_of c ++ 10 ∷ z)))
        ∙ before_is 10 (answer_of c) z (answer_free c)
