-- The first event of which a test tells: runs of events join, and where there is none, it tells of none of them. Assumes nothing.
use Prim.Native.Nat.{ℕ, zero, suc, ◌+◌, ◌*◌, ◌-◌, ◌<◌}
use mathlib.Core.Path.{◌≡◌, refl, sym, ap, ◌∙◌}
use mathlib.Core.Bool.{Bool, true, false, false≢true, true≢false}
use mathlib.Core.List.{List, [], ◌∷◌, ◌++◌}
use native.Mathlib.Omega.{arith}
use native.Mathlib.Nat.{add-zero}
use lib.Dec.{ltb}
use lib.ListN.{length, drop}
use lib.Seq.{drop-drop}
use borrow.Author.Tests.{lt-ltb}
use Rattle.lists.specs.Words.{if◌then◌else◌}
use Rattle.trace.specs.Event.{event_of, events_of, Read}
use Rattle.trace.proofs.EventLaws.{events_add, events_snoc, length-events}
use Rattle.std.specs.Prelude.{Option, Some, None, MatchOption, is_some}
use Rattle.std.specs.Option.{option_or}
use Rattle.std.specs.declared.num.NonZeroU64.{NonZeroU64}
use Rattle.moved.specs.Moves.{first_that, sooner, event_number}

module _ (f : Read → Bool) where
  -- two runs
  first-append : (n : ℕ) (xs ys : List Read)
      → first_that f n (xs ++ ys) ≡ (if ltb 0 (first_that f n xs) then first_that f n xs else first_that f (n + length xs) ys)
  unfolding first_that
  first-append n [] ys = rw add-zero
  first-append n (x ∷ xs) ys = go (f x) (first-append (n + 1) xs ys)
    where
      later : ℕ → ℕ → ℕ
      later a k = if ltb 0 a then a else first_that f k ys

      go : (b : Bool) → first_that f (n + 1) (xs ++ ys) ≡ later (first_that f (n + 1) xs) (n + 1 + length xs)
          → (if b then n + 1 else first_that f (n + 1) (xs ++ ys)) ≡ later (if b then n + 1 else first_that f (n + 1) xs) (n + suc (length xs))
      go true i = rw (lt-ltb 0 (n + 1) (omega arith))
      go false i = let e : n + 1 + length xs ≡ n + suc (length xs) = omega arith in i ∙ ap (later (first_that f (n + 1) xs)) e

  -- one event more
  pub first_more : (v k : ℕ) (bs : List ℕ)
      → first_that f 0 (events_of v (k + 1) bs) ≡ sooner (first_that f 0 (events_of v k bs)) (f (event_of v (drop (k * 14) bs))) (k + 1)
  unfolding first_that
  first_more v k bs =
      let e = event_of v (drop (k * 14) bs) in
      let x = first_that f 0 (events_of v k bs) in
      let n : 0 + length (events_of v k bs) + 1 ≡ k + 1 = omega (arith, length-events v k bs) in
      ap (first_that f 0) (events_snoc v k bs)
      ∙ first-append 0 (events_of v k bs) (e ∷ [])
      ∙ ap (λ (j : ℕ). if ltb 0 x then x else (if f e then j else 0)) n

  -- none among so many, and then one
  pub first-here : (v k n : ℕ) (bs : List ℕ) → k < n → first_that f 0 (events_of v k bs) ≡ 0 → f (event_of v (drop (k * 14) bs)) ≡ true
      → first_that f 0 (events_of v n bs) ≡ k + 1
  unfolding first_that events_of
  first-here v k n bs h none tells =
      let m = n - suc k in
      let e : n ≡ k + suc m = omega arith in
      let later = events_of v m (drop 14 (drop (k * 14) bs)) in
      let rest = event_of v (drop (k * 14) bs) ∷ later in
      let l : 0 + length (events_of v k bs) + 1 ≡ k + 1 = omega (arith, length-events v k bs) in
      ap (λ (j : ℕ). first_that f 0 (events_of v j bs)) e
      ∙ ap (first_that f 0) (events_add v k (suc m) bs)
      ∙ first-append 0 (events_of v k bs) rest
      ∙ ap (λ (j : ℕ). if ltb 0 j then j else first_that f (0 + length (events_of v k bs)) rest) none
      ∙ ap (λ (b : Bool). if b then 0 + length (events_of v k bs) + 1 else first_that f (0 + length (events_of v k bs) + 1) later) tells
      ∙ l

  -- where there is none, it tells of none
  none_from : (m v n : ℕ) (bs : List ℕ) → first_that f m (events_of v n bs) ≡ 0 → (k : ℕ) → k < n → f (event_of v (drop (k * 14) bs)) ≡ false
  unfolding first_that events_of
  none_from m v zero bs z k h = absurd (omega arith)
  none_from m v (suc n) bs z k h = go (f (event_of v bs)) refl (none_from (m + 1) v n (drop 14 bs)) k h
    where
      go : (b : Bool) → f (event_of v bs) ≡ b
          → (first_that f (m + 1) (events_of v n (drop 14 bs)) ≡ 0 → (k : ℕ) → k < n → f (event_of v (drop (k * 14) (drop 14 bs))) ≡ false)
          → (k : ℕ) → k < suc n → f (event_of v (drop (k * 14) bs)) ≡ false
      go true e later k h =
          let w : m + 1 ≡ 0 = rw e at z in
          absurd (omega arith)
      go false e later zero h = e
      go false e later (suc k) h =
          let w : first_that f (m + 1) (events_of v n (drop 14 bs)) ≡ 0 = rw e at z in
          let p : 14 + k * 14 ≡ suc k * 14 = omega arith in
          ap (λ (l : List ℕ). f (event_of v l)) (ap (λ (j : ℕ). drop j bs) (sym p) ∙ sym (drop-drop (k * 14) 14 bs))
          ∙ later w k (omega arith)

  pub none-tells : (v n : ℕ) (bs : List ℕ) → first_that f 0 (events_of v n bs) ≡ 0 → (k : ℕ) → k < n → f (event_of v (drop (k * 14) bs)) ≡ false
  none-tells = none_from 0

  -- and the other way round
  none-again : (m v n : ℕ) (bs : List ℕ) → ((k : ℕ) → k < n → f (event_of v (drop (k * 14) bs)) ≡ false) → first_that f m (events_of v n bs) ≡ 0
  unfolding first_that events_of
  none-again m v zero bs h = refl
  none-again m v (suc n) bs h =
      rw (h 0 (omega arith))
      (none-again (m + 1) v n (drop 14 bs)
      (λ k l.
      let p : 14 + k * 14 ≡ suc k * 14 = omega arith in
      ap (λ (x : List ℕ). f (event_of v x)) (drop-drop (k * 14) 14 bs ∙ ap (λ (j : ℕ). drop j bs) p) ∙ h (suc k) (omega arith)))

  pub none_told : (v n : ℕ) (bs : List ℕ) → ((k : ℕ) → k < n → f (event_of v (drop (k * 14) bs)) ≡ false) → first_that f 0 (events_of v n bs) ≡ 0
  none_told = none-again 0

-- THE NUMBER of an event

-- of one that is made of a number
pub made-number : (o : Option NonZeroU64) (n : ℕ) → MatchOption o (n ≡ 0) (λ k. k.value ≡ n) → event_number o ≡ n
made-number None n h = sym h
made-number (Some k) n h = h

-- of the sooner of two
pub sooner_or : (a b : Option NonZeroU64) → event_number (option_or a b) ≡ sooner (event_number a) true (event_number b)
sooner_or None b = refl
sooner_or (Some k) b = rw (lt-ltb 0 k.value k.ok) refl

-- of the one that was found, where there is no other
pub sooner_not : (n k : ℕ) → sooner n false k ≡ n
sooner_not zero k = refl
sooner_not (suc n) k = rw (lt-ltb 0 (suc n) (omega arith)) refl

-- of one that there is, and of none
pub some-number : (o : Option NonZeroU64) → is_some o ≡ true → 0 < event_number o
some-number None e = absurd (false≢true e)
some-number (Some k) e = k.ok

pub none-number : (o : Option NonZeroU64) → is_some o ≡ false → event_number o ≡ 0
none-number None e = refl
none-number (Some k) e = absurd (true≢false e)
