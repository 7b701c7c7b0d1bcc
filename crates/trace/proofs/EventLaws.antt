-- The event at the front of bytes, and a run of events: bytes behind them make no difference, and runs join. Assumes nothing.
use Prim.Native.Nat.{ℕ, zero, suc, ◌+◌, ◌*◌, ◌≤◌, ◌<◌}
use mathlib.Core.Path.{◌≡◌, refl, ap}
use mathlib.Core.Bool.{Bool, not, ◌&&◌, ◌||◌}
use mathlib.Core.List.{List, [], ◌∷◌, ◌++◌}
use native.Mathlib.Omega.{arith}
use native.Mathlib.Nat.{zero-add, suc-add, div-add-mod'}
use lib.Dec.{ltb, eqb}
use lib.ListN.{length, take, drop, length-drop, get_or-append}
use lib.Seq.{get_or-take, drop-drop, drop-append-le}
use borrow.Author.Tests.{ne_eqb, lt-ltb}
use Rattle.lists.specs.Words.{if◌then◌else◌}
use Rattle.trace.specs.Little.{byte_at, four_at, eight_at}
use Rattle.trace.specs.Event.{read_shown, kind_in, upper_in, event_byte, event_from, event_of, events_of}

-- THE FIRST BYTE, taken apart and built

-- it is built of what it is taken apart into
pub byte_built : (b : ℕ) → event_byte (kind_in 2 b) (upper_in 2 b) ≡ b
unfolding kind_in upper_in
byte_built b = div-add-mod' b 4

-- and taken apart into what it is built of
pub kind-of_built : (k u : ℕ) → k < 4 → kind_in 2 (event_byte k u) ≡ k
unfolding kind_in
kind-of_built k u h = omega arith

pub upper_of_built : (k u : ℕ) → k < 4 → upper_in 2 (event_byte k u) ≡ u
unfolding upper_in
upper_of_built k u h = omega arith

-- AN EVENT

-- the event of its fields
pub event_by : (v : ℕ) (bs : List ℕ) (k u g i t : ℕ) → k ≡ kind_in v (byte_at bs 0) → u ≡ upper_in v (byte_at bs 0) → g ≡ byte_at bs 1 → i ≡ four_at bs 2
    → t ≡ eight_at bs 6 → event_from k u g i t ≡ event_of v bs
unfolding event_of
event_by v bs k u g i t m n o p q = rw (m, n, o, p, q)

-- "event kind above 2, or a tick with non-zero guest or id", and by K9 "a non-zero upper part" of what is no arrival
abbrev pub is_bad : (kind upper guest id : ℕ) → Bool
is_bad kind upper guest id = ltb 2 kind || (not (eqb kind 0) && not (eqb upper 0)) || (eqb kind 2 && not (eqb guest 0 && eqb id 0))

-- what is shown of the cost: of an arrival one more than the upper part, none of another event
abbrev pub cost_shown : (kind upper : ℕ) → ℕ
cost_shown kind upper = if eqb kind 0 then upper + 1 else 0

-- and of delta and rho: 1 of an arrival, none of another event
abbrev pub count_shown : (kind : ℕ) → ℕ
count_shown kind = if eqb kind 0 then 1 else 0

from_shown : (k u g i t : ℕ) → read_shown (event_from k u g i t) ≡ (if is_bad k u g i then 14 ∷ [] else k ∷ g ∷ i ∷ t ∷ cost_shown k u ∷ count_shown k ∷ count_shown k ∷ [])
unfolding event_from
from_shown zero u g i t = refl
from_shown (suc zero) zero g i t = refl
from_shown (suc zero) (suc u) g i t = simp (ne_eqb (suc u) 0 (λ e. omega arith))
from_shown (suc (suc zero)) (suc u) g i t = simp (ne_eqb (suc u) 0 (λ e. omega arith))
from_shown (suc (suc zero)) zero zero zero t = refl
from_shown (suc (suc zero)) zero zero (suc i) t = simp (ne_eqb (suc i) 0 (λ e. omega arith))
from_shown (suc (suc zero)) zero (suc g) i t = simp (ne_eqb (suc g) 0 (λ e. omega arith))
from_shown (suc (suc (suc k))) u g i t =
    let n = suc (suc (suc k)) in
    simp (ne_eqb n 0 (λ e. omega arith), ne_eqb n 1 (λ e. omega arith), ne_eqb n 2 (λ e. omega arith), lt-ltb 2 n (omega arith))

-- an event is what its bytes say, field by field, or it is bad
pub event_shown : (v : ℕ) (bs : List ℕ)
    → read_shown (event_of v bs)
    ≡ (if is_bad (kind_in v (byte_at bs 0)) (upper_in v (byte_at bs 0)) (byte_at bs 1) (four_at bs 2) then 14 ∷ [] else kind_in v (byte_at bs 0) ∷ byte_at bs 1 ∷ four_at bs 2 ∷ eight_at bs 6 ∷ cost_shown (kind_in v (byte_at bs 0)) (upper_in v (byte_at bs 0)) ∷ count_shown (kind_in v (byte_at bs 0)) ∷ count_shown (kind_in v (byte_at bs 0)) ∷ [])
unfolding event_of
event_shown v bs = from_shown (kind_in v (byte_at bs 0)) (upper_in v (byte_at bs 0)) (byte_at bs 1) (four_at bs 2) (eight_at bs 6)

-- two lists whose first 14 bytes are the same have the same event at their front
pub event_same : (v : ℕ) (xs ys : List ℕ) → ((i : ℕ) → i < 14 → byte_at xs i ≡ byte_at ys i) → event_of v xs ≡ event_of v ys
unfolding event_of
event_same v xs ys h =
    rw (h 0 (omega arith), h 1 (omega arith), h 2 (omega arith), h 3 (omega arith), h 4 (omega arith), h 5 (omega arith), h 6 (omega arith), h 7 (omega arith), h 8 (omega arith), h 9 (omega arith), h 10 (omega arith), h 11 (omega arith), h 12 (omega arith), h 13 (omega arith))

-- a part of 14 bytes has the event
pub event_take : (v : ℕ) (bs : List ℕ) → event_of v (take 14 bs) ≡ event_of v bs
event_take v bs = event_same v (take 14 bs) bs (λ i h. get_or-take 14 bs i 0 h)

event_append : (v : ℕ) (xs ys : List ℕ) → 14 ≤ length xs → event_of v (xs ++ ys) ≡ event_of v xs
event_append v xs ys l = event_same v (xs ++ ys) xs (λ i h. get_or-append xs ys 0 i (omega arith))

-- m events and then k events are m + k events
pub events_add : (v m k : ℕ) (bs : List ℕ) → events_of v (m + k) bs ≡ events_of v m bs ++ events_of v k (drop (m * 14) bs)
unfolding events_of
events_add v zero k bs = rw zero-add
events_add v (suc m) k bs =
    let e : suc m * 14 ≡ 14 + m * 14 = omega arith in
    rw (suc-add, e, ← drop-drop) (ap (event_of v bs ∷◌) (events_add v m k (drop 14 bs)))

-- one event more
pub events_snoc : (v k : ℕ) (bs : List ℕ) → events_of v (k + 1) bs ≡ events_of v k bs ++ (event_of v (drop (k * 14) bs) ∷ [])
unfolding events_of
events_snoc v k bs = events_add v k 1 bs

-- the bytes behind the events do not count
pub events-append : (v k : ℕ) (xs ys : List ℕ) → k * 14 ≤ length xs → events_of v k (xs ++ ys) ≡ events_of v k xs
unfolding events_of
events-append v zero xs ys h = refl
events-append v (suc k) xs ys h =
    let l : 14 ≤ length xs = omega arith in
    let m : k * 14 ≤ length (drop 14 xs) = rw length-drop (omega arith) in
    rw (event_append v xs ys l, drop-append-le 14 xs ys l) (ap (event_of v xs ∷◌) (events-append v k (drop 14 xs) ys m))

pub length-events : (v k : ℕ) (bs : List ℕ) → length (events_of v k bs) ≡ k
unfolding events_of
length-events v zero bs = refl
length-events v (suc k) bs = ap suc (length-events v k (drop 14 bs))
