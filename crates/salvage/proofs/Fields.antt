-- What becomes of one event, by its fields: what it depends on, and what it says. Assumes nothing.
use Prim.Native.Nat.{ℕ, ◌+◌, ◌≤◌, ◌<◌}
use mathlib.Core.Path.{◌≡◌, refl, sym, ap, ◌∙◌}
use mathlib.Core.Bool.{Bool, true, false, ◌&&◌}
use mathlib.Core.List.{List, ◌++◌}
use native.Mathlib.Omega.{arith}
use lib.Dec.{eqb, ltb}
use lib.ListN.{length, take, length-append, get_or-append}
use lib.Seq.{length-take-le}
use borrow.Author.Tests.{le-ltb}
use Rattle.lists.specs.Words.{if◌then◌else◌}
use Rattle.rules.specs.Numbers.{ceiling}
use Rattle.rules.specs.Events.{moment}
use Rattle.rules.specs.declared.Event.TheVariants.{Arrival, Completion, Tick}
use Rattle.trace.specs.Little.{byte_at, four_at, eight_at}
use Rattle.trace.specs.Event.{kind_in, upper_in, event_from, event_of, Read}
use Rattle.trace.proofs.EventLaws.{event_same, event_take}
use Rattle.moved.specs.Moves.{is_bad}
use Rattle.salvage.specs.Fates.{farthest, from_last, by_time, by_read, fate_of, reason_in, Fate, Last, reason_number}
use Rattle.std.specs.Prelude.{Some as One, None, Ok, Err}
use Rattle.salvage.specs.declared.Reason.TheVariants.{Bad, Above, Cut, Behind, Ahead}
use Rattle.salvage.specs.declared.Reason.{Reason}

-- THE TIME

-- the time that was read, or another number where the event is bad
abbrev moment_or : ℕ → Read → ℕ
moment_or d (One e) = moment e
moment_or d None = d

-- is that of the bytes
moment_from : (k u g i t : ℕ) → moment_or t (event_from k u g i t) ≡ t
unfolding event_from
moment_from k u g i t = go (eqb k 0) (eqb k 1 && eqb u 0) (eqb k 2 && eqb u 0 && eqb g 0 && eqb i 0)
  where
    go : (a b c : Bool)
        → moment_or t
        (if a then One (Arrival (record { guest = g; id = i; cost = u + 1; delta = 1; rho = 1 }) t)
        else if b then One (Completion (record { guest = g; id = i }) t)
        else if c then One (Tick t)
        else None)
        ≡ t
    go true b c = refl
    go false true c = refl
    go false false true = refl
    go false false false = refl

moment-of : (v : ℕ) (bs : List ℕ) → moment_or (eight_at bs 6) (event_of v bs) ≡ eight_at bs 6
unfolding event_of
moment-of v bs = moment_from (kind_in v (byte_at bs 0)) (upper_in v (byte_at bs 0)) (byte_at bs 1) (four_at bs 2) (eight_at bs 6)

-- by what was read and its time
by_read_lem : (l : Last) (d : ℕ) (r : Read) → by_read l r ≡ (if is_bad r then Err Bad else by_time l (moment_or d r))
by_read_lem l d (One e) = refl
by_read_lem l d None = refl

-- BY THE FIELDS: the reasons in their order
pub fate_is : (v : ℕ) (l : Last) (bs : List ℕ)
    → fate_of v l bs
    ≡ (if ltb (length bs) 14 then Err Cut else if is_bad (event_of v bs) then Err Bad else if ltb ceiling (eight_at bs 6) then Err Above else from_last l (eight_at bs 6))
unfolding fate_of
fate_is v l bs =
    ap (λ (f : Fate). if ltb (length bs) 14 then Err Cut else f)
    (by_read_lem l (eight_at bs 6) (event_of v bs)
    ∙ ap (λ (t : ℕ). if is_bad (event_of v bs) then Err Bad else by_time l t) (moment-of v bs))

-- A REASON is above 0
pub reason_some : (r : Reason) → 0 < reason_number r
reason_some Bad = omega arith
reason_some Above = omega arith
reason_some Behind = omega arith
reason_some Ahead = omega arith
reason_some Cut = omega arith

-- so it is in what becomes of an event
abbrev pub Some : Fate → Type 0
Some (Ok t) = Unit {0}
Some (Err r) = 0 < reason_number r

pub some : (v : ℕ) (l : Last) (bs : List ℕ) → Some (fate_of v l bs)
some v l bs = go (fate_of v l bs)
  where
    go : (f : Fate) → Some f
    go (Ok t) = tt
    go (Err r) = reason_some r

-- where it is none, the event is kept
pub kept_by : (f : Fate) → reason_in f ≡ 0 → (t : ℕ) × (f ≡ Ok t)
kept_by (Ok t) e = (t, refl)
kept_by (Err r) e = absurd (omega (arith, reason_some r))

-- A KEPT EVENT has its own time

kept_peel : (b : Bool) (x : Reason) (f : Fate) (t : ℕ) → (if b then Err x else f) ≡ Ok t → f ≡ Ok t
kept_peel true x f t e = let z : ◌≡◌ {A = ℕ} 0 1 = cc in absurd (omega arith)
kept_peel false x f t e = e

time_in : Fate → ℕ
time_in (Ok t) = t
time_in (Err r) = 0

kept_last : (l : Last) (u t : ℕ) → from_last l u ≡ Ok t → u ≡ t
unfolding time_in
kept_last None u t e = ap time_in e
kept_last (One w) u t e = ap time_in (kept_peel (ltb (w + farthest) u) Ahead (Ok u) t (kept_peel (ltb u w) Behind _ t e))

pub kept_time : (v : ℕ) (l : Last) (bs : List ℕ) (t : ℕ) → fate_of v l bs ≡ Ok t → eight_at bs 6 ≡ t
kept_time v l bs t e =
    kept_last l (eight_at bs 6) t
    (kept_peel (ltb ceiling (eight_at bs 6)) Above _ t
    (kept_peel (is_bad (event_of v bs)) Bad _ t
    (kept_peel (ltb (length bs) 14) Cut _ t (sym (fate_is v l bs) ∙ e))))

-- ITS FIRST 14 BYTES alone count

pub fate_append : (v : ℕ) (l : Last) (xs ys : List ℕ) → 14 ≤ length xs → fate_of v l (xs ++ ys) ≡ fate_of v l xs
unfolding fate_of
fate_append v l xs ys h =
    let long : ltb (length (xs ++ ys)) 14 ≡ false = le-ltb (length (xs ++ ys)) 14 (omega (arith, length-append xs ys)) in
    rw (long, le-ltb (length xs) 14 h) (ap (by_read l) (event_same v (xs ++ ys) xs (λ i k. get_or-append xs ys 0 i (omega arith))))

pub fate_take : (v : ℕ) (l : Last) (bs : List ℕ) → 14 ≤ length bs → fate_of v l (take 14 bs) ≡ fate_of v l bs
unfolding fate_of
fate_take v l bs h =
    let short : ltb (length (take 14 bs)) 14 ≡ false = le-ltb (length (take 14 bs)) 14 (omega (arith, length-take-le 14 bs h)) in
    rw (short, le-ltb (length bs) 14 h) (ap (by_read l) (event_take v bs))
