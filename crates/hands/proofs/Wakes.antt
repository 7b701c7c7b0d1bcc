-- K2 through C: the fifth number of an accepted call is when to wake the gate that it leaves, all bits one where no tick would ever send; of a
-- refusal it is 0. Assumes nothing.
use Rattle.std.specs.Prelude.{Some, None, Option}
use Prim.Native.Nat.{ℕ}
use mathlib.Core.Path.{◌≡◌, refl, sym, ap, subst}
use mathlib.Core.Bool.{true}
use mathlib.Core.List.{List}
use native.Mathlib.Omega.{arith}
use lib.ListN.{length}
use Rattle.rules.specs.Tables.{Table}
use Rattle.turns.specs.Woken.{Wakes}
use Rattle.rules.specs.declared.Event.{Event}
use Rattle.rules.specs.declared.Refusal.{Refusal}
use Rattle.rules.specs.declared.Phase.TheVariants.{Reservation, Weight}
use Rattle.rules.specs.declared.Answer.{Answer}
use Rattle.rules.specs.declared.Answer.TheVariants.{Nothing, Sent, Refused}
use Rattle.gate.specs.Promise.{numbers, called, opened, HandedIn}
use Rattle.gate.specs.Calls.{Host, shows, call, firm}
use Rattle.gate.proofs.Lending.{numbers-lawful}
use Rattle.gate.proofs.Refusing.{refusal_keeps, opening_keeps}
use Rattle.gate.proofs.Wakes.{calls_wake, opening-wakes}
use Rattle.gate.specs.Replies.{fifth_of, never, reply_of}
use Rattle.hands.specs.Host.{gate_in, hosted}
use Rattle.hands.specs.Calls.{Lent, inside, shown_by, through, kept, Refuses, Takes}
use Rattle.hands.proofs.Once.{Timely}
use Rattle.hands.proofs.Runs.{call_back, takes_is}

-- a time to wake of a table is at most the ceiling, so it is never all bits one
timely : (w : Option ℕ) (t : Table) → Wakes t w → Timely w
timely (Some n) t x = x.at_most
timely None t x = tt

-- An accepted call, on tables that are long enough and sound.
pub through-wakes : (h : Lent) (e : Event) → length h.seven ≡ 7 → firm numbers (inside h) ≡ true → Takes (through e h).0
    → (w : Option ℕ) × Wakes (shown_by (kept (through e h))) w × Timely w × ((through e h).0.wake ≡ fifth_of w)
through-wakes h e seven f t =
    let x = call numbers e (inside h) in
    let w = x.0.wake in
    let k : Wakes (shown_by (kept (through e h))) w = subst (λ (u : Host numbers). Wakes (shows numbers u) w) (sym (call_back h seven e)) (calls_wake numbers numbers-lawful (inside h) e f ((takes_is x.0.answer w).0 t)) in
    (w, k, timely w (shown_by (kept (through e h))) k, refl)

-- An accepted opening: nothing waits.
pub through-opening-wakes : (seven : List ℕ) (d n c rule : ℕ) (ss gs ws fs : List ℕ) → Takes (hosted seven (opened d n c rule ss gs ws fs)).0 → (hosted seven (opened d n c rule ss gs ws fs)).0.wake ≡ never
through-opening-wakes seven d n c rule ss gs ws fs t =
    let x = opened d n c rule ss gs ws fs in
    ap fifth_of (opening-wakes numbers numbers-lawful d n c rule ss gs ws fs ((takes_is x.0.answer x.0.wake).0 t))

-- kind 3 is a refusal's
is_refused : (a : Answer) (w : Option ℕ) (n : ℕ) → Refuses (reply_of a w) n → ((r : Refusal) → a ≡ Refused r → w ≡ Some 0) → fifth_of w ≡ 0
is_refused Nothing w n p k = absurd (omega (arith, p.0))
is_refused (Sent Reservation g i) w n p k = absurd (omega (arith, p.0))
is_refused (Sent Weight g i) w n p k = absurd (omega (arith, p.0))
is_refused (Refused r) w n p k = ap fifth_of (k r refl)

-- A refused call.
pub through-refused-wakes : (h : Lent) (e : Event) (n : ℕ) → Refuses (through e h).0 n → (through e h).0.wake ≡ 0
through-refused-wakes h e n p =
    let x = called e (gate_in h.seven) h.guests h.waiting h.flight in
    is_refused x.0.answer x.0.wake n p (λ r q. ap (λ (c : HandedIn numbers). c.0.wake) (refusal_keeps numbers e (gate_in h.seven) h.guests h.waiting h.flight r q))

-- And a refused opening.
pub through-refused-opening-wakes : (seven : List ℕ) (d n c rule : ℕ) (ss gs ws fs : List ℕ) (m : ℕ) → Refuses (hosted seven (opened d n c rule ss gs ws fs)).0 m → (hosted seven (opened d n c rule ss gs ws fs)).0.wake ≡ 0
through-refused-opening-wakes seven d n c rule ss gs ws fs m p =
    let x = opened d n c rule ss gs ws fs in
    is_refused x.0.answer x.0.wake m p (λ why q. ap (λ (k : HandedIn numbers). k.0.wake) (opening_keeps numbers d n c rule ss gs ws fs why q))
