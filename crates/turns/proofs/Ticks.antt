-- Demand 3 is not idle: from a sound table ticks are accepted and find the free places, so as many of them as it takes do send the request.
-- Assumes nothing.
use mathlib.Core.Path.{◌≡◌, refl, ap}
use mathlib.Core.Bool.{true, false}
use mathlib.Core.List.{List, ◌∷◌, ◌++◌}
use Prim.Native.Nat.{ℕ, zero, suc, ◌+◌, ◌≤◌}
use native.Mathlib.Omega.{arith}
use lib.ListN.{length, get_or, replicate, length-append}
use borrow.Author.Tests.{le-ltb, lt-ltb}
use Rattle.lists.specs.Words.{if◌then◌else◌}
use Rattle.lists.specs.WordsLaws.{join}
use Rattle.rules.specs.Numbers.{ceiling}
use Rattle.rules.specs.Tables.{Request, Table}
use Rattle.rules.specs.declared.Setup.{Setup}
use Rattle.rules.specs.Sound.{sound}
use Rattle.rules.specs.Choice.{Result, Pick, nobody, picked, least, due, open?, sending, dropped, by_weight, by_reservation, room, choice}
use Rattle.rules.specs.Events.{wait, enter}
use Rattle.rules.specs.declared.Event.TheVariants.{Tick}
use Rattle.rules.specs.Refusals.{event_tests, accepted}
use Rattle.rules.specs.Run.{step}
use Rattle.turns.specs.Turn.{is_due, ahead, finds_room, at_free, sent_by_reservation}
use Rattle.rules.specs.declared.Answer.TheVariants.{Nothing}
use Rattle.rules.proofs.StepSound.{accepted-step, step-sound}
use Rattle.turns.proofs.Demand3.{demand_3_at}

-- a sound table accepts a tick at any time from its own to the ceiling
pub not_idle : (t : Table) (n : ℕ) → sound t ≡ true → t.time ≤ n → n ≤ ceiling → accepted t (Tick n) ≡ true
unfolding event_tests
not_idle t n s h k = rw (s, le-ltb ceiling n, le-ltb n t.time)

-- and where a place is free, the tick finds it
pub tick_finds-room : (t : Table) (n : ℕ) → sound t ≡ true → t.time ≤ n → n ≤ ceiling → room t ≡ true → finds_room t (Tick n) ≡ true
unfolding enter wait room
tick_finds-room t n s h k r = join (not_idle t n s h k) r

-- r keeps the setup and the time of t, and sends at most one
record Modest (t : Table) (r : Result) : Type 0 where
  setup_kept : r.table.setup ≡ t.setup
  time_kept : r.table.time ≡ t.time
  one_more : length r.table.flight ≤ suc (length t.flight)

-- such is the weight phase
modest_weight : (t : Table) (k : Pick) → Modest t (by_weight t k)
unfolding by_weight dropped sending
modest_weight t nobody = record { setup_kept = refl; time_kept = refl; one_more = omega arith }
modest_weight t (picked q w) = record { setup_kept = refl; time_kept = refl; one_more = simp length-append (omega arith) }

-- and the reservation phase
modest_reservation : (t : Table) (k : Pick) → Modest t (by_reservation t k)
unfolding by_reservation sending
modest_reservation t nobody = modest_weight t (least (open? t) Request.stag t.waiting)
modest_reservation t (picked q w) = record { setup_kept = refl; time_kept = refl; one_more = simp length-append (omega arith) }

-- so the choice
modest_choice : (t : Table) → Modest t (choice t)
unfolding choice
modest_choice t =
    let k = modest_reservation t (least (due t) Request.rtag t.waiting) in
    elim (room t) as (λ b. Modest t (if b then by_reservation t (least (due t) Request.rtag t.waiting) else record { table = t; answer = Nothing }))
    [ true ↦ k | false ↦ record { setup_kept = refl; time_kept = refl; one_more = omega arith } ]

-- and so an accepted tick
modest_tick : (t : Table) (n : ℕ) → accepted t (Tick n) ≡ true → Modest (wait n t) (step t (Tick n))
unfolding enter
modest_tick t n h = rw (accepted-step t (Tick n) h) (modest_choice (wait n t))

-- each of m ticks at one time finds a place free, where m places are free
ticks_count : (m : ℕ) (t : Table) (n : ℕ) → sound t ≡ true → t.time ≤ n → n ≤ ceiling → length t.flight + m ≤ t.setup.depth
    → length (at_free t (replicate m (Tick n))) ≡ m
unfolding at_free wait room
ticks_count zero t n s h k r = refl
ticks_count (suc m) t n s h k r =
    let u = (step t (Tick n)).table in
    let i = modest_tick t n (not_idle t n s h k) in
    let f = tick_finds-room t n s h k (lt-ltb (length t.flight) t.setup.depth (omega arith)) in
    let d : u.setup.depth ≡ t.setup.depth = ap Setup.depth i.setup_kept in
    let g = ticks_count m u n (step-sound t (Tick n) s) (omega (arith, i.time_kept)) k (omega (arith, i.one_more, d)) in
    rw f (ap suc g)

-- so under rule 1 the request goes at the last of k + 1 ticks, where k + 1 places are free
pub ticks_send : (t : Table) (a b : List Request) (x : Request) (n : ℕ) → sound t ≡ true → t.setup.rule ≡ 1 → t.waiting ≡ a ++ x ∷ b → is_due t x ≡ true
    → t.time ≤ n → n ≤ ceiling → (k : ℕ) → k ≡ length (ahead t x a b) → length t.flight + suc k ≤ t.setup.depth
    → get_or (at_free t (replicate (suc k) (Tick n))) k Nothing ≡ sent_by_reservation x
ticks_send t a b x n s one w d h c k e r =
    demand_3_at t a b x (replicate (suc k) (Tick n)) s one w d k e (omega (arith, ticks_count (suc k) t n s h c r))
