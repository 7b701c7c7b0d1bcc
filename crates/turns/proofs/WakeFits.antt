-- When to wake is what document 02 asks, in plain facts about ticks, and those fit one value only. Assumes nothing.
use Rattle.std.specs.Prelude.{Some, None, Option}
use mathlib.Core.Path.{◌≡◌, refl, sym, ap, ◌∙◌}
use mathlib.Core.Bool.{Bool, true, false, not, ◌&&◌, ◌||◌, and-true, true≢false}
use mathlib.Core.List.{List, [], ◌∷◌, map}
use mathlib.Core.Logic.{◌↔◌, ◌⊎◌, inl, inr, ⊎_elim}
use Prim.Native.Nat.{ℕ, max, min, ◌≤◌, ◌<◌}
use native.Mathlib.Omega.{arith}
use lib.Dec.{leb, ltb, eqb}
use lib.ListN.{length}
use borrow.Author.Tests.{leb-true, leb-false, ltb-true, ltb-false, lt-ltb, le-ltb}
use Rattle.lists.specs.Words.{if◌then◌else◌, empty, lowest}
use Rattle.lists.specs.WordsLaws.{both, all-at, lowest-of, lowest_under}
use Rattle.rules.specs.Numbers.{ceiling}
use Rattle.rules.specs.Tables.{Request, Table, reserved, limited, settings_of}
use Rattle.rules.specs.declared.Settings.{Settings}
use Rattle.rules.specs.Sound.{lawful, sound}
use Rattle.rules.specs.Choice.{Result, due_at, open_at, passes_at, room}
use Rattle.rules.specs.Chosen.{blank, at, Chosen, full, reservation, weight, nothing}
use Rattle.rules.specs.Events.{wait, enter}
use Rattle.rules.specs.declared.Event.{Event}
use Rattle.rules.specs.declared.Event.TheVariants.{Tick}
use Rattle.rules.specs.Refusals.{Verdict, accept, refuse, verdict, is_accept, accepted}
use Rattle.rules.specs.Run.{decided, step, fresh}
use Rattle.rules.specs.Waking.{ready_at, ready_in, soonest, wake, told}
use Rattle.turns.specs.Woken.{Sends, WakesAt, Wakes}
use Rattle.rules.specs.declared.Phase.TheVariants.{Reservation, Weight}
use Rattle.rules.specs.declared.Answer.{Answer}
use Rattle.rules.specs.declared.Answer.TheVariants.{Nothing, Sent, Refused}
use Rattle.rules.proofs.Facts.{sound_is, lawful_is}
use Rattle.turns.proofs.Ticks.{not_idle}
use Rattle.rules.proofs.Chosen.{step_chosen}
use Rattle.rules.proofs.StepSound.{accepted-sound}

-- ANSWERS

-- an answer that sends nothing sends nothing
unsent : (a : Answer) → a ≡ Nothing → Sends a → ⊥
unsent a e s = let z : ◌≡◌ {A = Answer} Nothing (Sent s.phase s.guest s.id) = sym e ∙ s.sent in let k : ◌≡◌ {A = ℕ} 0 1 = cc in omega arith

-- nor does a refused event's
refused-unsent : (t : Table) (e : Event) → accepted t e ≡ false → Sends (step t e).answer → ⊥
unfolding step decided
refused-unsent t e = go (verdict t e)
  where
    go : (v : Verdict) → is_accept v ≡ false → Sends (decided v t e).answer → ⊥
    go accept h s = true≢false h
    go (refuse r) h s = let z : ◌≡◌ {A = Answer} (Refused r) (Sent s.phase s.guest s.id) = s.sent in let k : ◌≡◌ {A = ℕ} 0 1 = cc in omega arith

-- FROM WHEN ON A REQUEST MAY GO

-- what one phase or the other takes at the time m is ready by then
open_ready : (r : ℕ) (s : Settings) (m : ℕ) (q : Request) → open_at s m q ≡ true → ready_at r s q ≤ m
unfolding open_at ready_at
open_ready r s m q = go (limited s) (reserved s && not (eqb r 2))
  where
    go : (l b : Bool) → (not l || leb q.ltag m) ≡ true → (if l then (if b then min q.ltag q.rtag else q.ltag) else 0) ≤ m
    go true true e = omega (arith, leb-true q.ltag m e)
    go true false e = leb-true q.ltag m e
    go false b e = omega arith

due_ready : (r : ℕ) (s : Settings) (m : ℕ) (q : Request) → due_at s m q ≡ true → passes_at r s m q ≡ true → ready_at r s q ≤ m
unfolding due_at passes_at ready_at
due_ready r s m q h p = by_rule (eqb r 2) refl
  where
    d : (reserved s ≡ true) × (leb q.rtag m ≡ true)
    d = both (reserved s) (leb q.rtag m) h

    under : (l : Bool) → (if l then min q.ltag q.rtag else 0) ≤ m
    under true = omega (arith, leb-true q.rtag m d.1)
    under false = omega arith

    by_rule : (b : Bool) → eqb r 2 ≡ b → ready_at r s q ≤ m
    by_rule true e = open_ready r s m q (rw e at p)
    by_rule false e = rw (d.0, e) (under (limited s))

-- and what neither takes is not
later_ready : (r : ℕ) (s : Settings) (m : ℕ) (q : Request) → due_at s m q && passes_at r s m q ≡ false → open_at s m q ≡ false → m < ready_at r s q
unfolding due_at open_at passes_at ready_at
later_ready r s m q = go (limited s) (reserved s) (eqb r 2)
  where
    go : (l b c : Bool) → (b && leb q.rtag m) && (if c then not l || leb q.ltag m else true) ≡ false → (not l || leb q.ltag m) ≡ false
        → m < (if l then (if b && not c then min q.ltag q.rtag else q.ltag) else 0)
    go true true true d o = leb-false q.ltag m o
    go true true false d o = omega (arith, leb-false q.rtag m (sym (and-true (leb q.rtag m)) ∙ d), leb-false q.ltag m o)
    go true false c d o = leb-false q.ltag m o
    go false b c d o = absurd (true≢false o)

-- it is never past the ceiling
ready_fits : (r : ℕ) (s : Settings) (q : Request) → lawful q ≡ true → ready_at r s q ≤ ceiling
unfolding ready_at
ready_fits r s q h = let f = lawful_is q h in go (limited s) (reserved s && not (eqb r 2)) f.limit
  where
    go : (l b : Bool) → q.ltag ≤ ceiling → (if l then (if b then min q.ltag q.rtag else q.ltag) else 0) ≤ ceiling
    go true true k = omega arith
    go true false k = k
    go false b k = omega arith

-- A TICK

-- what an accepted tick at the time m answers: it sends where a place is free and a request is ready by then, else nothing
data Ticked (t : Table) (m : ℕ) (a : Answer) : Type 0 where
  goes : (i : ℕ) → i < length t.waiting → ready_in t.setup.rule t.guests (at t.waiting i) ≤ m → room t ≡ true → Sends a → Ticked t m a
  stays : (room t ≡ true → (i : ℕ) → i < length t.waiting → m < ready_in t.setup.rule t.guests (at t.waiting i)) → a ≡ Nothing → Ticked t m a

ticked : (t : Table) (m : ℕ) → accepted t (Tick m) ≡ true → Ticked t m (step t (Tick m)).answer
unfolding enter wait room
ticked t m h = go (step t (Tick m)) (step_chosen t (Tick m) h)
  where
    go : (r : Result) → Chosen (wait m t) r → Ticked t m r.answer
    go r (full f e) = stays (λ k i l. absurd (omega (arith, ltb-true (length t.flight) t.setup.depth k))) (ap Result.answer e)
    go r (reservation i f p e) =
        let q = at t.waiting i in
        let s = settings_of t.guests q in
        let d = both (due_at s m q) (passes_at t.setup.rule s m q) p.good in
        goes i p.inside (due_ready t.setup.rule s m q d.0 d.1)
        (lt-ltb (length t.flight) t.setup.depth f) (record { phase = Reservation; guest = _; id = _; sent = ap Result.answer e })
    go r (weight i f n p e) =
        goes i p.inside (open_ready t.setup.rule (settings_of t.guests (at t.waiting i)) m (at t.waiting i) p.good)
        (lt-ltb (length t.flight) t.setup.depth f) (record { phase = Weight; guest = _; id = _; sent = ap Result.answer e })
    go r (nothing f n o e) =
        stays (λ k i l. later_ready t.setup.rule (settings_of t.guests (at t.waiting i)) m (at t.waiting i) (n i l) (o i l)) (ap Result.answer e)

-- THE THEOREM

module _ (t : Table) (s : sound t ≡ true) where
  accepts : (m : ℕ) → t.time ≤ m → m ≤ ceiling → accepted t (Tick m) ≡ true
  accepts m h k = not_idle t m s h k

  -- where a place is free and something waits
  wakes-at : room t ≡ true → 0 < length t.waiting → WakesAt t (max t.time (soonest t))
  wakes-at r some =
      let n = max t.time (soonest t) in
      let (i, h, e) = lowest-of (ready_in t.setup.rule t.guests) t.waiting blank some in
      let fits : soonest t ≤ ceiling = omega (arith, ready_fits t.setup.rule (settings_of t.guests (at t.waiting i)) (at t.waiting i) (all-at lawful t.waiting blank (sound_is t s).tags_fit i h)) in
      let low : n ≤ ceiling = omega (arith, (sound_is t s).time_fits) in
      let taken = accepts n (omega arith) low in
      record {
        later = omega arith;
        at_most = low;
        taken = taken;
        sends = sends-then n (omega arith) i h e (ticked t n taken);
        before = λ m k l. (accepts m k (omega arith), quiet m k l (ticked t m (accepts m k (omega arith))));
      }
    where
      sends-then : (n : ℕ) → soonest t ≤ n → (i : ℕ) → i < length t.waiting → ready_in t.setup.rule t.guests (at t.waiting i) ≡ soonest t → Ticked t n (step t (Tick n)).answer → Sends (step t (Tick n)).answer
      sends-then n k i h e (goes j l a b c) = c
      sends-then n k i h e (stays f c) = absurd (omega (arith, f r i h))

      quiet : (m : ℕ) → t.time ≤ m → m < max t.time (soonest t) → Ticked t m (step t (Tick m)).answer → (step t (Tick m)).answer ≡ Nothing
      quiet m k l (goes j h a b c) = absurd (omega (arith, lowest_under (ready_in t.setup.rule t.guests) t.waiting blank j h))
      quiet m k l (stays f c) = c

  -- no tick sends where no place is free or nothing waits
  never-sends : ((room t ≡ false) ⊎ (length t.waiting ≡ 0)) → (m : ℕ) → Sends (step t (Tick m)).answer → ⊥
  never-sends why m x = go (accepted t (Tick m)) refl
    where
      none : Ticked t m (step t (Tick m)).answer → ⊥
      none (goes i h a b c) = ⊎_elim (λ k. true≢false (sym b ∙ k)) (λ k. omega (arith, h)) why
      none (stays f c) = unsent (step t (Tick m)).answer c x

      go : (b : Bool) → accepted t (Tick m) ≡ b → ⊥
      go true a = none (ticked t m a)
      go false a = refused-unsent t (Tick m) a x

  -- what is computed is what is described
  pub wake-fits : Wakes t (wake t)
  unfolding wake
  wake-fits = go (room t) refl t.waiting refl
    where
      go : (b : Bool) → room t ≡ b → (w : List Request) → t.waiting ≡ w → Wakes t (if b && not (empty w) then Some (max t.time (soonest t)) else None)
      go false r w e = never-sends (inl r)
      go true r [] e = never-sends (inr (ap length e))
      go true r (q ∷ w) e = wakes-at r (omega (arith, ap length e))

  -- and nothing else is
  pub wakes_once : (w x : Option ℕ) → Wakes t w → Wakes t x → w ≡ x
  wakes_once (Some n) (Some m) a b = ap Some (go (ltb n m) refl (ltb m n) refl)
    where
      go : (c : Bool) → ltb n m ≡ c → (d : Bool) → ltb m n ≡ d → n ≡ m
      go true c d e = absurd (unsent (step t (Tick n)).answer (b.before n a.later (ltb-true n m c)).1 a.sends)
      go false c true d = absurd (unsent (step t (Tick m)).answer (a.before m b.later (ltb-true m n d)).1 b.sends)
      go false c false d = omega (arith, ltb-false n m c, ltb-false m n d)
  wakes_once (Some n) None a b = absurd (b n a.sends)
  wakes_once None (Some m) a b = absurd (a m b.sends)
  wakes_once None None a b = refl

-- K2: "none when no place is free or nothing waits", and only then
pub wake-none : (t : Table) → (wake t ≡ None) ↔ ((t.setup.depth ≤ length t.flight) ⊎ (t.waiting ≡ []))
unfolding wake room
wake-none t = (go (room t) refl t.waiting refl, ⊎_elim (λ k. rw (le-ltb (length t.flight) t.setup.depth k)) (λ k. rw k (dry (room t))))
  where
    dry : (b : Bool) → (if b && false then Some (max t.time (lowest (map (ready_in t.setup.rule t.guests) []))) else None) ≡ None
    dry true = refl
    dry false = refl

    go : (b : Bool) → room t ≡ b → (w : List Request) → t.waiting ≡ w → (if b && not (empty w) then Some (max t.time (lowest (map (ready_in t.setup.rule t.guests) w))) else None) ≡ None
        → (t.setup.depth ≤ length t.flight) ⊎ (t.waiting ≡ [])
    go false r w e h = inl (ltb-false (length t.flight) t.setup.depth r)
    go true r [] e h = inr e
    go true r (q ∷ w) e h = let z : ◌≡◌ {A = ℕ} 0 1 = cc in absurd (omega arith)

-- a fresh table has nothing waiting
pub fresh-never : (d c r : ℕ) (ss : List Settings) → wake (fresh d c r ss) ≡ None
unfolding fresh
fresh-never d c r ss = (wake-none (fresh d c r ss)).1 (inr refl)

-- a choice is no refusal, so it carries the time to wake at the table after it
pub told_chosen : (t : Table) (r : Result) → Chosen t r → told r ≡ wake r.table
told_chosen t r (full f p) = rw p
told_chosen t r (reservation i f a p) = rw p
told_chosen t r (weight i f n a p) = rw p
told_chosen t r (nothing f n m p) = rw p

-- What an accepted event carries is when to wake the table that it leaves.
pub accepted-wakes : (t : Table) (e : Event) → accepted t e ≡ true → Wakes (step t e).table (told (step t e))
accepted-wakes t e h = rw (told_chosen (enter t e) (step t e) (step_chosen t e h)) (wake-fits (step t e).table (accepted-sound t e h))

-- And it carries none just where no place is free in that table or nothing waits.
pub accepted-none : (t : Table) (e : Event) → accepted t e ≡ true
    → (told (step t e) ≡ None) ↔ (((step t e).table.setup.depth ≤ length (step t e).table.flight) ⊎ ((step t e).table.waiting ≡ []))
accepted-none t e h = rw (told_chosen (enter t e) (step t e) (step_chosen t e h)) (wake-none (step t e).table)
