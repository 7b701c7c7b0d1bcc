-- What holds after any run of events: counts within depth and capacity as they were chosen, and a time that never falls. Assumes nothing.
use mathlib.Core.Path.{◌≡◌, refl, ap, ◌∙◌}
use mathlib.Core.Bool.{Bool, true, false}
use mathlib.Core.List.{List, [], ◌∷◌}
use Prim.Native.Nat.{◌≤◌}
use native.Mathlib.Omega.{arith}
use lib.ListN.{length}
use Rattle.rules.specs.Numbers.{ceiling}
use Rattle.rules.specs.Tables.{Setup, Table}
use Rattle.rules.specs.Sound.{sound}
use Rattle.rules.specs.Choice.{sending, choice}
use Rattle.rules.specs.Events.{Event, moment, enter}
use Rattle.rules.specs.Refusals.{accepted}
use Rattle.rules.specs.Run.{step, after}
use Rattle.rules.proofs.SameSettings.{run-settings}
use Rattle.rules.proofs.Facts.{sound_is}
use Rattle.rules.proofs.Drops.{dropped_time}
use Rattle.rules.proofs.EnterSound.{accepted-later, enter_time}
use Rattle.rules.proofs.StepSound.{accepted-step, refused_keeps, run_sound}
use Rattle.rules.proofs.Cases.{choice_by}

-- the choice leaves the time
pub choice_time : (t : Table) → (choice t).table.time ≡ t.time
unfolding sending
choice_time t = choice_by (λ r. r.table.time ≡ t.time) t refl (λ p v f e. refl) (λ p v f n e. dropped_time p (sending t p v))

-- an accepted event's time is the table's afterwards
pub accepted_time : (t : Table) (e : Event) → accepted t e ≡ true → (step t e).table.time ≡ moment e
accepted_time t e a = rw (accepted-step t e a) (choice_time (enter t e) ∙ enter_time t e)

-- the time never falls
pub step_time : (t : Table) (e : Event) → t.time ≤ (step t e).table.time
step_time t e = go (accepted t e) refl
  where
    go : (b : Bool) → accepted t e ≡ b → t.time ≤ (step t e).table.time
    go true a = rw (accepted_time t e a) (accepted-later t e a)
    go false a = rw (refused_keeps t e a) (omega arith)

-- Over any run from any table the time never falls.
pub run_time : (es : List Event) (t : Table) → t.time ≤ (after t es).time
unfolding after
run_time [] t = omega arith
run_time (e ∷ es) t = omega (arith, step_time t e, run_time es (step t e).table)

-- u is within what was chosen for t, and not before it
pub record Bounds (t u : Table) : Type 0 where
  pub depth : u.setup.depth ≡ t.setup.depth
  pub capacity : u.setup.capacity ≡ t.setup.capacity
  pub flight_fits : length u.flight ≤ t.setup.depth
  pub waiting-fits : length u.waiting ≤ t.setup.capacity
  pub time_rises : t.time ≤ u.time
  pub time_fits : u.time ≤ ceiling

-- After any run of events from a sound table all these hold.
pub run_bounds : (es : List Event) (t : Table) → sound t ≡ true → Bounds t (after t es)
run_bounds es t h =
    let u = after t es in
    let s = sound_is u (run_sound es t h) in
    let k = run-settings es t in
    let d : u.setup.depth ≡ t.setup.depth = ap Setup.depth k.setup in
    let c : u.setup.capacity ≡ t.setup.capacity = ap Setup.capacity k.setup in
    record {
      depth = d;
      capacity = c;
      flight_fits = omega (arith, s.flight_fits);
      waiting-fits = omega (arith, s.waiting-fits);
      time_rises = run_time es t;
      time_fits = s.time_fits;
    }
