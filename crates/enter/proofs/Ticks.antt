-- A tick and a completion of a known table: each refusal, and what enters before the choice. Assumes nothing.
use Rattle.std.specs.Prelude.{Some, None}
use Prim.Native.Nat.{ℕ, ◌-◌, ◌≤◌, ◌<◌}
use mathlib.Core.Path.{◌≡◌, sym, ap, ◌∙◌}
use mathlib.Core.List.{List}
use native.Mathlib.Omega.{arith}
use lib.ListN.{length}
use borrow.Author.Tests.{lt-ltb, le-ltb}
use Rattle.lists.specs.Words.{without}
use Rattle.lists.specs.Tab.{length-remove_at}
use Rattle.lists.specs.Rows.{over_rows}
use Rattle.lists.specs.RowsLaws.{length-rows}
use Rattle.rules.specs.Numbers.{ceiling}
use Rattle.rules.specs.Tables.{Table, same}
use Rattle.rules.specs.declared.Flight.{Flight}
use Rattle.rules.specs.Events.{complete, wait, enter}
use Rattle.rules.specs.declared.Event.{Event}
use Rattle.rules.specs.declared.Event.TheVariants.{Completion, Tick}
use Rattle.rules.specs.Refusals.{event_tests, accept, refuse, judged, verdict}
use Rattle.rules.specs.declared.Gate.{Gate}
use Rattle.rules.specs.declared.Refusal.TheVariants.{TimeAboveCeiling, TimeBeforeLast, NotInFlight}
use Rattle.table.specs.View.{gate_at, flight_form, table_of, Known}
use Rattle.walks.specs.Walks.{Finds}
use Rattle.moves.specs.Moves.{freed}
use Rattle.moves.specs.MovesLaws.{freed_is}
use Rattle.table.specs.Does.{written, timed_gate, freed_gate}
use Rattle.table.proofs.Lens.{known_written}
use Rattle.enter.specs.Enters.{EntersAt}
use Rattle.enter.proofs.Entering.{entered_at}
use Rattle.table.proofs.Facts.{facts}
use Rattle.enter.proofs.Judges.{others, completion_names, others-judged}

module _ (g : Gate) (gs ws fs : List ℕ) (k : Known g gs ws fs) (now : ℕ) where
  abbrev t : Table
  t = table_of g gs ws fs

  -- A TICK

  -- the time is above the ceiling
  pub tick_late : ceiling < now → verdict t (Tick now) ≡ refuse TimeAboveCeiling
  unfolding event_tests
  tick_late h = rw (k.is_sound, lt-ltb ceiling now h)

  -- the time is before the last
  pub tick_early : now ≤ ceiling → now < g.time → verdict t (Tick now) ≡ refuse TimeBeforeLast
  unfolding event_tests
  tick_early l h = rw (k.is_sound, le-ltb ceiling now l, lt-ltb now g.time h)

  module _ (l : now ≤ ceiling) (h : g.time ≤ now) where
    tick_taken : verdict t (Tick now) ≡ accept
    unfolding event_tests
    tick_taken = rw (k.is_sound, le-ltb ceiling now l, le-ltb now g.time h)

    -- the numbers at the new time show what the tick enters
    tick_written : (timed_gate now g, gs, ws, fs) ≡ written gs ws fs (enter t (Tick now))
    unfolding enter wait
    tick_written = let p = known_written g gs ws fs k in λ i. (timed_gate now (p i).0, (p i).1, (p i).2, (p i).3)

    -- so the tick enters
    pub tick_enters : EntersAt (Tick now) g gs ws fs (timed_gate now g) gs ws fs
    tick_enters = entered_at g gs ws fs k (Tick now) tick_taken tt (timed_gate now g) gs ws fs tick_written

  -- A COMPLETION

  module _ (a : Flight) where
    abbrev ev : Event
    ev = Completion a now

    module _ (known : a.guest < g.guests) (l : now ≤ ceiling) (h : g.time ≤ now) where
      -- the guest and the time are good: the other test decides
      completion_judged : verdict t ev ≡ judged (others t ev)
      completion_judged = others-judged g gs ws fs k ev a.guest now (completion_names t a now) known l h

      -- nothing of this name is in flight
      pub completion_absent : Finds a t.flight None → verdict t ev ≡ refuse NotInFlight
      unfolding event_tests
      completion_absent f = completion_judged ∙ rw f

      module _ (place : ℕ) (f : Finds a t.flight (Some place)) where
        pub out-here : place < g.flight
        out-here = omega (arith, f.0, length-rows flight_form fs g.flight)

        taken : verdict t ev ≡ accept
        unfolding event_tests
        taken = completion_judged ∙ rw f.1

        -- the numbers once it has left show what the completion enters
        out_written : (freed_gate now g, gs, ws, freed place g.flight fs) ≡ written gs ws fs (enter t ev)
        unfolding enter complete
        out_written =
            let p = known_written g gs ws fs k in
            let n : g.flight - 1 ≡ length (without (same a) t.flight) = sym (ap length f.2 ∙ length-remove_at place t.flight f.0 ∙ ap (λ (m : ℕ). m - 1) (length-rows flight_form fs g.flight)) in
            let pf : freed place g.flight fs ≡ over_rows flight_form g.setup.depth (without (same a) t.flight) fs =
            freed_is g.setup.depth g.flight fs k.flight_room k.whole.flight_unused (facts g gs ws fs k).flies place out-here ∙ ap (λ (q : List Flight). over_rows flight_form g.setup.depth q fs) (sym f.2) in
            λ i. (gate_at g.setup (p i).0.guests now (p i).0.waiting (n i), (p i).1, (p i).2, pf i)

        -- so the completion enters
        pub completion_enters : EntersAt ev g gs ws fs (freed_gate now g) gs ws (freed place g.flight fs)
        completion_enters = entered_at g gs ws fs k ev taken tt (freed_gate now g) gs ws (freed place g.flight fs) out_written
