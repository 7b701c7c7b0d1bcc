-- What the functions of the events know at their calls and at their ends, from what their callees ensure. Assumes nothing.
use Rattle.std.specs.Prelude.{Some, None, Option}
use Prim.Native.Nat.{ℕ, ◌*◌, ◌≤◌, ◌<◌}
use mathlib.Core.Path.{◌≡◌, sym, subst}
use mathlib.Core.List.{List}
use native.Mathlib.Omega.{arith}
use lib.ListN.{length}
use Rattle.rules.specs.Numbers.{ceiling}
use Rattle.rules.specs.Tables.{Table}
use Rattle.rules.specs.declared.Flight.{Flight}
use Rattle.rules.specs.declared.Event.TheVariants.{Completion, Tick}
use Rattle.rules.specs.Refusals.{refuse, verdict}
use Rattle.rules.specs.declared.Gate.{Gate}
use Rattle.rules.specs.declared.Refusal.TheVariants.{NotInFlight}
use Rattle.table.specs.Columns.{flight_wide}
use Rattle.table.specs.View.{table_of, Known}
use Rattle.moves.specs.Moves.{freed}
use Rattle.walks.specs.Walks.{Finds}
use Rattle.table.specs.Does.{timed_gate, freed_gate}
use Rattle.enter.specs.Enters.{EntersAt}
use Rattle.table.proofs.Facts.{facts}
use Rattle.enter.proofs.Ticks.{tick_enters, completion_absent, out-here, completion_enters}

module _ (g : Gate) (gs ws fs : List ℕ) (k : Known g gs ws fs) where
  abbrev t : Table
  t = table_of g gs ws fs

  module _ (now : ℕ) (l : now ≤ ceiling) (h : g.time ≤ now) where
    -- a tick enters
    pub tick_returns : (m : Gate) → m ≡ timed_gate now g → EntersAt (Tick now) g gs ws fs m gs ws fs
    tick_returns m p = subst (λ (x : Gate). EntersAt (Tick now) g gs ws fs x gs ws fs) (sym p) (tick_enters g gs ws fs k now l h)

    module _ (a : Flight) (known : a.guest < g.guests) (x : Option ℕ) (found : Finds a t.flight x) where
      -- nothing of this name is in flight
      pub absent_is : x ≡ None → verdict t (Completion a now) ≡ refuse NotInFlight
      absent_is e = completion_absent g gs ws fs k now a known l h (subst (Finds a t.flight) e found)

      module _ (place : ℕ) (e : x ≡ Some place) where
        at_place : Finds a t.flight (Some place)
        at_place = subst (Finds a t.flight) e found

        pub out_asks : (place < g.flight) × (g.flight * flight_wide ≤ length fs)
        out_asks = (out-here g gs ws fs k now a known l h place at_place, omega (arith, (facts g gs ws fs k).flies, k.flight_room))

        -- a completion enters
        pub out_returns : (es : List ℕ) → es ≡ freed place g.flight fs → (m : Gate) → m ≡ freed_gate now g → EntersAt (Completion a now) g gs ws fs m gs ws es
        out_returns es p m q =
            subst (λ (y : Gate). EntersAt (Completion a now) g gs ws fs y gs ws es) (sym q)
            (subst (λ (x : List ℕ). EntersAt (Completion a now) g gs ws fs (freed_gate now g) gs ws x) (sym p) (completion_enters g gs ws fs k now a known l h place at_place))
