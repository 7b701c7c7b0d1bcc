-- The verdict on an event that names a guest, an arrival or a completion, at a known table: the guest and the time are judged before the
-- event's other tests. Assumes nothing.
use Prim.Native.Nat.{ℕ, ◌≤◌, ◌<◌}
use mathlib.Core.Path.{◌≡◌, refl, ap, ◌∙◌}
use mathlib.Core.List.{List}
use lib.ListN.{drop}
use borrow.Author.Tests.{lt-ltb, le-ltb, le-leb, lt-leb}
use Rattle.lists.specs.RowsLaws.{length-rows}
use Rattle.rules.specs.Numbers.{ceiling}
use Rattle.rules.specs.Tables.{Table}
use Rattle.rules.specs.declared.Flight.{Flight}
use Rattle.rules.specs.declared.Arriving.{Arriving}
use Rattle.rules.specs.declared.Event.{Event}
use Rattle.rules.specs.declared.Event.TheVariants.{Arrival, Completion}
use Rattle.rules.specs.Refusals.{Test, refuse, judged, guest_tests, event_tests, verdict}
use Rattle.rules.specs.declared.Gate.{Gate}
use Rattle.rules.specs.declared.Refusal.TheVariants.{UnknownGuest, TimeAboveCeiling, TimeBeforeLast}
use Rattle.table.specs.View.{guest_form, table_of, Known}

-- an event's tests behind the first three
abbrev pub others : Table → Event → List Test
others t e = drop 3 (event_tests t e)

-- the first three are those of guest n and of the time
abbrev pub Names : Table → Event → (n now : ℕ) → Type 0
Names t e n now = event_tests t e ≡ guest_tests n now t (others t e)

-- an arrival names its guest
pub arrival_names : (t : Table) (a : Arriving) (now : ℕ) → Names t (Arrival a now) a.guest now
unfolding event_tests
arrival_names t a now = refl

-- and so does a completion
pub completion_names : (t : Table) (f : Flight) (now : ℕ) → Names t (Completion f now) f.guest now
unfolding event_tests
completion_names t f now = refl

module _ (g : Gate) (gs ws fs : List ℕ) (k : Known g gs ws fs) (e : Event) (n now : ℕ) where
  abbrev t : Table
  t = table_of g gs ws fs

  module _ (own : Names t e n now) where
    -- a sound table: the event's own tests are judged
    judged-own : verdict t e ≡ judged (guest_tests n now t (others t e))
    judged-own = rw k.is_sound (ap judged own)

    -- the guest does not exist
    pub unknown_guest : g.guests ≤ n → verdict t e ≡ refuse UnknownGuest
    unknown_guest h = judged-own ∙ rw (length-rows guest_form gs g.guests, le-leb g.guests n h)

    module _ (known : n < g.guests) where
      -- the time is above the ceiling
      pub above_ceiling : ceiling < now → verdict t e ≡ refuse TimeAboveCeiling
      above_ceiling h = judged-own ∙ rw (length-rows guest_form gs g.guests, lt-leb g.guests n known, lt-ltb ceiling now h)

      module _ (late : now ≤ ceiling) where
        -- the time is before the last
        pub before_last : now < g.time → verdict t e ≡ refuse TimeBeforeLast
        before_last h = judged-own ∙ rw (length-rows guest_form gs g.guests, lt-leb g.guests n known, le-ltb ceiling now late, lt-ltb now g.time h)

        -- neither: the other tests decide
        pub others-judged : g.time ≤ now → verdict t e ≡ judged (others t e)
        others-judged h = judged-own ∙ rw (length-rows guest_form gs g.guests, lt-leb g.guests n known, le-ltb ceiling now late, le-ltb now g.time h)
