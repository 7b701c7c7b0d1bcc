-- An arrival at a known table: each refusal, and what enters before the choice. Assumes nothing.
use Prim.Native.Nat.{ℕ, ◌+◌, ◌*◌, ◌≤◌, ◌<◌}
use mathlib.Core.Path.{◌≡◌, refl, sym, ap, ◌∙◌, subst}
use mathlib.Core.Bool.{Bool, true, false}
use mathlib.Core.List.{List, [], ◌∷◌, ◌++◌}
use native.Mathlib.Omega.{arith}
use lib.ListN.{length, set, length-append, length-set}
use borrow.Author.Tests.{lt-ltb, eq-eqb, ne_eqb}
use Rattle.lists.specs.Words.{if◌then◌else◌}
use Rattle.lists.specs.Rows.{over_rows, Unused}
use Rattle.lists.specs.RowsLaws.{length-rows, length-over-rows, rows-over, over_twice, over_unused, over-same}
use Rattle.rules.specs.Numbers.{ceiling}
use Rattle.rules.specs.Tables.{Request, Table, owner, idle, lacks, names}
use Rattle.rules.specs.Sound.{fair, spread}
use Rattle.rules.specs.declared.Setup.{Setup}
use Rattle.rules.specs.declared.Guest.{Guest}
use Rattle.rules.specs.declared.Flight.{Flight}
use Rattle.rules.specs.Events.{called_by, adjusted, stamped, stamped_for, following, placed, arrive_as, arrive, enter}
use Rattle.rules.specs.declared.Arriving.{Arriving}
use Rattle.rules.specs.declared.Event.{Event}
use Rattle.rules.specs.declared.Event.TheVariants.{Arrival}
use Rattle.rules.specs.Refusals.{event_tests, passing, accept, refuse, judged, verdict}
use Rattle.rules.proofs.SameSettings.{adjusted-settings, same_count}
use Rattle.rules.specs.declared.Gate.{Gate}
use Rattle.rules.specs.declared.Refusal.TheVariants.{BadCost, BadDelta, IdInUse, NoRoom, TagAboveCeiling}
use Rattle.table.specs.Columns.{guest_wide, waiting_wide}
use Rattle.table.specs.View.{gate_at, guest_form, request_form, flight_form, guests_of, waiting_of, table_of, Known}
use Rattle.table.specs.ViewLaws.{guest_exact, request_exact, flight_exact}
use Rattle.moves.specs.Moves.{appended, followed}
use Rattle.moves.specs.MovesLaws.{appended_is}
use Rattle.moves.specs.FollowLaws.{followed_is}
use Rattle.table.specs.Does.{written, placed_gate}
use Rattle.enter.specs.Enters.{EntersAt}
use Rattle.enter.proofs.Entering.{entered_at}
use Rattle.table.proofs.Facts.{facts}
use Rattle.enter.proofs.Judges.{others, arrival_names, others-judged}

-- the settling leaves as many requests waiting
adjusted-count : (b : Bool) (now : ℕ) (t : Table) → length (adjusted b now t).waiting ≡ length t.waiting
unfolding adjusted
adjusted-count false now t = refl
adjusted-count true now t = simp lib.ListN.length-map

-- and those in flight as they were
adjusted_flight : (b : Bool) (now : ℕ) (t : Table) → (adjusted b now t).flight ≡ t.flight
unfolding adjusted
adjusted_flight false now t = refl
adjusted_flight true now t = refl

module _ (g : Gate) (gs ws fs : List ℕ) (k : Known g gs ws fs) (a : Arriving) (now : ℕ) where
  abbrev t : Table
  t = table_of g gs ws fs

  abbrev ev : Event
  ev = Arrival a now

  module _ (known : a.guest < g.guests) (l : now ≤ ceiling) (h : g.time ≤ now) where
    -- the guest and the time are good: the other tests decide
    arrival_judged : verdict t ev ≡ judged (others t ev)
    arrival_judged = others-judged g gs ws fs k ev a.guest now (arrival_names t a now) known l h

    -- its cost is out of range
    pub arrival_costly : fair a.cost ≡ false → verdict t ev ≡ refuse BadCost
    unfolding event_tests
    arrival_costly d = arrival_judged ∙ rw d

    -- its delta or its rho is
    pub arrival_spread : fair a.cost ≡ true → spread a.delta a.rho ≡ false → verdict t ev ≡ refuse BadDelta
    unfolding event_tests
    arrival_spread c d = arrival_judged ∙ rw (c, d)

    -- its name is in use
    pub arrival_used : fair a.cost ≡ true → spread a.delta a.rho ≡ true → lacks (called_by a) (names t) ≡ false → verdict t ev ≡ refuse IdInUse
    unfolding event_tests
    arrival_used c d u = arrival_judged ∙ rw (c, d, u)

    module _ (cheap : fair a.cost ≡ true) (many : spread a.delta a.rho ≡ true) (new : lacks (called_by a) (names t) ≡ true) where
      -- no place is free to wait in
      pub arrival_full : g.waiting ≡ g.setup.capacity → verdict t ev ≡ refuse NoRoom
      unfolding event_tests
      arrival_full f = arrival_judged ∙ rw (cheap, many, new, length-rows request_form ws g.waiting, eq-eqb g.waiting g.setup.capacity f)

      module _ (free : g.waiting ≡ g.setup.capacity → ⊥) (i : Bool) (e : idle t a.guest ≡ i) where
        -- only refusal 9 is left
        arrival_left : verdict t ev ≡ (if passing i now a t then refuse TagAboveCeiling else accept)
        unfolding event_tests
        arrival_left =
            arrival_judged ∙ rw (cheap, many, new, length-rows request_form ws g.waiting, ne_eqb g.waiting g.setup.capacity free)
            (ap (λ (b : Bool). if passing b now a t then refuse TagAboveCeiling else accept) e)

        -- a tag would pass the ceiling
        pub arrival_passing : passing i now a t ≡ true → verdict t ev ≡ refuse TagAboveCeiling
        arrival_passing p = arrival_left ∙ rw p

        module _ (p : passing i now a t ≡ false) where
          taken : verdict t ev ≡ accept
          taken = arrival_left ∙ rw p

          -- the table as it is settled, and the request with its tags
          abbrev s : Table
          s = adjusted i now t

          abbrev q : Request
          q = stamped_for i now a t

          -- numbers that show the settled table
          module _ (hs vs : List ℕ) (ph : hs ≡ over_rows guest_form g.guests s.guests gs) (pv : vs ≡ over_rows request_form g.setup.capacity s.waiting ws) where
            count : length s.waiting ≡ g.waiting
            count = adjusted-count i now t ∙ length-rows request_form ws g.waiting

            guests : length s.guests ≡ g.guests
            guests = same_count s t (adjusted-settings i now t) ∙ length-rows guest_form gs g.guests

            fit : g.waiting < g.setup.capacity
            fit = let w = (facts g gs ws fs k).waits in omega arith

            rows : waiting_of vs g.waiting ≡ s.waiting
            rows =
                ap (λ (m : ℕ). waiting_of vs m) (sym count) ∙ ap (λ (x : List ℕ). waiting_of x (length s.waiting)) pv
                ∙ rows-over request_form request_exact g.setup.capacity s.waiting ws k.waiting_room (omega (arith, count, fit))

            owners : guests_of hs g.guests ≡ s.guests
            owners =
                ap (λ (m : ℕ). guests_of hs m) (sym guests) ∙ ap (λ (x : List ℕ). guests_of x (length s.guests)) ph
                ∙ rows-over guest_form guest_exact g.guests s.guests gs k.guest_room (omega (arith, guests))

            unused : Unused request_form g.setup.capacity g.waiting vs
            unused =
                subst (λ (m : ℕ). Unused request_form g.setup.capacity m vs) count
                (subst (λ (x : List ℕ). Unused request_form g.setup.capacity (length s.waiting) x) (sym pv) (over_unused request_form request_exact g.setup.capacity s.waiting ws k.waiting_room (omega (arith, count, fit))))

            room-v : g.setup.capacity * waiting_wide ≤ length vs
            room-v = omega (arith, k.waiting_room, ap length pv, length-over-rows request_form request_exact g.setup.capacity s.waiting ws)

            room-h : g.guests * guest_wide ≤ length hs
            room-h = omega (arith, k.guest_room, ap length ph, length-over-rows guest_form guest_exact g.guests s.guests gs)

            -- the request placed last
            pub placed-waiting : appended g.waiting q vs ≡ over_rows request_form g.setup.capacity (s.waiting ++ (q ∷ [])) ws
            placed-waiting =
                appended_is g.setup.capacity g.waiting vs room-v unused fit q
                ∙ ap (λ (x : List Request). over_rows request_form g.setup.capacity (x ++ (q ∷ [])) vs) rows
                ∙ ap (over_rows request_form g.setup.capacity (s.waiting ++ (q ∷ []))) pv
                ∙ over_twice request_form request_exact g.setup.capacity (s.waiting ++ (q ∷ [])) s.waiting ws k.waiting_room

            -- and its guest's next numbers
            pub placed_guests : followed a.guest q.rtag q.ltag q.stag q.cost hs ≡ over_rows guest_form g.guests (set s.guests a.guest (following q (owner s.guests a.guest))) gs
            unfolding stamped
            placed_guests =
                let after : List Guest → List Guest = λ x. set x a.guest (following q (owner x a.guest)) in
                followed_is g.guests hs q room-h known
                ∙ ap (λ (x : List Guest). over_rows guest_form g.guests (after x) hs) owners
                ∙ ap (over_rows guest_form g.guests (after s.guests)) ph
                ∙ over_twice guest_form guest_exact g.guests (after s.guests) s.guests gs k.guest_room

            -- the numbers then show the request placed
            base : (placed_gate now g, followed a.guest q.rtag q.ltag q.stag q.cost hs, appended g.waiting q vs, fs) ≡ written gs ws fs (placed now q s)
            unfolding placed stamped
            base =
                let es : t.setup ≡ s.setup = sym (adjusted-settings i now t).setup in
                let after : List Guest = set s.guests a.guest (following q (owner s.guests a.guest)) in
                let eg : g.guests ≡ length after = sym (length-set s.guests a.guest (following q (owner s.guests a.guest)) ∙ guests) in
                let ew : g.waiting + 1 ≡ length (s.waiting ++ (q ∷ [])) = sym (length-append s.waiting (q ∷ []) ∙ ap (λ (m : ℕ). m + 1) count) in
                let el : t.flight ≡ s.flight = sym (adjusted_flight i now t) in
                let ef : g.flight ≡ length s.flight = sym (length-rows flight_form fs g.flight) ∙ ap length el in
                let pg : followed a.guest q.rtag q.ltag q.stag q.cost hs ≡ over_rows guest_form (length after) after gs = placed_guests ∙ ap (λ (m : ℕ). over_rows guest_form m after gs) eg in
                let pw : appended g.waiting q vs ≡ over_rows request_form s.setup.capacity (s.waiting ++ (q ∷ [])) ws = placed-waiting ∙ ap (λ (c : Setup). over_rows request_form c.capacity (s.waiting ++ (q ∷ [])) ws) es in
                let pf : fs ≡ over_rows flight_form s.setup.depth s.flight fs =
                sym (over-same flight_form flight_exact g.setup.depth g.flight fs k.whole.flight_unused)
                ∙ ap (λ (c : Setup). over_rows flight_form c.depth t.flight fs) es
                ∙ ap (λ (x : List Flight). over_rows flight_form s.setup.depth x fs) el in
                λ j. (gate_at (es j) (eg j) now (ew j) (ef j), pg j, pw j, pf j)

            -- and that is what the arrival enters
            entered : enter t ev ≡ placed now q s
            unfolding enter arrive arrive_as
            entered = ap (λ (b : Bool). placed now (stamped_for b now a t) (adjusted b now t)) e

            arrival_written : (placed_gate now g, followed a.guest q.rtag q.ltag q.stag q.cost hs, appended g.waiting q vs, fs) ≡ written gs ws fs (enter t ev)
            arrival_written = base ∙ ap (written gs ws fs) (sym entered)

            -- so the arrival enters
            pub arrival_enters : a.id < 4294967296 → EntersAt ev g gs ws fs (placed_gate now g) (followed a.guest q.rtag q.ltag q.stag q.cost hs) (appended g.waiting q vs) fs
            arrival_enters bits = entered_at g gs ws fs k ev taken (lt-ltb a.id 4294967296 bits) (placed_gate now g) (followed a.guest q.rtag q.ltag q.stag q.cost hs) (appended g.waiting q vs) fs arrival_written
