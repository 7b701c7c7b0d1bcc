-- What the functions of an arrival know at their calls and at their ends, from what their callees ensure. Assumes nothing.
use Prim.Native.Nat.{ℕ, ◌+◌, ◌*◌, ◌≤◌, ◌<◌}
use mathlib.Core.Path.{◌≡◌, refl, sym, ap, ◌∙◌, subst}
use mathlib.Core.Bool.{Bool, true, false, not, ◌&&◌}
use mathlib.Core.List.{List, map}
use native.Mathlib.Omega.{arith}
use lib.ListN.{length, get_or}
use Rattle.lists.specs.Words.{lowest}
use Rattle.lists.specs.Lines.{line_at}
use Rattle.lists.specs.Rows.{over_rows}
use Rattle.lists.specs.RowsLaws.{length-rows, row-at, length-over-rows, rows-over}
use Rattle.rules.specs.Tables.{Request, Table, owner, idle}
use Rattle.rules.specs.declared.Settings.{Settings}
use Rattle.rules.specs.declared.Guest.{Guest}
use Rattle.rules.specs.Events.{adjusted, stamped, raised, stamped_for}
use Rattle.rules.specs.declared.Arriving.{Arriving}
use Rattle.rules.specs.declared.Event.{Event}
use Rattle.rules.specs.declared.Event.TheVariants.{Arrival}
use Rattle.rules.specs.Refusals.{passing, refuse, verdict}
use Rattle.rules.specs.Refused.{Good}
use Rattle.rules.proofs.Facts.{lawful_is}
use Rattle.rules.proofs.Spacings.{fair_is}
use Rattle.rules.proofs.Raises.{spread_most}
use Rattle.rules.proofs.NextFits.{NextFits, next_fits}
use Rattle.rules.proofs.SameSettings.{adjusted-settings, same_count, same-owner}
use Rattle.rules.specs.declared.Gate.{Gate}
use Rattle.rules.specs.declared.Refusal.TheVariants.{TagAboveCeiling}
use Rattle.table.specs.Columns.{guest_wide, LIMIT}
use Rattle.table.specs.View.{guest_form, request_form, guests_of, table_of, Known}
use Rattle.table.specs.ViewLaws.{guest_exact, request_exact}
use Rattle.moves.specs.Moves.{appended, followed}
use Rattle.table.specs.Stamp.{lawful_tags, moves_fit}
use Rattle.walks.specs.Survey.{highest}
use Rattle.shares.specs.Passing.{passing_is}
use Rattle.tags.specs.declared.Stamp.{Stamp}
use Rattle.table.specs.Does.{placed_gate}
use Rattle.enter.specs.Enters.{EntersAt}
use Rattle.stamps.specs.Arrive.{stamp_of, request_of, Stampable, Ready, Placeable, Placed}
use Rattle.table.proofs.Facts.{Facts, facts, guest_is}
use Rattle.enter.proofs.Arrivals.{arrival_enters, arrival_passing}

-- AN ARRIVAL that is ready, at a guest that is idle or not
module _ (g : Gate) (gs ws fs : List ℕ) (k : Known g gs ws fs) (a : Arriving) (now : ℕ) (ready : Ready g gs ws fs a now) (i : Bool) (e : idle (table_of g gs ws fs) a.guest ≡ i) where
  abbrev t : Table
  t = table_of g gs ws fs

  abbrev ev : Event
  ev = Arrival a now

  z : Facts g gs ws fs
  z = facts g gs ws fs k

  known : a.guest < g.guests
  known = ready.timely.known

  -- the guest's row is there
  row_asks : a.guest * guest_wide + guest_wide ≤ length gs
  row_asks = omega (arith, known, k.guest_room)

  -- its settings are in range, and its next numbers may be raised
  pub tags_ask : Stampable gs a
  tags_ask =
      let own = guest_is g gs ws fs k a.guest known in
      let good : Good (guest_form.read (line_at guest_wide gs a.guest)).settings = subst (λ (h : Guest). Good h.settings) own (z.settles a.guest known) in
      let next : NextFits (guest_form.read (line_at guest_wide gs a.guest)) = subst NextFits own (next_fits t k.is_sound a.guest) in
      let most = spread_most a.delta a.rho ready.timely.many in
      record {
        row = row_asks;
        limits = good.limits;
        credits = good.credits;
        delta = most.0;
        rho = most.1;
        reservation = next.reservation;
        limit = next.limit;
        share = next.share;
      }

  -- the tags by the numbers are the request's
  module _ (s : Stamp) (es : s ≡ stamp_of i now (raised a (guest_form.read (line_at guest_wide gs a.guest)))) where
    stamp_is : s ≡ stamp_of i now (raised a (owner t.guests a.guest))
    stamp_is = es ∙ ap (λ (h : Guest). stamp_of i now (raised a h)) (sym (guest_is g gs ws fs k a.guest known))

    request_is : request_of a s ≡ stamped_for i now a t
    unfolding stamped
    request_is = ap (request_of a) stamp_is

    abbrev low : ℕ
    low = lowest (map Request.stag t.waiting)

    abbrev high : ℕ
    high = highest (map Request.stag t.waiting)

    passing_as : passing i now a t ≡ not (moves_fit i now low high && lawful_tags s.rtag s.ltag s.stag)
    passing_as =
        passing_is now t ready.timely.late z.firm.tags_fit i a
        ∙ ap (λ (x : Stamp). not (moves_fit i now low high && lawful_tags x.rtag x.ltag x.stag)) (sym stamp_is)

    refused_so : passing i now a t ≡ true → verdict t ev ≡ refuse TagAboveCeiling
    refused_so = arrival_passing g gs ws fs k a now known ready.timely.late ready.timely.early ready.timely.cheap ready.timely.many ready.new ready.free i e

    -- a tag given would pass the ceiling
    pub stamp_passes : lawful_tags s.rtag s.ltag s.stag ≡ false → verdict t ev ≡ refuse TagAboveCeiling
    stamp_passes h = refused_so (passing_as ∙ go (moves_fit i now low high))
      where
        go : (b : Bool) → not (b && lawful_tags s.rtag s.ltag s.stag) ≡ true
        go true = rw h
        go false = refl

    -- a tag moved would pass the ceiling
    pub move_passes : moves_fit i now low high ≡ false → verdict t ev ≡ refuse TagAboveCeiling
    move_passes h = refused_so (passing_as ∙ rw h)

    -- none would
    module _ (fits : lawful_tags s.rtag s.ltag s.stag ≡ true) (moves : moves_fit i now low high ≡ true) where
      passes_not : passing i now a t ≡ false
      passes_not = passing_as ∙ rw (moves, fits)

      -- the numbers that show the settled table
      module _ (hs vs : List ℕ) (ph : hs ≡ over_rows guest_form g.guests (adjusted i now t).guests gs) (pv : vs ≡ over_rows request_form g.setup.capacity (adjusted i now t).waiting ws) where
        abbrev At : Request → Type 0
        At q = EntersAt ev g gs ws fs (placed_gate now g) (followed a.guest q.rtag q.ltag q.stag q.cost hs) (appended g.waiting q vs) fs

        -- the request placed so enters
        pub ready_enters : a.id < 4294967296 → (h : Gate) (os ps : List ℕ) → Placed g hs vs a now s h os ps → EntersAt ev g gs ws fs h os ps fs
        ready_enters bits h os ps p =
            subst (λ (x : Gate). EntersAt ev g gs ws fs x os ps fs) (sym p.gate)
            (subst (λ (x : List ℕ). EntersAt ev g gs ws fs (placed_gate now g) x ps fs) (sym p.guests)
            (subst (λ (x : List ℕ). EntersAt ev g gs ws fs (placed_gate now g) (followed a.guest s.rtag s.ltag s.stag a.cost hs) x fs) (sym p.waiting)
            (subst At (sym request_is)
            (arrival_enters g gs ws fs k a now known ready.timely.late ready.timely.early ready.timely.cheap ready.timely.many ready.new ready.free i e passes_not hs vs ph pv bits))))

        -- there is room for the request, and its guest's next numbers fit
        pub placeable : Placeable g hs vs a s
        placeable =
            let c = lawful_is (record { guest = 0; id = 0; rtag = s.rtag; ltag = s.ltag; stag = s.stag; cost = 0 }) fits in
            let n : length (adjusted i now t).guests ≡ g.guests = same_count (adjusted i now t) t (adjusted-settings i now t) ∙ length-rows guest_form gs g.guests in
            let rows : guests_of hs g.guests ≡ (adjusted i now t).guests =
            ap (λ (m : ℕ). guests_of hs m) (sym n) ∙ ap (λ (x : List ℕ). guests_of x (length (adjusted i now t).guests)) ph
            ∙ rows-over guest_form guest_exact g.guests (adjusted i now t).guests gs k.guest_room (omega (arith, n)) in
            let own : (owner (adjusted i now t).guests a.guest).settings ≡ (owner t.guests a.guest).settings = same-owner (adjusted i now t) t (adjusted-settings i now t) a.guest in
            let at : owner (guests_of hs g.guests) a.guest ≡ guest_form.read (line_at guest_wide hs a.guest) = row-at guest_form hs g.guests a.guest known in
            let limits : get_or hs (a.guest * guest_wide + LIMIT) 0 ≡ (owner t.guests a.guest).settings.limit =
            sym (ap (λ (x : Guest). x.settings.limit) at) ∙ ap (λ (x : List Guest). (owner x a.guest).settings.limit) rows ∙ ap Settings.limit own in
            let free : g.waiting ≡ g.setup.capacity → ⊥ = ready.free in
            let fit : g.waiting < g.setup.capacity = let w = z.waits in omega arith in
            record {
              waits = omega (arith, fit, z.counts.capacities.1);
              row = omega (arith, fit, k.waiting_room, ap length pv, length-over-rows request_form request_exact g.setup.capacity (adjusted i now t).waiting ws);
              owner = omega (arith, row_asks, ap length ph, length-over-rows guest_form guest_exact g.guests (adjusted i now t).guests gs);
              limit = omega (arith, limits, (z.settles a.guest known).limits);
              cost = (fair_is a.cost ready.timely.cheap).1;
              rtag = c.reservation;
              ltag = c.limit;
              stag = c.share;
            }
