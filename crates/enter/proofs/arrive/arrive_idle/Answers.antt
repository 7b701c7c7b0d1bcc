-- `arrive::arrive_idle` meets its contract, by what its callees promise. Assumes nothing.
use mathlib.Core.Path.{refl, sym, ◌∙◌}
use mathlib.Core.Bool.{true}
use native.Mathlib.Omega.{arith}
use Rattle.enter.proofs.ArriveReturns.{tags_ask, stamp_passes, move_passes, ready_enters, placeable}
use Rattle.enter.proofs.Settles.{ends_fit, settle_asks, settled_guests, settled-waiting, move_past, move_within}
use Rattle.enter.proofs.Besides.{ends_ask, last_asks, beside_settled}
use Rattle.enter.proofs.arrive.arrive_idle.Goals as goal

pub tags_of-stamp-requires : goal.tags_of-stamp-requires
tags_of-stamp-requires c =
    tags_ask c.args.gate c.args.guests.now c.args.waiting.now c.args.flight.now c.requires.known c.args.what c.args.time c.requires.ready true c.requires.guest_value

pub returns-then-not-fits : goal.returns-then-not-fits
returns-then-not-fits c =
    let w = c.tags_of-stamp in record {
      enters = (stamp_passes c.args.gate c.args.guests.now c.args.waiting.now c.args.flight.now c.requires.known c.args.what c.args.time c.requires.ready true c.requires.guest_value w.result w.ensures (sym c.fits.ensures ∙ c.if-not-fits.true), refl, refl, refl);
      enters_beside = c.requires.beside;
    }

pub ends-span-requires : goal.ends-span-requires
ends-span-requires c =
    let b = ends_ask c.args.gate c.args.guests.now c.args.waiting.now c.args.flight.now c.requires.known c.requires.beside in record { count_le_most_capacity = b.0; owned = b.1.0; beside = b.1.1 }

pub overflow_add-most : goal.overflow_add-most
overflow_add-most c =
    let n = c.ends-span.ensures in
    omega (arith, ends_fit c.args.gate c.args.guests.now c.args.waiting.now c.args.flight.now c.requires.known c.args.time c.requires.ready.timely.late _ _ n.0 n.1)

pub overflow_sub-most : goal.overflow_sub-most
overflow_sub-most c =
    let n = c.ends-span.ensures in
    omega (arith, ends_fit c.args.gate c.args.guests.now c.args.waiting.now c.args.flight.now c.requires.known c.args.time c.requires.ready.timely.late _ _ n.0 n.1)

pub returns-then-most-time-gt-CEILING : goal.returns-then-most-time-gt-CEILING
returns-then-most-time-gt-CEILING c =
    let w = c.tags_of-stamp in
    let n = c.ends-span.ensures in record {
      enters = (
        move_passes c.args.gate c.args.guests.now c.args.waiting.now c.args.flight.now c.requires.known c.args.what c.args.time c.requires.ready true c.requires.guest_value w.result w.ensures
            (move_past c.args.gate c.args.guests.now c.args.waiting.now c.args.flight.now c.requires.known c.args.time c.requires.ready.timely.late _ _ n.0 n.1 c.if-most-time-gt-CEILING.true),
        refl,
        refl,
        refl,
      );
      enters_beside = c.requires.beside;
    }

pub adjust-requires : goal.adjust-requires
adjust-requires c =
    let n = c.ends-span.ensures in
    let b = settle_asks c.args.gate c.args.guests.now c.args.waiting.now c.args.flight.now c.requires.known c.args.time c.requires.ready.timely.late _ n.0 in record { known_le_most_guests = b.0; by_index = b.1.0; tags_move = b.1.1 }

pub place_last-requires : goal.place_last-requires
place_last-requires c =
    let w = c.tags_of-stamp in
    let n = c.ends-span.ensures in
    let d = c.adjust.ensures in
    let fits = sym c.fits.ensures ∙ c.if-not-fits.false in
    let moves = move_within c.args.gate c.args.guests.now c.args.waiting.now c.args.flight.now c.requires.known c.args.time c.requires.ready.timely.late _ _ n.0 n.1 c.if-most-time-gt-CEILING.false in record {
      placeable = placeable c.args.gate c.args.guests.now c.args.waiting.now c.args.flight.now c.requires.known c.args.what c.args.time c.requires.ready true c.requires.guest_value w.result w.ensures fits moves _ _
          (settled_guests c.args.gate c.args.guests.now c.args.waiting.now c.args.flight.now c.requires.known c.args.time c.requires.ready.timely.late _ n.0 _ d.guests_after)
          (settled-waiting c.args.gate c.args.guests.now c.args.waiting.now c.args.flight.now c.requires.known c.args.time c.requires.ready.timely.late _ n.0 _ d.waiting_after);
      waiting_lt_most_capacity = last_asks c.args.gate c.args.guests.now c.args.waiting.now c.args.flight.now c.requires.known c.args.what c.args.time c.requires.ready (beside_settled c.args.waiting.now _ c.args.index.now c.args.gate.waiting c.args.time _ d.waiting_after c.requires.beside);
    }

pub returns : goal.returns
returns c =
    let w = c.tags_of-stamp in
    let n = c.ends-span.ensures in
    let d = c.adjust.ensures in
    let fits = sym c.fits.ensures ∙ c.if-not-fits.false in
    let moves = move_within c.args.gate c.args.guests.now c.args.waiting.now c.args.flight.now c.requires.known c.args.time c.requires.ready.timely.late _ _ n.0 n.1 c.if-most-time-gt-CEILING.false in
    let p = c.place_last.ensures in record {
      enters = ready_enters c.args.gate c.args.guests.now c.args.waiting.now c.args.flight.now c.requires.known c.args.what c.args.time c.requires.ready true c.requires.guest_value w.result w.ensures fits moves _ _
          (settled_guests c.args.gate c.args.guests.now c.args.waiting.now c.args.flight.now c.requires.known c.args.time c.requires.ready.timely.late _ n.0 _ d.guests_after)
          (settled-waiting c.args.gate c.args.guests.now c.args.waiting.now c.args.flight.now c.requires.known c.args.time c.requires.ready.timely.late _ n.0 _ d.waiting_after) (omega arith) _ _ _ p.placed;
      enters_beside = p.beside;
    }
