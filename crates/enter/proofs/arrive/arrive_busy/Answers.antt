-- `arrive::arrive_busy` meets its contract, by what its callees promise. Assumes nothing.
use mathlib.Core.Path.{refl, sym, ◌∙◌}
use mathlib.Core.Bool.{false}
use native.Mathlib.Omega.{arith}
use Rattle.enter.proofs.ArriveReturns.{tags_ask, stamp_passes, ready_enters, placeable}
use Rattle.enter.proofs.Settles.{busy_guests, busy_waiting}
use Rattle.enter.proofs.Besides.{last_asks}
use Rattle.enter.proofs.arrive.arrive_busy.Goals as goal

pub tags_of-stamp-requires : goal.tags_of-stamp-requires
tags_of-stamp-requires c =
    tags_ask c.args.gate c.args.guests.now c.args.waiting.now c.args.flight.now c.requires.known c.args.what c.args.time c.requires.ready false c.requires.guest_value

pub returns-then-not-fits : goal.returns-then-not-fits
returns-then-not-fits c =
    let w = c.tags_of-stamp in record {
      enters = (stamp_passes c.args.gate c.args.guests.now c.args.waiting.now c.args.flight.now c.requires.known c.args.what c.args.time c.requires.ready false c.requires.guest_value w.result w.ensures (sym c.fits.ensures ∙ c.if-not-fits.true), refl, refl, refl);
      enters_beside = c.requires.beside;
    }

pub place_last-requires : goal.place_last-requires
place_last-requires c =
    let w = c.tags_of-stamp in
    let fits = sym c.fits.ensures ∙ c.if-not-fits.false in record {
      placeable = placeable c.args.gate c.args.guests.now c.args.waiting.now c.args.flight.now c.requires.known c.args.what c.args.time c.requires.ready false c.requires.guest_value w.result w.ensures fits refl c.args.guests.now c.args.waiting.now
          (busy_guests c.args.gate c.args.guests.now c.args.waiting.now c.args.flight.now c.requires.known c.args.time) (busy_waiting c.args.gate c.args.guests.now c.args.waiting.now c.args.flight.now c.requires.known c.args.time);
      waiting_lt_most_capacity = last_asks c.args.gate c.args.guests.now c.args.waiting.now c.args.flight.now c.requires.known c.args.what c.args.time c.requires.ready c.requires.beside;
    }

pub returns : goal.returns
returns c =
    let w = c.tags_of-stamp in
    let fits = sym c.fits.ensures ∙ c.if-not-fits.false in
    let p = c.place_last.ensures in record {
      enters = ready_enters c.args.gate c.args.guests.now c.args.waiting.now c.args.flight.now c.requires.known c.args.what c.args.time c.requires.ready false c.requires.guest_value w.result w.ensures fits refl c.args.guests.now c.args.waiting.now
          (busy_guests c.args.gate c.args.guests.now c.args.waiting.now c.args.flight.now c.requires.known c.args.time) (busy_waiting c.args.gate c.args.guests.now c.args.waiting.now c.args.flight.now c.requires.known c.args.time) (omega arith) _ _ _ p.placed;
      enters_beside = p.beside;
    }
