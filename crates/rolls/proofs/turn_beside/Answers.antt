-- `turn_beside` meets its contract: what the events made of the places that the gate has is what they make of all that are lent. Assumes nothing.
use Prim.Native.Nat.{◌*◌}
use mathlib.Core.Path.{refl}
use native.Mathlib.Omega.{arith}
use lib.ListN.{take}
use Rattle.windows.proofs.Windows.{window_blank, window_long}
use Rattle.windows.proofs.Longer.{open_asks, front_fits, front_long}
use Rattle.rolls.proofs.Shown.{front-firm, front-after}
use Rattle.rolls.proofs.turn_beside.Goals as goal

pub open-requires : goal.open-requires
open-requires c =
    let o = open_asks c.args.first c.args.guests.now c.args.waiting.now c.args.flight.now c.requires.firm.known in
    let f = front_fits c.args.first c.args.guests.now c.args.waiting.now c.args.flight.now c.requires.firm.known in record {
      size_in_bounds = (c.requires.firm.known.waiting_room, omega (arith, f), window_blank 7680);
      rows_le_most_capacity = (o.0, o.1, refl);
      by_index = o.2;
    }

pub turn_in-turned-requires : goal.turn_in-turned-requires
turn_in-turned-requires c =
    let a = c.args in
    let o = c.open in
    let f = front_fits a.first a.guests.now a.waiting.now a.flight.now c.requires.firm.known in
    let long = front_long a.first a.guests.now a.waiting.now a.flight.now c.requires.firm.known in record {
      bytes_bound = c.requires.bytes_bound;
      size_in_bounds = (λ some. omega (arith, f, o.auto.window));
      by_index = (take (a.first.setup.capacity * 6) a.waiting.now, o.ensures.window, front-firm a.number a.first a.guests.now a.waiting.now a.flight.now a.book.now a.figures.now c.requires.firm, (λ some. o.ensures.indexed), (λ some. long));
    }

pub close-requires : goal.close-requires
close-requires c =
    let x = c.turn_in-turned.ensures (take (c.args.first.setup.capacity * 6) c.args.waiting.now) c.open.ensures.window in record {
      by_index = (x.0, x.1);
      size_in_bounds = c.requires.firm.known.waiting_room;
    }

pub returns : goal.returns
returns c =
    let a = c.args in
    let t = c.turn_in-turned in
    let x = t.ensures (take (a.first.setup.capacity * 6) a.waiting.now) c.open.ensures.window in
    let long = window_long (a.first.setup.capacity * 6) t.result.start t.new.window x.0 x.1 in
    let z = front-after a.number a.first a.guests.now a.waiting.now a.flight.now a.book.now a.figures.now c.requires.firm _ t.result.gate _ x.0 _ _ _ _ long x.2 x.3 in
    let e = c.close.ensures x.0 x.1 in record {
      figures_after = rw e z.0;
      firm_2 = rw e z.1;
    }
