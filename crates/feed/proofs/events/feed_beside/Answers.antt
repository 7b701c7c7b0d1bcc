-- `events::feed_beside` meets its contract: what was judged on the places that the gate has was judged on all that are lent. Assumes nothing.
use Prim.Native.Nat.{ℕ, ◌*◌}
use mathlib.Core.Path.{refl, sym, subst}
use mathlib.Core.List.{List}
use native.Mathlib.Omega.{arith}
use lib.ListN.{take}
use Rattle.windows.proofs.Windows.{window_blank, window_long}
use Rattle.windows.proofs.Longer.{open_asks, front_fits, front-known, front_long}
use Rattle.feed.specs.Promise.{FedBy}
use Rattle.feed.proofs.Staged.{fed_whole}
use Rattle.feed.proofs.events.feed_beside.Goals as goal

pub open-requires : goal.open-requires
open-requires c =
    let a = open_asks c.args.first c.args.guests.now c.args.waiting.now c.args.flight.now c.requires.known in
    let f = front_fits c.args.first c.args.guests.now c.args.waiting.now c.args.flight.now c.requires.known in record {
      size_in_bounds = (c.requires.known.waiting_room, omega (arith, f), window_blank 7680);
      rows_le_most_capacity = (a.0, a.1, refl);
      by_index = a.2;
    }

pub feed_in-made-requires : goal.feed_in-made-requires
feed_in-made-requires c =
    let o = c.open in
    let f = front_fits c.args.first c.args.guests.now c.args.waiting.now c.args.flight.now c.requires.known in
    let known = front-known c.args.first c.args.guests.now c.args.waiting.now c.args.flight.now c.requires.known in
    let long = front_long c.args.first c.args.guests.now c.args.waiting.now c.args.flight.now c.requires.known in record {
      bytes_bound = c.requires.bytes_bound;
      size_in_bounds = (λ some. omega (arith, f, o.auto.window));
      by_index = (take (c.args.first.setup.capacity * 6) c.args.waiting.now, o.ensures.window, known, (λ some. o.ensures.indexed), (λ some. long));
    }

pub close-requires : goal.close-requires
close-requires c =
    let f = c.feed_in-made in
    let g = f.ensures (take (c.args.first.setup.capacity * 6) c.args.waiting.now) c.open.ensures.window in record {
      by_index = (g.0, g.1);
      size_in_bounds = c.requires.known.waiting_room;
    }

pub returns : goal.returns
returns c =
    let f = c.feed_in-made in
    let g = f.ensures (take (c.args.first.setup.capacity * 6) c.args.waiting.now) c.open.ensures.window in
    let e = c.close.ensures g.0 g.1 in
    subst (λ (xs : List ℕ). FedBy c.args.version c.args.bytes.now c.args.number c.args.first c.args.guests.now c.args.waiting.now c.args.flight.now f.result.fed.gate f.new.guests xs f.new.flight c.args.out.now f.new.out f.result.fed.events f.result.fed.bytes) (sym e)
    (fed_whole c.args.version c.args.bytes.now c.args.number c.args.first c.args.guests.now c.args.waiting.now c.args.flight.now c.requires.known f.result.fed.gate _ g.0 _ _ _ f.result.fed.events f.result.fed.bytes g.2
    (window_long (c.args.first.setup.capacity * 6) f.result.start _ g.0 g.1))
