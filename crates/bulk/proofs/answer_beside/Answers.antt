-- What was done on the places that the gate has was done on all that are lent. Assumes nothing.
use Prim.Native.Nat.{ℕ, ◌*◌}
use mathlib.Core.Path.{refl, sym, subst}
use mathlib.Core.List.{List}
use native.Mathlib.Omega.{arith}
use lib.ListN.{take}
use Rattle.gate.specs.Promise.{numbers}
use Rattle.windows.proofs.Windows.{window_blank}
use Rattle.windows.proofs.Longer.{open_asks, front_fits, front-known, front_long}
use Rattle.batch.specs.Promise.{host_of}
use Rattle.batch.specs.Turns.{Ran}
use Rattle.bulk.proofs.Fronts.{front_ran}
use Rattle.bulk.proofs.answer_beside.Goals as goal

pub open-requires : goal.open-requires
open-requires c =
    let a = open_asks c.args.gate c.args.guests.now c.args.waiting.now c.args.flight.now c.requires.known in
    let f = front_fits c.args.gate c.args.guests.now c.args.waiting.now c.args.flight.now c.requires.known in record {
      size_in_bounds = (c.requires.known.waiting_room, omega (arith, f), window_blank 7680);
      rows_le_most_capacity = (a.0, a.1, refl);
      by_index = a.2;
    }

pub answer_rows_in-ended-requires : goal.answer_rows_in-ended-requires
answer_rows_in-ended-requires c =
    let o = c.«open» in
    let f = front_fits c.args.gate c.args.guests.now c.args.waiting.now c.args.flight.now c.requires.known in
    let known = front-known c.args.gate c.args.guests.now c.args.waiting.now c.args.flight.now c.requires.known in
    let long = front_long c.args.gate c.args.guests.now c.args.waiting.now c.args.flight.now c.requires.known in record {
      answer_wide_in_bounds = c.requires.answer_wide_in_bounds;
      size_in_bounds = (λ some. omega (arith, f, o.auto.window));
      by_index = (take (c.args.gate.setup.capacity * 6) c.args.waiting.now, o.ensures.window, known, (λ some. o.ensures.indexed), (λ some. long));
    }

pub close-requires : goal.close-requires
close-requires c =
    let f = c.answer_rows_in-ended in
    let g = f.ensures (take (c.args.gate.setup.capacity * 6) c.args.waiting.now) c.«open».ensures.window in record {
      by_index = (g.0, g.1);
      size_in_bounds = c.requires.known.waiting_room;
    }

pub returns : goal.returns
returns c =
    let a = c.args in
    let f = c.answer_rows_in-ended in
    let g = f.ensures (take (a.gate.setup.capacity * 6) a.waiting.now) c.«open».ensures.window in
    subst (λ (xs : List ℕ). Ran a.events.now (host_of numbers a.gate a.guests.now a.waiting.now a.flight.now) a.answers.now (host_of numbers f.result.gate f.new.guests xs f.new.flight) f.new.answers) (sym (c.close.ensures g.0 g.1))
    (front_ran a.events.now a.answers.now a.gate a.guests.now a.waiting.now a.flight.now c.requires.known.waiting_room f.result.gate f.new.guests g.0 f.new.flight f.new.answers g.2)
