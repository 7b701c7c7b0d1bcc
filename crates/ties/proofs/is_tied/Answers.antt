-- `ties::is_tied` meets its contract: its three tests are those of the phase, and of the tag. Assumes nothing.
use native.Mathlib.Omega.{arith}
use mathlib.Core.Path.{◌∙◌}
use Rattle.judge.proofs.Ties.{row-there, ties_any, tied-late, tied-none, tied-weight, tied_reservation}
use Rattle.ties.proofs.is_tied.Goals as goal

pub overflow_mul-from : goal.overflow_mul-from
overflow_mul-from c = let r = row-there c.args.gate c.args.guests.now c.args.waiting.now c.requires.lending.0.0 c.requires.lending.0.1 c.args.place c.requires.lending.1 in omega (arith, r.0, r.1, r.2)

pub overflow_add-from : goal.overflow_add-from
overflow_add-from c = let r = row-there c.args.gate c.args.guests.now c.args.waiting.now c.requires.lending.0.0 c.requires.lending.0.1 c.args.place c.requires.lending.1 in omega (arith, r.0, r.1, r.2)

pub offset_bounds-waiting-from : goal.offset_bounds-waiting-from
offset_bounds-waiting-from c = let r = row-there c.args.gate c.args.guests.now c.args.waiting.now c.requires.lending.0.0 c.requires.lending.0.1 c.args.place c.requires.lending.1 in omega (arith, r.0, r.1, r.2)

pub bounds-waiting-from : goal.bounds-waiting-from
bounds-waiting-from c = let r = row-there c.args.gate c.args.guests.now c.args.waiting.now c.requires.lending.0.0 c.requires.lending.0.1 c.args.place c.requires.lending.1 in omega (arith, r.0, r.1, r.2)

pub returns-then-latest-waiting : goal.returns-then-latest-waiting
returns-then-latest-waiting c =
    λ es. tied-late c.args.gate c.args.guests.now c.args.waiting.now c.requires.lending.0.0 c.requires.lending.0.1 c.args.place c.requires.lending.1 c.args.phase c.args.latest c.args.tag c.requires.latest_value.0 c.if-latest-waiting.true ∙ ties_any c.args.gate c.args.guests.now c.args.waiting.now c.requires.lending.0.0 c.requires.lending.0.1 c.args.place c.requires.lending.1 c.args.phase c.args.tag es

pub overflow_add-result : goal.overflow_add-result
overflow_add-result c = let r = row-there c.args.gate c.args.guests.now c.args.waiting.now c.requires.lending.0.0 c.requires.lending.0.1 c.args.place c.requires.lending.1 in omega (arith, r.0, r.1, r.2)

pub offset_bounds-waiting-from-in-Weight : goal.offset_bounds-waiting-from-in-Weight
offset_bounds-waiting-from-in-Weight c = let r = row-there c.args.gate c.args.guests.now c.args.waiting.now c.requires.lending.0.0 c.requires.lending.0.1 c.args.place c.requires.lending.1 in omega (arith, r.0, r.1, r.2)

pub bounds-waiting-from-in-Weight : goal.bounds-waiting-from-in-Weight
bounds-waiting-from-in-Weight c = let r = row-there c.args.gate c.args.guests.now c.args.waiting.now c.requires.lending.0.0 c.requires.lending.0.1 c.args.place c.requires.lending.1 in omega (arith, r.0, r.1, r.2)

pub overflow_add-guest : goal.overflow_add-guest
overflow_add-guest c = let r = row-there c.args.gate c.args.guests.now c.args.waiting.now c.requires.lending.0.0 c.requires.lending.0.1 c.args.place c.requires.lending.1 in omega (arith, r.0, r.1, r.2)

pub offset_bounds-waiting-from-in-Reservation : goal.offset_bounds-waiting-from-in-Reservation
offset_bounds-waiting-from-in-Reservation c = let r = row-there c.args.gate c.args.guests.now c.args.waiting.now c.requires.lending.0.0 c.requires.lending.0.1 c.args.place c.requires.lending.1 in omega (arith, r.0, r.1, r.2)

pub bounds-waiting-from-in-Reservation : goal.bounds-waiting-from-in-Reservation
bounds-waiting-from-in-Reservation c = let r = row-there c.args.gate c.args.guests.now c.args.waiting.now c.requires.lending.0.0 c.requires.lending.0.1 c.args.place c.requires.lending.1 in omega (arith, r.0, r.1, r.2)

pub overflow_mul-guest : goal.overflow_mul-guest
overflow_mul-guest c = let r = row-there c.args.gate c.args.guests.now c.args.waiting.now c.requires.lending.0.0 c.requires.lending.0.1 c.args.place c.requires.lending.1 in omega (arith, r.0, r.1, r.2)

pub overflow_add-guest-in-Reservation : goal.overflow_add-guest-in-Reservation
overflow_add-guest-in-Reservation c = let r = row-there c.args.gate c.args.guests.now c.args.waiting.now c.requires.lending.0.0 c.requires.lending.0.1 c.args.place c.requires.lending.1 in omega (arith, r.0, r.1, r.2)

pub offset_bounds-guests-guest : goal.offset_bounds-guests-guest
offset_bounds-guests-guest c = let r = row-there c.args.gate c.args.guests.now c.args.waiting.now c.requires.lending.0.0 c.requires.lending.0.1 c.args.place c.requires.lending.1 in omega (arith, r.0, r.1, r.2)

pub bounds-guests-guest : goal.bounds-guests-guest
bounds-guests-guest c = let r = row-there c.args.gate c.args.guests.now c.args.waiting.now c.requires.lending.0.0 c.requires.lending.0.1 c.args.place c.requires.lending.1 in omega (arith, r.0, r.1, r.2)

pub returns-then-guests-guest-eq0 : goal.returns-then-guests-guest-eq0
returns-then-guests-guest-eq0 c =
    λ es. tied-none c.args.gate c.args.guests.now c.args.waiting.now c.requires.lending.0.0 c.requires.lending.0.1 c.args.place c.requires.lending.1 c.args.phase c.args.tag c.in-Reservation.is c.if-guests-guest-eq0.true ∙ ties_any c.args.gate c.args.guests.now c.args.waiting.now c.requires.lending.0.0 c.requires.lending.0.1 c.args.place c.requires.lending.1 c.args.phase c.args.tag es

pub overflow_add-result-in-Reservation : goal.overflow_add-result-in-Reservation
overflow_add-result-in-Reservation c = let r = row-there c.args.gate c.args.guests.now c.args.waiting.now c.requires.lending.0.0 c.requires.lending.0.1 c.args.place c.requires.lending.1 in omega (arith, r.0, r.1, r.2)

pub offset_bounds-waiting-from-in-Reservation-2 : goal.offset_bounds-waiting-from-in-Reservation-2
offset_bounds-waiting-from-in-Reservation-2 c = let r = row-there c.args.gate c.args.guests.now c.args.waiting.now c.requires.lending.0.0 c.requires.lending.0.1 c.args.place c.requires.lending.1 in omega (arith, r.0, r.1, r.2)

pub bounds-waiting-from-in-Reservation-2 : goal.bounds-waiting-from-in-Reservation-2
bounds-waiting-from-in-Reservation-2 c = let r = row-there c.args.gate c.args.guests.now c.args.waiting.now c.requires.lending.0.0 c.requires.lending.0.1 c.args.place c.requires.lending.1 in omega (arith, r.0, r.1, r.2)

pub returns-in-Weight : goal.returns-in-Weight
returns-in-Weight c =
    λ es. tied-weight c.args.gate c.args.guests.now c.args.waiting.now c.requires.lending.0.0 c.requires.lending.0.1 c.args.place c.requires.lending.1 c.args.phase c.args.latest c.args.tag c.in-Weight.is c.requires.latest_value.0 c.if-latest-waiting.false ∙ ties_any c.args.gate c.args.guests.now c.args.waiting.now c.requires.lending.0.0 c.requires.lending.0.1 c.args.place c.requires.lending.1 c.args.phase c.args.tag es

pub returns-else-guests-guest-eq0 : goal.returns-else-guests-guest-eq0
returns-else-guests-guest-eq0 c =
    λ es. tied_reservation c.args.gate c.args.guests.now c.args.waiting.now c.requires.lending.0.0 c.requires.lending.0.1 c.args.place c.requires.lending.1 c.args.phase c.args.latest c.args.tag c.in-Reservation.is c.requires.latest_value.0 c.requires.latest_value.1 c.if-latest-waiting.false c.if-guests-guest-eq0.false ∙ ties_any c.args.gate c.args.guests.now c.args.waiting.now c.requires.lending.0.0 c.requires.lending.0.1 c.args.place c.requires.lending.1 c.args.phase c.args.tag es
