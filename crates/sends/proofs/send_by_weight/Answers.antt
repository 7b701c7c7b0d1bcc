-- `send_by_weight` meets its contract: what the drop behind the send asks holds, for what goes is the first of its guest. Assumes nothing.
use mathlib.Core.Path.{sym, ◌∙◌}
use native.Mathlib.Omega.{arith}
use Rattle.rules.specs.declared.Phase.TheVariants.{Weight}
use Rattle.table.proofs.Facts.{rows_ask}
use Rattle.index.proofs.Laws.{stood-kept, stands_sent}
use Rattle.sends.proofs.Besides.{leave_asks, behind_asks, beside_sent}
use Rattle.sends.proofs.Phases.{sent_asks}
use Rattle.sends.proofs.Returns.{narrow_id, drop-asked, weight_returns}
use Rattle.sends.proofs.send_by_weight.Goals as goal

pub leave-gone-requires : goal.leave-gone-requires
leave-gone-requires c =
    let l =
    leave_asks c.args.gate c.args.guests.now c.args.waiting.now c.args.flight.now c.requires.known c.args.place c.requires.flight_lt_depth.1 c.requires.flight_lt_depth.0 c.requires.first_of c.args.index.now c.requires.beside
    in record {
      place_lt_count = l.0;
      count_le_most_capacity = l.1.0;
      beside = l.1.1;
    }

pub overflow_cast-id : goal.overflow_cast-id
overflow_cast-id c =
    let n = c.leave-gone in
    omega (arith, narrow_id c.args.gate c.args.guests.now c.args.waiting.now c.args.flight.now c.requires.known c.args.place c.requires.flight_lt_depth.1 n.result n.ensures.named)

pub overflow_sub-count : goal.overflow_sub-count
overflow_sub-count c = omega (arith, c.requires.flight_lt_depth.1)

pub drop_behind-requires : goal.drop_behind-requires
drop_behind-requires c =
    let n = c.leave-gone in
    let e = stood-kept c.args.index.now _ _ n.auto.index in
    let a = drop-asked c.args.gate c.args.guests.now c.args.waiting.now c.args.flight.now c.requires.known c.requires.flight_lt_depth.0 c.args.place c.requires.flight_lt_depth.1 c.requires.first_of n.result _ (e ∙ n.ensures.waiting_after) n.ensures.named in record {
      guest_wide_in_bounds = (a.0.0, omega (arith, n.auto.waiting, (rows_ask c.args.gate c.args.guests.now c.args.waiting.now c.args.flight.now c.requires.known).1, c.requires.flight_lt_depth.1));
      cost_le_most_cost = a.1;
      guest_lt_most_guests = behind_asks c.args.gate c.args.guests.now c.args.waiting.now c.args.flight.now c.requires.known c.args.place c.requires.flight_lt_depth.1 n.result.guest n.ensures.named.0 (rw e n.ensures.beside_2);
    }

pub sent-requires : goal.sent-requires
sent-requires c =
    sent_asks c.args.gate c.args.guests.now c.args.waiting.now c.args.flight.now c.requires.known c.requires.flight_lt_depth.0 c.args.place c.requires.flight_lt_depth.1

pub returns : goal.returns
returns c =
    let n = c.leave-gone in
    let d = c.drop_behind in
    let e = stood-kept c.args.index.now _ _ n.auto.index in
    let f = sym (stood-kept c.args.index.now _ _ n.auto.index) in
    let h = stands_sent c.args.index.now _ _ c.args.gate c.sent.ensures in record {
      leaves = weight_returns c.args.gate c.args.guests.now c.args.waiting.now c.args.flight.now c.requires.known c.requires.flight_lt_depth.0 c.args.place c.requires.flight_lt_depth.1 n.result _ _ _ _ _
          (e ∙ n.ensures.waiting_after) n.ensures.flight_after n.ensures.named d.ensures.guests_after (h ∙ f ∙ d.ensures.waiting_after) c.sent.ensures;
      beside_2 = beside_sent c.args.gate Weight n.result.guest _ _ c.sent.ensures (rw (h, f) d.ensures.beside);
    }
