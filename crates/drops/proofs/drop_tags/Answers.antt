use Rattle.rules.proofs.Spacings.{down_le}
use Rattle.table.specs.Columns.{RESERVATION, guest_at}
use Rattle.drops.specs.Lower.{no_next-dropped, no_tags-dropped, fallen_is}
use Rattle.drops.proofs.drop_tags.Goals as goal

pub returns-in_default : goal.returns-in_default
returns-in_default c =
    let a = c.args in record {
      guests_after = no_next-dropped a.guest a.cost a.guests.now c.in_default.ensures a.waiting.now a.count c.requires.cost_le_most_cost.2;
      waiting_after = no_tags-dropped a.guest a.cost a.guests.now c.in_default.ensures a.waiting.now a.count;
    }

pub lower-next-requires : goal.lower-next-requires
lower-next-requires c =
    let a = c.args in
    (c.requires.guest_wide_in_bounds.1, rw c.in-Some.ensures.spacing (down_le (guest_at a.guests.now a.guest RESERVATION)), c.requires.cost_le_most_cost.1)

pub returns : goal.returns
returns c =
    let a = c.args in
    let w = c.lower-next in
    let e = fallen_is a.guest a.cost a.count a.guests.now a.waiting.now c.in-Some.ensures w.ensures.waiting_after w.ensures.value in
    record { guests_after = e.0; waiting_after = e.1 }
