-- `noted` meets its contract, by the kinds of an event. Assumes nothing.
use mathlib.Core.Path.{refl, subst}
use lib.Dec.{lit<}
use Rattle.rules.specs.declared.Event.{Event}
use Rattle.booked.specs.Turns.{Notable}
use Rattle.booked.proofs.noted.Goals as goal

pub came-requires : goal.came-requires
came-requires c =
    subst (λ (e : Event). Notable e c.args.gate c.args.waiting.now c.args.book.now c.args.figures.now) c.in-Arrival.is c.requires

pub count-requires : goal.count-requires
count-requires c =
    let p = subst (λ (e : Event). Notable e c.args.gate c.args.waiting.now c.args.book.now c.args.figures.now) c.in-Completion.is c.requires in record {
      guest_lt_most_guests = (p.0, p.1, lit< tt);
      column_bound = p.2;
    }

pub returns-in-Arrival : goal.returns-in-Arrival
returns-in-Arrival c = rw c.in-Arrival.is c.came.ensures

pub returns-in-Completion : goal.returns-in-Completion
returns-in-Completion c = rw c.in-Completion.is (record { book_after = refl; figures_after = c.count.ensures })
