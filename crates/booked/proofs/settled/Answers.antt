-- `settled` meets its contract, by the answer. Assumes nothing.
use mathlib.Core.Path.{subst}
use Rattle.rules.specs.declared.Answer.{Answer}
use Rattle.booked.specs.Turns.{Settles}
use Rattle.booked.proofs.settled.Goals as goal

pub gone-requires : goal.gone-requires
gone-requires c =
    subst (λ (a : Answer). Settles a c.args.gate c.args.book.now c.args.figures.now) c.in-Sent.is c.requires

pub returns-in-Sent : goal.returns-in-Sent
returns-in-Sent c = rw c.in-Sent.is c.gone.ensures
