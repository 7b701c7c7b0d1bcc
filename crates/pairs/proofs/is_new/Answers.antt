-- The places passed have another name.
use mathlib.Core.Path.{ap, sym, ◌∙◌}
use mathlib.Core.Bool.{not}
use Rattle.lists.specs.Walks.{below_fails}
use Rattle.pairs.specs.Names.{other_at}
use Rattle.pairs.proofs.is_new.Goals as goal

pub returns-then-eq : goal.returns-then-eq
returns-then-eq c =
    let s = c.loop-j in
    let a = c.args in
    let same = rw (c.name_at.ensures.0, c.name_at.ensures.1, c.name_at-name.ensures.0, c.name_at-name.ensures.1) at c.eq.ensures in
    sym (below_fails (other_at a.waiting.now a.count a.flight.now a.k) a.k s.j c.loop-j-test.true (ap not (sym same ∙ c.if-eq.true)))
