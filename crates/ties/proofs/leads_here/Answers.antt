-- `ties::leads_here` meets its contract: by the walk, or by what the index says of its guest. Assumes nothing.
use mathlib.Core.Path.{sym, ◌∙◌}
use native.Mathlib.Omega.{arith}
use borrow.Author.Tests.{eqb-false}
use Rattle.ties.proofs.Leads.{first_said}
use Rattle.ties.proofs.leads_here.Goals as goal

pub returns-then-is_empty : goal.returns-then-is_empty
returns-then-is_empty c = c.is_first.ensures c.args.count c.requires.place_lt_count.0

pub offset_bounds-index-guest : goal.offset_bounds-index-guest
offset_bounds-index-guest c =
    let i = c.requires.beside (omega (arith, eqb-false _ _ (sym c.is_empty.ensures ∙ c.if-is_empty.false))) in
    omega (arith, i.owned c.args.place c.requires.place_lt_count.0)

pub bounds-index-guest : goal.bounds-index-guest
bounds-index-guest c =
    let i = c.requires.beside (omega (arith, eqb-false _ _ (sym c.is_empty.ensures ∙ c.if-is_empty.false))) in
    omega (arith, i.long, i.owned c.args.place c.requires.place_lt_count.0)

pub returns : goal.returns
returns c =
    first_said c.args.waiting.now c.args.index.now c.args.count c.args.place c.requires.place_lt_count.0 (c.requires.beside (omega (arith, eqb-false _ _ (sym c.is_empty.ensures ∙ c.if-is_empty.false))))
