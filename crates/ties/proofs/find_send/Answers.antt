-- `ties::find_send` meets its contract: a request that ties, and whether it is the first of its guest. Assumes nothing.
use mathlib.Core.Path.{sym, subst}
use Rattle.table.specs.View.{table_of}
use Rattle.judge.specs.Hearing.{Finds}
use Rattle.judge.proofs.Ties.{row-there}
use Rattle.judge.proofs.Heard.{tells-here, finds-none, finds-first}
use Rattle.ties.proofs.find_send.Goals as goal

pub returns-in_err-told : goal.returns-in_err-told
returns-in_err-told c =
    let a = c.args in
    λ fs. subst (Finds a.number a.said.now a.phase (table_of a.gate a.guests.now a.waiting.now fs) a.place) (sym c.from_residual.ensures)
    (finds-none a.number a.said.now a.phase (table_of a.gate a.guests.now a.waiting.now fs) a.place (c.in_err-told.ensures fs))

pub leads_here-requires : goal.leads_here-requires
leads_here-requires c =
    let a = c.args in
    let r = c.in_ok-told in
    let here = tells-here a.gate a.guests.now a.waiting.now c.requires.lending.0 a.number a.said.now a.phase a.place r.told (r.ensures c.requires.lending.0) in record {
      place_lt_count = (here, (row-there a.gate a.guests.now a.waiting.now c.requires.lending.0 c.requires.lending.1 r.told.place here).0);
      beside = c.requires.beside;
    }

pub returns : goal.returns
returns c =
    let a = c.args in
    let r = c.in_ok-told in
    λ fs. subst (Finds a.number a.said.now a.phase (table_of a.gate a.guests.now a.waiting.now fs) a.place) (sym c.then_some.ensures)
    (finds-first a.number a.said.now a.phase (table_of a.gate a.guests.now a.waiting.now fs) a.place r.told (r.ensures fs) _ c.leads_here.ensures)
