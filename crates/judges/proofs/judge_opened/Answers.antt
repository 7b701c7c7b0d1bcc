-- `judge_opened` meets its contract: the tables show the fresh one, and the events follow. Assumes nothing.
use mathlib.Core.Path.{refl, sym, ap, ◌∙◌}
use native.Mathlib.Omega.{arith}
use Rattle.lines.specs.Line.{title_line}
use Rattle.judge.specs.Judging.{judged_from}
use Rattle.begin.proofs.Begins.{sizes}
use Rattle.judge.proofs.OneLine.{strips_begins}
use Rattle.judge.proofs.Heads.{opened_wrong, opened_right}
use Rattle.judges.proofs.judge_opened.Goals as goal

pub returns-in_default : goal.returns-in_default
returns-in_default c =
    opened_wrong c.args.trace.now c.args.said.now c.args.opened c.requires _ (sym (strips_begins title_line c.args.said.now _ (sym c.in_default.ensures.cases))) refl

pub open_tables-tables-requires : goal.open_tables-tables-requires
open_tables-tables-requires c = record {
  bytes_value = c.requires;
  largest = record { settings = omega arith; guests = omega arith; waiting = omega arith; flight = omega arith };
}

pub body-at-requires : goal.body-at-requires
body-at-requires c =
    omega (arith, (sizes c.args.trace.now c.args.opened c.requires).guests)

pub slice_bounds-judge_events-count : goal.slice_bounds-judge_events-count
slice_bounds-judge_events-count c =
    omega (arith, c.body-at.ensures, (sizes c.args.trace.now c.args.opened c.requires).whole)

pub slice_bounds-judge_events-start : goal.slice_bounds-judge_events-start
slice_bounds-judge_events-start c =
    omega (arith, c.body-at.ensures, (sizes c.args.trace.now c.args.opened c.requires).whole)

pub judge_events-requires : goal.judge_events-requires
judge_events-requires c = c.open_tables-tables.ensures.became.known

pub returns : goal.returns
returns c =
    let s = c.in-Some.ensures.cases in
    opened_right c.args.trace.now c.args.said.now c.args.opened c.requires _ (sym (strips_begins title_line c.args.said.now _ (sym s.0))) _ c.open_tables-tables.ensures.shown _ c.body-at.ensures
    (c.judge_events.ensures ∙ ap (judged_from 0 _ _) s.1)
