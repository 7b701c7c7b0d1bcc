-- `ties::find_tied` meets its contract. The loop's invariant: no request before place i has a line that was heard. Assumes nothing.
use mathlib.Core.Path.{sym, ◌∙◌}
use native.Mathlib.Omega.{arith}
use Rattle.std.specs.Prelude.{Some, None}
use borrow.Author.Count.{below_more}
use Rattle.judge.proofs.Ties.{row-there, place_here, tag-timely, none_before, tells-one, tells_none, tells_any, size_none}
use Rattle.ties.proofs.find_tied.Goals as goal

pub tag_at-tag-requires : goal.tag_at-tag-requires
tag_at-tag-requires c =
    (row-there c.args.gate c.args.guests.now c.args.waiting.now c.requires.lending.0 c.requires.lending.1 c.args.place (place_here c.args.gate c.args.guests.now c.args.waiting.now c.requires.lending.0 c.requires.lending.1 c.args.place c.args.phase (c.requires.by_index c.requires.lending.0))).0

pub loop-i-init : goal.loop-i-init
loop-i-init c =
    λ fs k j l. none_before c.args.gate c.args.guests.now c.args.waiting.now fs k c.args.place c.args.phase (c.requires.by_index fs) _ c.tag_at-tag.ensures c.args.number c.args.said.now j l

pub says_tied-heard-requires : goal.says_tied-heard-requires
says_tied-heard-requires c =
    record {
      lending = (c.requires.lending, omega arith);
      latest_value = (c.latest_in-latest.ensures, tag-timely c.args.gate c.args.guests.now c.args.waiting.now c.requires.lending.0 c.requires.lending.1 c.args.place c.args.phase (c.requires.by_index c.requires.lending.0) _ c.tag_at-tag.ensures);
    }

pub returns-in-Some : goal.returns-in-Some
returns-in-Some c =
    let l = c.loop-i in
    let fs = c.requires.lending.0 in
    λ es. tells_any c.args.number c.args.said.now c.args.gate c.args.guests.now c.args.waiting.now fs es c.args.phase c.args.place (Some (record { place = l.i; long = c.in-Some.long }))
    (tells-one c.args.gate c.args.guests.now c.args.waiting.now c.requires.lending.0 c.requires.lending.1 c.args.place c.args.phase (c.requires.by_index c.requires.lending.0) _ c.tag_at-tag.ensures c.args.number c.args.said.now l.i c.in-Some.long (omega arith) (l.invariant fs c.requires.lending.1) (sym c.in-Some.is ∙ c.says_tied-heard.ensures fs))

pub loop-i-preserved : goal.loop-i-preserved
loop-i-preserved c =
    λ fs k. below_more _ _ (c.loop-i.invariant fs k) (size_none _ _ (sym c.in_default.is ∙ c.says_tied-heard.ensures fs))

pub returns : goal.returns
returns c =
    let l = c.loop-i in
    let fs = c.requires.lending.0 in
    λ es. tells_any c.args.number c.args.said.now c.args.gate c.args.guests.now c.args.waiting.now fs es c.args.phase c.args.place None
    (tells_none c.args.gate c.args.guests.now c.args.waiting.now c.requires.lending.0 c.requires.lending.1 c.args.place c.args.phase (c.requires.by_index c.requires.lending.0) _ c.tag_at-tag.ensures c.args.number c.args.said.now l.i (omega arith) (l.invariant fs c.requires.lending.1))
