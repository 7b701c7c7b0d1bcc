-- `ties::says_tied` meets its contract: a request that is tied, and its line. Assumes nothing.
use mathlib.Core.Path.{ap, ◌∙◌}
use mathlib.Core.Bool.{Bool}
use borrow.Author.Tests.{not-true, not-false}
use Rattle.rules.specs.declared.Answer.TheVariants.{Sent}
use Rattle.table.specs.Columns.{GUEST, ID, waiting_at}
use Rattle.lines.specs.Line.{line_of}
use Rattle.judge.specs.Hearing.{size_if}
use Rattle.judge.proofs.Ties.{row-there, id_there, size_untied, size-tied, named_any}
use mathlib.Core.Bool.{not}
use Rattle.ties.proofs.says_tied.Goals as goal

pub returns-then-not-is_tied : goal.returns-then-not-is_tied
returns-then-not-is_tied c =
    let line = line_of c.args.number (Sent c.args.phase (waiting_at c.args.waiting.now c.args.place GUEST) (waiting_at c.args.waiting.now c.args.place ID)) in
    λ es. size_untied c.args.gate c.args.guests.now c.args.waiting.now c.requires.lending.0.0 c.requires.lending.0.1 c.args.place c.requires.lending.1 c.args.phase c.args.tag c.args.number c.args.said.now _ (c.is_tied.ensures c.requires.lending.0.0) (not-true _ (ap not c.if-not-is_tied.true))
    ∙ ap (λ (b : Bool). size_if b line) (named_any c.args.gate c.args.guests.now c.args.waiting.now c.requires.lending.0.0 c.requires.lending.0.1 c.args.place c.requires.lending.1 c.args.phase c.args.tag c.args.number c.args.said.now es)

pub send_of-answer-requires : goal.send_of-answer-requires
send_of-answer-requires c =
    ((row-there c.args.gate c.args.guests.now c.args.waiting.now c.requires.lending.0.0 c.requires.lending.0.1 c.args.place c.requires.lending.1).0, id_there c.args.gate c.args.guests.now c.args.waiting.now c.requires.lending.0.0 c.requires.lending.0.1 c.args.place c.requires.lending.1)

pub returns : goal.returns
returns c =
    let line = line_of c.args.number (Sent c.args.phase (waiting_at c.args.waiting.now c.args.place GUEST) (waiting_at c.args.waiting.now c.args.place ID)) in
    λ es. size-tied c.args.gate c.args.guests.now c.args.waiting.now c.requires.lending.0.0 c.requires.lending.0.1 c.args.place c.requires.lending.1 c.args.phase c.args.tag c.args.number c.args.said.now _ (c.is_tied.ensures c.requires.lending.0.0) (not-false _ (ap not c.if-not-is_tied.false)) _ c.send_of-answer.ensures _ c.says.ensures
    ∙ ap (λ (b : Bool). size_if b line) (named_any c.args.gate c.args.guests.now c.args.waiting.now c.requires.lending.0.0 c.requires.lending.0.1 c.args.place c.requires.lending.1 c.args.phase c.args.tag c.args.number c.args.said.now es)
