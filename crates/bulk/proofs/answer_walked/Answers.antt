-- The lent table is a window that it fills, and no index stands beside it. Assumes nothing.
use Prim.Native.Nat.{ℕ}
use mathlib.Core.Path.{sym, subst}
use mathlib.Core.List.{List}
use native.Mathlib.Omega.{arith}
use lib.ListN.{length}
use Rattle.gate.specs.Promise.{numbers}
use Rattle.windows.proofs.Windows.{window_whole, window_only}
use Rattle.batch.specs.Promise.{host_of}
use Rattle.batch.specs.Turns.{Ran}
use Rattle.bulk.proofs.answer_walked.Goals as goal

pub answer_rows_in-ended-requires : goal.answer_rows_in-ended-requires
answer_rows_in-ended-requires c = record {
  answer_wide_in_bounds = c.requires.answer_wide_in_bounds;
  size_in_bounds = (λ some. absurd (omega (arith, some)));
  by_index = (c.args.waiting.now, window_whole c.args.waiting.now, c.requires.judges, (λ some. absurd (omega (arith, some))), (λ some. absurd (omega (arith, some))));
}

pub returns : goal.returns
returns c =
    let a = c.args in
    let f = c.answer_rows_in-ended in
    let g = f.ensures a.waiting.now (window_whole a.waiting.now) in
    let e = window_only (length a.waiting.now) f.result.start f.new.window g.0 (sym f.auto.window) g.1 in
    subst (λ (xs : List ℕ). Ran a.events.now (host_of numbers a.gate a.guests.now a.waiting.now a.flight.now) a.answers.now (host_of numbers f.result.gate f.new.guests xs f.new.flight) f.new.answers) e g.2
