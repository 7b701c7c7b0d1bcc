-- `turn_walked` meets its contract: the lent table is a window that it fills. Assumes nothing.
use mathlib.Core.Path.{sym}
use native.Mathlib.Omega.{arith}
use lib.ListN.{length}
use Rattle.windows.proofs.Windows.{window_whole, window_only}
use Rattle.rolls.proofs.turn_walked.Goals as goal

pub turn_in-turned-requires : goal.turn_in-turned-requires
turn_in-turned-requires c = record {
  bytes_bound = c.requires.bytes_bound;
  size_in_bounds = (λ none. absurd (omega (arith, none)));
  by_index = (c.args.waiting.now, window_whole c.args.waiting.now, c.requires.firm, (λ none. absurd (omega (arith, none))), (λ none. absurd (omega (arith, none))));
}

pub returns : goal.returns
returns c =
    let a = c.args in
    let t = c.turn_in-turned in
    let x = t.ensures a.waiting.now (window_whole a.waiting.now) in
    let e = window_only (length a.waiting.now) t.result.start t.new.window x.0 (sym t.auto.window) x.1 in record {
      figures_after = rw (sym e) x.2;
      firm_2 = rw (sym e) x.3;
    }
