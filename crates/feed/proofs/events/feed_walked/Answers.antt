-- `events::feed_walked` meets its contract: the lent table is a window that it fills. Assumes nothing.
use Prim.Native.Nat.{ℕ}
use mathlib.Core.Path.{sym, subst}
use mathlib.Core.List.{List}
use native.Mathlib.Omega.{arith}
use lib.ListN.{length}
use Rattle.windows.proofs.Windows.{window_whole, window_only}
use Rattle.feed.specs.Promise.{FedBy}
use Rattle.feed.proofs.events.feed_walked.Goals as goal

pub feed_in-made-requires : goal.feed_in-made-requires
feed_in-made-requires c = record {
  bytes_bound = c.requires.bytes_bound;
  size_in_bounds = (λ none. absurd (omega (arith, none)));
  by_index = (c.args.waiting.now, window_whole c.args.waiting.now, c.requires.known, (λ none. absurd (omega (arith, none))), (λ none. absurd (omega (arith, none))));
}

pub returns : goal.returns
returns c =
    let a = c.args in
    let f = c.feed_in-made in
    let g = f.ensures a.waiting.now (window_whole a.waiting.now) in
    let e = window_only (length a.waiting.now) f.result.start f.new.window g.0 (sym f.auto.window) g.1 in
    subst (λ (xs : List ℕ). FedBy a.version a.bytes.now a.number a.first a.guests.now a.waiting.now a.flight.now f.result.fed.gate f.new.guests xs f.new.flight a.out.now f.new.out f.result.fed.events f.result.fed.bytes) e g.2
