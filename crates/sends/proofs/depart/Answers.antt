-- `depart` meets its contract: either way the table is then the one from which the request has gone. Assumes nothing.
use mathlib.Core.Path.{◌∙◌}
use native.Mathlib.Omega.{arith}
use Rattle.index.proofs.Laws.{stood-none, stood-some}
use Rattle.sends.proofs.depart.Goals as goal

pub send-requires : goal.send-requires
send-requires c = c.requires.place_lt_count

pub returns-then-index-eq0 : goal.returns-then-index-eq0
returns-then-index-eq0 c =
    let n = c.send.ensures in record {
      waiting_after = stood-none c.args.index.now _ c.if-index-eq0.true ∙ n.waiting_after;
      flight_after = n.flight_after;
      named = n.named;
    }

pub slide-requires : goal.slide-requires
slide-requires c = (omega (arith, c.requires.place_lt_count), c.requires.place_lt_count.2)

pub returns : goal.returns
returns c =
    let n = c.slide.ensures in record {
      waiting_after = stood-some c.args.index.now _ (omega arith) ∙ n.by_index c.args.count c.requires.place_lt_count.0 c.requires.place_lt_count.1 (c.requires.blank (omega arith));
      flight_after = n.flight_after;
      named = n.named;
    }
