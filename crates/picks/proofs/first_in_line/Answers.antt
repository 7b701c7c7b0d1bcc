-- `first_in_line` meets its contract: every row is passed, and what is held then is what each phase picks. Assumes nothing.
use Rattle.looks.specs.InLine.{passed-due, passed_open}
use native.Mathlib.Omega.{arith}
use Rattle.picks.specs.Collected.{collected_taken}
use Rattle.picks.proofs.first_in_line.Goals as goal

pub returns-then-queue-le-FEW : goal.returns-then-queue-le-FEW
returns-then-queue-le-FEW c =
    let a = c.args.queue in
    let e = c.every-best.ensures in record {
      picks = rw c.firsts_at.ensures.0 (passed-due a.guests.now a.waiting.now a.known a.count a.time c.args.latest e c.requires.owned.0);
      picks_2 = rw c.firsts_at.ensures.1 (passed_open a.guests.now a.waiting.now a.known a.count a.time c.args.latest e c.requires.owned.2);
    }

pub among-best-requires-clause-collected : goal.among-best-requires-clause-collected
among-best-requires-clause-collected c =
    collected_taken c.args.queue.waiting.now (omega arith) c.collect-n.ensures.1

pub returns : goal.returns
returns c =
    let a = c.args.queue in
    let e = c.among-best.ensures in record {
      picks = rw c.firsts_at-2.ensures.0 (passed-due a.guests.now a.waiting.now a.known a.count a.time c.args.latest e c.requires.owned.0);
      picks_2 = rw c.firsts_at-2.ensures.1 (passed_open a.guests.now a.waiting.now a.known a.count a.time c.args.latest e c.requires.owned.2);
    }
