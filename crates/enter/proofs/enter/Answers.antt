-- `enter` meets its contract, by what its callees promise: a completion and a tick leave the index. Assumes nothing.
use Rattle.rules.specs.declared.Event.TheVariants.{Completion, Tick}
use Rattle.enter.proofs.Besides.{beside_left, tick_leaves, out-leaves}
use Rattle.enter.proofs.enter.Goals as goal

pub arrive-requires : goal.arrive-requires
arrive-requires c = c.requires

pub complete-requires : goal.complete-requires
complete-requires c = c.requires.known

pub wait-requires : goal.wait-requires
wait-requires c = c.requires.known

pub returns-in-Arrival : goal.returns-in-Arrival
returns-in-Arrival c =
    let x = c.arrive.ensures in record {
      enters = rw c.in-Arrival.is x.enters;
      enters_beside = x.enters_beside;
    }

pub returns-in-Completion : goal.returns-in-Completion
returns-in-Completion c =
    let x = c.complete in record {
      enters = rw c.in-Completion.is x.ensures;
      enters_beside = beside_left c.args.gate c.args.guests.now c.args.waiting.now c.args.flight.now c.requires.known (Completion _ _) (out-leaves c.args.gate c.args.guests.now c.args.waiting.now c.args.flight.now c.requires.known _ _) x.result _ _ _ c.args.index.now x.ensures c.requires.beside;
    }

pub returns-in-Tick : goal.returns-in-Tick
returns-in-Tick c =
    let x = c.wait in record {
      enters = rw c.in-Tick.is x.ensures;
      enters_beside = beside_left c.args.gate c.args.guests.now c.args.waiting.now c.args.flight.now c.requires.known (Tick _) (tick_leaves c.args.gate c.args.guests.now c.args.waiting.now c.args.flight.now c.requires.known _) x.result _ _ _ c.args.index.now x.ensures c.requires.beside;
    }
