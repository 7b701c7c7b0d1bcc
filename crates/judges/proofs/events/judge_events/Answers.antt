-- `events::judge_events` meets its contract: the window shows the places that the gate has, and so the same table. Assumes nothing.
use Prim.Native.Nat.{◌*◌}
use mathlib.Core.Path.{refl, ap, ◌∙◌}
use native.Mathlib.Omega.{arith}
use lib.ListN.{take}
use Rattle.rules.specs.Tables.{Table}
use Rattle.windows.proofs.Windows.{window_blank}
use Rattle.windows.proofs.Longer.{open_asks, front_fits, front-known, front_long, front-shown}
use Rattle.judge.specs.Acceptable.{asked_from}
use Rattle.judge.specs.Judging.{judged_from}
use Rattle.judges.proofs.events.judge_events.Goals as goal

pub open-requires : goal.open-requires
open-requires c =
    let t = c.args.tables.now in
    let a = open_asks t.gate t.guests t.waiting t.flight c.requires in
    let f = front_fits t.gate t.guests t.waiting t.flight c.requires in record {
      size_in_bounds = (c.requires.waiting_room, omega (arith, f), window_blank 7680);
      rows_le_most_capacity = (a.0, a.1, refl);
      by_index = a.2;
    }

pub judge_beside-requires : goal.judge_beside-requires
judge_beside-requires c =
    let t = c.args.tables.now in
    let o = c.open in
    let f = front_fits t.gate t.guests t.waiting t.flight c.requires in
    let known = front-known t.gate t.guests t.waiting t.flight c.requires in
    let long = front_long t.gate t.guests t.waiting t.flight c.requires in record {
      size_in_bounds = omega (arith, f, o.auto.window);
      by_index = (take (t.gate.setup.capacity * 6) t.waiting, o.ensures.window, known, (λ some. o.ensures.indexed), (λ some. long));
    }

pub returns : goal.returns
returns c =
    let t = c.args.tables.now in
    c.judge_beside.ensures (take (t.gate.setup.capacity * 6) t.waiting) c.open.ensures.window
    ∙ ap (λ (u : Table). judged_from 0 u (asked_from c.args.version c.args.bytes.now) c.args.said.now) (front-shown t.gate t.guests t.waiting t.flight c.requires)
