-- `wake_of` meets its contract, by what the walk finds. Assumes nothing.
use Prim.Native.Nat.{◌≤◌, ◌<◌, max}
use mathlib.Core.Path.{ap, ◌∙◌}
use mathlib.Core.List.{List, map}
use native.Mathlib.Omega.{arith}
use Rattle.lists.specs.Words.{lowest}
use Rattle.rules.specs.Tables.{Request}
use Rattle.table.specs.View.{guests_of}
use Rattle.walks.specs.Walks.{ready_by_tag}
use Rattle.sends.proofs.Wakes.{wake_asks, wake-full, wake_dry, wake-found, rows-even, even_asks}
use Rattle.sends.proofs.wake_of.Goals as goal

pub returns-then-gate : goal.returns-then-gate
returns-then-gate c =
    let full : c.args.gate.setup.depth ≤ c.args.gate.flight = omega arith in
    λ ws fs es known even. wake-full c.args.gate c.args.guests.now ws (fs, known) es full

pub returns-then-gate-eq0 : goal.returns-then-gate-eq0
returns-then-gate-eq0 c =
    λ ws fs es known even. wake_dry c.args.gate c.args.guests.now ws (fs, known) es c.if-gate-eq0.true

pub soonest-requires : goal.soonest-requires
soonest-requires c =
    let p = c.requires.by_index in
    let some : 0 < c.args.gate.waiting = omega arith in
    let a = wake_asks c.args.gate c.args.guests.now p.0 (p.1, p.2) some in record {
      count_nonzero = (a.0.0, a.0.1, c.requires.waiting_wide_in_bounds.0, a.0.3, a.0.4);
      owned = even_asks c.args.gate.waiting p.0 c.args.waiting.now p.3 a.1.0;
      time_le_ceiling = a.1.1;
      beside = c.requires.waiting_wide_in_bounds.1;
    }

pub returns : goal.returns
returns c =
    let some : 0 < c.args.gate.waiting = omega arith in
    λ ws fs es known even.
    wake-found c.args.gate c.args.guests.now ws (fs, known) es c.if-gate.false some _
    (c.soonest.ensures ∙ ap (λ (l : List Request). max c.args.gate.time (lowest (map (ready_by_tag c.args.gate.setup.rule (guests_of c.args.guests.now c.args.gate.guests)) l))) (rows-even c.args.gate.waiting ws c.args.waiting.now even))
