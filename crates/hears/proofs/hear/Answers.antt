-- `hears::hear` meets its contract, for a good event and a bad one. Assumes nothing.
use Prim.Native.Nat.{ℕ, ◌+◌, ◌-◌}
use mathlib.Core.Path.{◌≡◌, ap, ◌∙◌}
use native.Mathlib.Omega.{arith}
use lib.ListN.{take, drop}
use Rattle.trace.specs.Event.{event_of}
use Rattle.trace.proofs.EventLaws.{event_take}
use Rattle.trace.proofs.Shown.{read-shown_once}
use Rattle.judge.specs.declared.Said.{Said}
use Rattle.judge.proofs.Heard.{read-good, read_bad}
use Rattle.hears.proofs.Besides.{beside_said, refused-stands}
use Rattle.hears.proofs.hear.Goals as goal

pub returns-in-Some-clause-hears : goal.returns-in-Some-clause-hears
returns-in-Some-clause-hears c =
    let x = c.read_event-event in
    let n : c.args.from + 14 - c.args.from ≡ 14 = omega arith in
    let e = read-shown_once x.result _ x.ensures ∙ ap (λ (k : ℕ). event_of c.args.version (take k (drop c.args.from c.args.bytes.now))) n ∙ event_take c.args.version (drop c.args.from c.args.bytes.now) in
    read-good c.args.gate c.args.guests.now c.args.waiting.now c.args.flight.now c.requires.known c.args.number c.args.said.now x.result _ e _ c.in-Some.is c.hear_good.ensures.hears

pub returns-in-None : goal.returns-in-None
returns-in-None c =
    let x = c.read_event-event in
    let n : c.args.from + 14 - c.args.from ≡ 14 = omega arith in
    let e = read-shown_once x.result _ x.ensures ∙ ap (λ (k : ℕ). event_of c.args.version (take k (drop c.args.from c.args.bytes.now))) n ∙ event_take c.args.version (drop c.args.from c.args.bytes.now) in
    let p = c.hear_plain in
    let q = refused-stands c.args.index.now c.args.waiting.now p.result p.ensures in record {
      hears = rw q (read_bad c.args.gate c.args.guests.now c.args.waiting.now c.args.flight.now c.requires.known c.args.number c.args.said.now x.result _ e c.in-None.is p.result p.ensures);
      beside_2 = rw q (λ some. beside_said c.args.gate p.result (ap Said.gate p.ensures) c.requires.beside.0);
    }
