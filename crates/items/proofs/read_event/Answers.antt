use mathlib.Core.Path.{◌≡◌, ap, ◌∙◌}
use native.Mathlib.Omega.{arith}
use Rattle.trace.specs.Little.{four_at, eight_at}
use Rattle.trace.specs.Event.{read_shown}
use Rattle.trace.proofs.EventLaws.{event_by}
use Rattle.items.proofs.read_event.Goals as goal

pub returns : goal.returns
returns c =
    let bs = c.args.bytes.now in
    let id : c.from_le_bytes-id.result ≡ four_at bs 2 = omega (arith, c.from_le_bytes-id.ensures) in
    let time : c.from_le_bytes-time.result ≡ eight_at bs 6 = omega (arith, c.from_le_bytes-time.ensures) in
    ap read_shown (c.event_from.ensures ∙ event_by c.args.version bs _ _ _ _ _ c.kind_in-kind.ensures c.upper_in-upper.ensures c.from.ensures id time)
