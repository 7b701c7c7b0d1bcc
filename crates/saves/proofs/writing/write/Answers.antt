use mathlib.Core.Path.{refl, ap, ◌∙◌}
use mathlib.Core.List.{List}
use native.Mathlib.Omega.{arith}
use lib.ListN.{length}
use lib.Seq.{sets, length-take-le}
use Rattle.lines.specs.Put.{Put}
use Rattle.lines.proofs.PutLaws.{puts}
use Rattle.salvage.specs.Result.{Row, kept_of, event_count, flat}
use Rattle.salvage.proofs.Parts.{part, rows-there, whole-there, long_there}
use Rattle.saves.proofs.writing.write.Goals as goal

pub put_head-first-requires : goal.put_head-first-requires
put_head-first-requires c =
    let a = c.args in
    let b = c.requires.0 in
    (b.marked, omega (arith, b.long), b.whole, omega (arith, c.requires.1.trace, long_there a.version a.at a.trace.now b))

pub put_events-requires : goal.put_events-requires
put_events-requires c =
    let a = c.args in
    let bs = a.trace.now in
    let b = c.requires.0 in
    let h = c.put_head-first in (
      omega (arith, h.ensures.next, length-take-le a.at bs b.whole, c.requires.1.trace, long_there a.version a.at bs b, h.auto.room),
      omega (arith, c.requires.1.rows, ap (λ (l : List Row). length (flat l)) (rows-there a.version a.at bs b)),
    )

pub returns : goal.returns
returns c =
    let a = c.args in
    let bs = a.trace.now in
    let b = c.requires.0 in
    let e = c.put_events.ensures in
    let p = part a.version a.at bs b in
    let events : Put _ (kept_of a.version p (event_count p)) _ _ _ = record { next = refl; bytes = e.0 } in (
      (puts c.put_head-first.ensures events).bytes ∙ ap (sets a.room.now 0) (whole-there a.version a.at bs b),
      e.1 ∙ ap (λ (l : List Row). sets a.list.now 0 (flat l)) (rows-there a.version a.at bs b),
    )
