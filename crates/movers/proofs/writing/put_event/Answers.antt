use mathlib.Core.Path.{◌∙◌}
use Rattle.lines.proofs.PutLaws.{puts, put_as}
use Rattle.moved.proofs.Parts.{event_part}
use Rattle.movers.proofs.writing.put_event.Goals as goal

pub returns : goal.returns
returns c =
    let a = c.args in
    let p = c.requires in
    let e = c.first_byte.ensures ∙ c.kind_in-kind.ensures ∙ p.2.same in
    put_as (event_part a.bytes.now a.from c.first_byte.result p.0 e) (puts c.put-a.ensures c.put_all.ensures)
