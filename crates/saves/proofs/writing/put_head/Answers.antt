use Rattle.lines.proofs.PutLaws.{puts, put_as}
use Rattle.salvage.proofs.Parts.{head_part}
use Rattle.saves.proofs.writing.put_head.Goals as goal

pub returns : goal.returns
returns c =
    put_as (head_part c.args.trace.now c.args.end c.requires.0 c.requires.1) (puts c.put_all-a.ensures c.put_all.ensures)
