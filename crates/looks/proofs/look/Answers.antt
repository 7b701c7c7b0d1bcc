-- `look` meets its contract: for each phase the row is taken, or it is none that the phase would send before what it holds. Assumes nothing.
use Rattle.looks.specs.InLine.{due-take, due_pass, open_take, open_pass}
use Rattle.looks.proofs.look.Goals as goal
use Rattle.looks.proofs.look.Goals.{then-tag-soonest, else-tag-soonest}

pub returns-then-share-smallest : goal.returns-then-share-smallest
returns-then-share-smallest c known count row begins here owned l =
    let a = c.args.queue in
    record {
      by_tag = elim c.if-tag-soonest.branch [
        | then-tag-soonest w ↦ rw (w.first-is, w.soonest-is) (due-take a.guests.now a.waiting.now known count a.time c.args.latest l begins here owned c.requires.time_le_ceiling.0 c.due_tag-tag.ensures w.if-tag-soonest.true)
        | else-tag-soonest w ↦ rw (w.first-is, w.soonest-is) (due_pass a.guests.now a.waiting.now known count a.time c.args.latest l begins here owned c.due_tag-tag.ensures w.if-tag-soonest.false)
      ];
      by_share = open_take a.guests.now a.waiting.now known count a.time c.args.latest l begins here c.open_tag-share.ensures c.if-share-smallest.true;
    }

pub returns-else-share-smallest : goal.returns-else-share-smallest
returns-else-share-smallest c known count row begins here owned l =
    let a = c.args.queue in
    record {
      by_tag = elim c.if-tag-soonest.branch [
        | then-tag-soonest w ↦ rw (w.first-is, w.soonest-is) (due-take a.guests.now a.waiting.now known count a.time c.args.latest l begins here owned c.requires.time_le_ceiling.0 c.due_tag-tag.ensures w.if-tag-soonest.true)
        | else-tag-soonest w ↦ rw (w.first-is, w.soonest-is) (due_pass a.guests.now a.waiting.now known count a.time c.args.latest l begins here owned c.due_tag-tag.ensures w.if-tag-soonest.false)
      ];
      by_share = open_pass a.guests.now a.waiting.now known count a.time c.args.latest l begins here c.open_tag-share.ensures c.if-share-smallest.false;
    }
