-- The marks were all 0, so they tell who is idle.
use mathlib.Core.Path.{sym, ◌∙◌}
use native.Mathlib.Omega.{arith}
use Rattle.shares.specs.SharesLaws.{marked_idle, nexts_marked}
use Rattle.shares.proofs.adjust.Goals as goal

pub move_tags-requires : goal.move_tags-requires
move_tags-requires c =
    let p = c.requires in record {
      count_le_most_capacity = (omega arith, omega arith);
      by_index = λ k l. omega (arith, p.by_index k l);
      tags_move = p.tags_move.0;
    }

pub move_nexts-requires : goal.move_nexts-requires
move_nexts-requires c =
    let a = c.args in
    let t = c.move_tags in record {
      known_le_most_guests = (omega arith, omega arith);
      nexts_move = λ g l e. c.requires.tags_move.1 g l (sym (marked_idle a.waiting.now t.new.busy a.count t.ensures.marked g (omega arith)) ∙ e);
    }

pub returns : goal.returns
returns c =
    let a = c.args in
    let t = c.move_tags in record {
      guests_after = nexts_marked a.time a.m a.waiting.now a.count t.new.busy t.ensures.marked a.guests.now _ a.known (omega arith) c.move_nexts.ensures;
      waiting_after = t.ensures.waiting_after;
    }
