-- `run` is `close` where the input has ended, and `pump` where it may go on. Assumes nothing.
use mathlib.Core.Path.{◌∙◌}
use Rattle.rolls.proofs.run.Goals as goal

pub close-requires : goal.close-requires
close-requires c =
    let p = c.requires in
    let s = p.standing in record {
      have_in_bounds = p.first_in_bounds;
      firm = p.firm;
      standing = record { tape = s.tape; held = s.held; mark = s.mark ∙ c.if-ended.true; wrote = s.wrote; stands = s.stands; fair = s.fair };
    }

pub pump-requires : goal.pump-requires
pump-requires c =
    let p = c.requires in
    let s = p.standing in record {
      first_in_bounds = p.first_in_bounds;
      firm = p.firm;
      standing = record { tape = s.tape; held = s.held; mark = s.mark ∙ c.if-ended.false; wrote = s.wrote; stands = s.stands; fair = s.fair };
    }
