use native.Mathlib.Omega.{arith}
use Rattle.trace.specs.Printed.{printed}
use Rattle.stream.specs.Outcome.{MOST}
use Rattle.stream.proofs.Firsts.{filled-first, unfilled}
use Rattle.decide.proofs.run.Goals as goal

pub judge-requires : goal.judge-requires
judge-requires c =
    let f = c.fill in
    let x = filled-first c.args.log.now f.new.log f.new.buffer f.result f.ensures c.requires _ c.in-Ok.is (omega arith) in record {
      have_in_bounds = x.0;
      first = x.1;
    }

pub returns-in-Err : goal.returns-in-Err
returns-in-Err c =
    let f = c.fill in
    unfilled c.args.log.now f.new.log f.new.buffer f.result f.ensures c.requires printed MOST _ c.in-Err.is
