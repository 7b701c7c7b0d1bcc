use native.Mathlib.Omega.{arith}
use Rattle.lines.specs.Line.{line_of}
use Rattle.lines.proofs.PutLaws.{puts}
use Rattle.lines.proofs.put_line.Goals as goal

pub returns : goal.returns
unfolding line_of
returns c = record {
  put = puts c.put_number-a.ensures.put (puts c.put-b.ensures (puts c.put_answer-c.ensures.put c.put.ensures));
  upper_bound = omega (arith, c.put.ensures.next, c.put_answer-c.ensures.upper_bound, c.put-b.ensures.next, c.put_number-a.ensures.upper_bound);
}
