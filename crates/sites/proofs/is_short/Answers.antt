-- Two lengths. Assumes nothing.
use native.Mathlib.Omega.{arith}
use borrow.Author.Tests.{lt-ltb, le-ltb}
use Rattle.arrays.proofs.Found.{few_rows}
use Rattle.sites.proofs.is_short.Goals as goal

pub overflow_mul-arrays : goal.overflow_mul-arrays
overflow_mul-arrays c = omega (arith, few_rows c.args.arrays c.args.guests c.requires.0 c.requires.1)

pub overflow_mul-arrays-2 : goal.overflow_mul-arrays-2
overflow_mul-arrays-2 c = omega (arith, few_rows c.args.arrays c.args.guests c.requires.0 c.requires.1)

pub returns-then-counters-arrays : goal.returns-then-counters-arrays
returns-then-counters-arrays c = simp (lt-ltb _ _ c.if-counters-arrays.true)

pub returns-else-counters-arrays : goal.returns-else-counters-arrays
returns-else-counters-arrays c = simp (le-ltb _ _ c.if-counters-arrays.false)
