use native.Mathlib.Omega.{arith}
use Prim.Native.Nat.{◌≤◌, ℕ}
use mathlib.Core.Path.{sym, subst}
use mathlib.Core.List.{List}
use lib.ListN.{length}
use Rattle.trace.specs.Printed.{printed}
use Rattle.stream.specs.Outcome.{Last}
use Rattle.lines.proofs.PutLaws.{put_front}
use Rattle.decide.proofs.refuse.Goals as goal

pub finish-requires : goal.finish-requires
finish-requires c =
    let a = c.args in
    let p = c.put_refusal-n in
    let room : p.result ≤ length a.out.now = omega (arith, p.ensures.upper_bound) in
    subst (λ (l : List ℕ). Last printed a.log.now l) (sym (put_front p.ensures.put room)) c.requires
