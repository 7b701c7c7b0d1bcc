use native.Mathlib.Omega.{arith}
use Prim.Native.Nat.{ℕ, ◌≤◌}
use mathlib.Core.Path.{sym, subst}
use mathlib.Core.List.{List}
use lib.ListN.{length}
use Rattle.lines.proofs.PutLaws.{put_front}
use Rattle.stream.specs.Runs.{Emits}
use Rattle.stream.specs.Outcome.{Next}
use Rattle.trace.specs.Printed.{printed}
use Rattle.prints.proofs.output.title.Goals as goal

pub emit-requires : goal.emit-requires
emit-requires c =
    let a = c.args in
    let p = c.put_title-n in
    let room : p.result ≤ length a.out.now = omega (arith, p.ensures.upper_bound) in record {
      n_in_bounds = omega (arith, room, p.auto.out);
      next = subst (λ (l : List ℕ). Next printed a.log.now l) (sym (put_front p.ensures.put room)) c.requires;
    }

pub returns : goal.returns
returns c =
    let a = c.args in
    let p = c.put_title-n in
    let e = c.emit in
    let room : p.result ≤ length a.out.now = omega (arith, p.ensures.upper_bound) in
    subst (λ (l : List ℕ). Emits e.result l a.log.now e.new.log) (put_front p.ensures.put room) e.ensures
