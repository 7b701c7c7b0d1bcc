use native.Mathlib.Omega.{arith}
use Prim.Native.Nat.{ℕ}
use mathlib.Core.Path.{sym, subst}
use mathlib.Core.List.{List}
use Rattle.trace.specs.Printed.{printed}
use Rattle.stream.specs.Runs.{Emits}
use Rattle.stream.specs.Outcome.{Next}
use Rattle.lines.proofs.PutLaws.{put_front}
use Rattle.prints.proofs.turn.Goals as goal

pub emit-written-requires : goal.emit-written-requires
emit-written-requires c =
    let a = c.args in
    let t = c.take_in-taken in record {
      n_in_bounds = omega (arith, t.ensures.turned.room, t.auto.out);
      next = subst (λ (l : List ℕ). Next printed a.log.now l) (sym (put_front t.ensures.turned.lines t.ensures.turned.room)) c.requires.next;
    }

pub returns : goal.returns
returns c =
    let a = c.args in
    let t = c.take_in-taken in
    let e = c.emit-written in record {
      went = record { place = t.ensures.turned.place; emits = subst (λ (l : List ℕ). Emits e.result l a.log.now e.new.log) (put_front t.ensures.turned.lines t.ensures.turned.room) e.ensures };
      known_2 = t.ensures.turned.became.known;
      rest_bound = t.ensures.rest_bound;
    }
