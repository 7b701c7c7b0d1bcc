use mathlib.Core.Path.{◌≡◌, refl, sym, ap, ◌∙◌}
use mathlib.Core.List.{[], ◌∷◌, ◌++◌, append-nil}
use native.Mathlib.Omega.{arith}
use lib.ListN.{take, drop}
use borrow.Author.Tests.{eq-eqb, ne_eqb}
use Rattle.lines.proofs.PutLaws.{puts, put_as}
use Rattle.moved.specs.Result.{record_to}
use Rattle.moved.proofs.Parts.{part_is, length_part}
use Rattle.movers.proofs.writing.put_record.Goals as goal

pub put-b-requires : goal.put-b-requires
put-b-requires c =
    let a = c.args in
    omega (arith, c.put_all-a.ensures.next, length_part a.trace.now a.from 12 c.requires.0, c.requires.2 c.if-to-eq2.true, c.put_all-a.auto.out)

pub put-requires : goal.put-requires
put-requires c =
    let a = c.args in
    omega (arith, c.put-b.ensures.next, c.put_all-a.ensures.next, length_part a.trace.now a.from 12 c.requires.0, c.requires.2 c.if-to-eq2.true, c.put_all-a.auto.out, c.put-b.auto.out)

pub returns-then-to-eq2 : goal.returns-then-to-eq2
returns-then-to-eq2 c =
    let a = c.args in
    let xs = take 12 (drop a.from a.trace.now) in
    let e : record_to a.to a.trace.now a.from ≡ xs ++ (0 ∷ 0 ∷ []) = ap (xs ++◌) (rw (eq-eqb _ _ c.if-to-eq2.true) refl) in
    put_as e (puts (put_as (sym (part_is a.trace.now a.from 12)) c.put_all-a.ensures) (puts c.put-b.ensures c.put.ensures))

pub returns : goal.returns
returns c =
    let a = c.args in
    let xs = take 12 (drop a.from a.trace.now) in
    let e : record_to a.to a.trace.now a.from ≡ xs = ap (xs ++◌) (rw (ne_eqb _ _ c.if-to-eq2.false) refl) ∙ append-nil xs in
    put_as (e ∙ sym (part_is a.trace.now a.from 12)) c.put_all-a.ensures
