use mathlib.Core.Path.{◌≡◌, refl, sym, ap}
use mathlib.Core.List.{[], ◌∷◌, ◌++◌}
use native.Mathlib.Omega.{arith}
use lib.ListN.{length}
use borrow.Author.Tests.{eq-eqb, ne_eqb}
use Rattle.lines.proofs.PutLaws.{puts, put_as}
use Rattle.trace.specs.Little.{byte_at}
use Rattle.trace.specs.Header.{mark}
use Rattle.trace.proofs.HeaderLaws.{body-least, body-two}
use Rattle.moved.specs.Result.{head_to}
use Rattle.moved.proofs.Parts.{counts_part}
use Rattle.movers.proofs.writing.put_head.Goals as goal

pub put_all-a-requires : goal.put_all-a-requires
put_all-a-requires c = omega (arith, c.requires.2, body-least c.args.to 0)

pub put-b-requires : goal.put-b-requires
put-b-requires c = omega (arith, c.requires.2, body-least c.args.to 0, c.put_all-a.ensures.next, c.put_all-a.auto.out)

pub put-c-requires : goal.put-c-requires
put-c-requires c = omega (arith, c.requires.2, body-least c.args.to 0, c.put_all-a.ensures.next, c.put_all-a.auto.out, c.put-b.ensures.next, c.put-b.auto.out)

pub put_all-d-requires : goal.put_all-d-requires
put_all-d-requires c = omega (arith, c.requires.2, body-least c.args.to 0, c.put_all-a.ensures.next, c.put_all-a.auto.out, c.put-b.ensures.next, c.put-b.auto.out, c.put-c.ensures.next, c.put-c.auto.out, ap length (counts_part c.args.trace.now c.requires.0))

pub put-requires : goal.put-requires
put-requires c = omega (arith, c.requires.2, body-two c.args.to 0 c.if-to-eq2.true, c.put_all-a.ensures.next, c.put_all-a.auto.out, c.put-b.ensures.next, c.put-b.auto.out, c.put-c.ensures.next, c.put-c.auto.out, c.put_all-d.ensures.next, c.put_all-d.auto.out, ap length (counts_part c.args.trace.now c.requires.0))

pub returns-then-to-eq2 : goal.returns-then-to-eq2
returns-then-to-eq2 c =
    let a = c.args in
    let bs = a.trace.now in
    let e : head_to a.to bs ≡ mark ++ (a.to ∷ 0 ∷ (byte_at bs 5 ∷ byte_at bs 6 ∷ byte_at bs 7 ∷ byte_at bs 8 ∷ []) ++ (1 ∷ [])) = rw (eq-eqb _ _ c.if-to-eq2.true) refl in
    put_as e
    (puts c.put_all-a.ensures (puts c.put-b.ensures (puts c.put-c.ensures (puts (put_as (sym (counts_part bs c.requires.0)) c.put_all-d.ensures) c.put.ensures))))

pub returns : goal.returns
returns c =
    let a = c.args in
    let bs = a.trace.now in
    let e : head_to a.to bs ≡ mark ++ (a.to ∷ 0 ∷ byte_at bs 5 ∷ byte_at bs 6 ∷ byte_at bs 7 ∷ byte_at bs 8 ∷ []) = rw (ne_eqb _ _ c.if-to-eq2.false) refl in
    put_as e
    (puts c.put_all-a.ensures (puts c.put-b.ensures (puts c.put-c.ensures (put_as (sym (counts_part bs c.requires.0)) c.put_all-d.ensures))))
