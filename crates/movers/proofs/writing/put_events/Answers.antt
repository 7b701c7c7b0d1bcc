use Prim.Native.Nat.{◌*◌}
use mathlib.Core.Path.{◌≡◌, refl, sym, ap, ◌∙◌}
use native.Mathlib.Omega.{arith}
use native.Mathlib.Nat.{add-zero}
use lib.ListN.{take, drop, length-drop}
use lib.Seq.{sets, length-take-le, take-add, take_all}
use Rattle.lines.proofs.PutLaws.{puts, put_as}
use Rattle.moved.proofs.Parts.{events-part}
use Rattle.movers.proofs.writing.put_events.Goals as goal

pub loop-i-init : goal.loop-i-init
loop-i-init c = let a = c.args in (omega arith, record { next = sym (add-zero a.first); bytes = refl })

pub put_event-at-requires : goal.put_event-at-requires
put_event-at-requires c =
    let l = c.loop-i in
    (omega arith, omega (arith, l.auto.room, l.invariant.0, c.requires.0), c.requires.1.each l.i c.loop-i-test.true)

pub loop-i-preserved : goal.loop-i-preserved
loop-i-preserved c =
    let l = c.loop-i in
    let a = c.args in
    let e = c.put_event-at in
    let n = length-take-le 14 (drop (l.i * 14) a.bytes.now) (rw length-drop (omega arith)) in
    (omega (arith, e.ensures.next, n, l.invariant.0), put_as (events-part a.bytes.now l.i ∙ take-add (l.i * 14) 14 a.bytes.now) (puts l.invariant.1 e.ensures))

pub returns : goal.returns
returns c =
    let l = c.loop-i in
    let a = c.args in
    let all : take (l.i * 14) a.bytes.now ≡ a.bytes.now = take_all (l.i * 14) a.bytes.now (omega (arith, c.requires.1.uncut)) in
    l.invariant.1.bytes ∙ ap (sets a.room.now a.first) all
