use Prim.Native.Nat.{ℕ, ◌+◌}
use mathlib.Core.Path.{◌≡◌, refl, sym, ap, ◌∙◌}
use mathlib.Core.List.{◌++◌}
use native.Mathlib.Omega.{arith}
use native.Mathlib.Nat.{add-zero}
use Rattle.lines.proofs.PutLaws.{puts, put_as}
use Rattle.trace.proofs.HeaderLaws.{body_grows, record_fits, credit_fits}
use Rattle.moved.specs.Result.{record_to, records_to}
use Rattle.moved.proofs.Bytes.{length_record, records-more}
use Rattle.movers.proofs.writing.put_records.Goals as goal

pub loop-k-init : goal.loop-k-init
unfolding records_to
loop-k-init c = (c.requires.3, record { next = sym (add-zero c.args.first); bytes = refl })

pub put_record-at-requires : goal.put_record-at-requires
put_record-at-requires c =
    let a = c.args in
    let p = c.requires in
    let l = c.loop-k in
    let here = body_grows a.version (l.k + 1) a.guests (omega arith) in
    let there = body_grows a.to (l.k + 1) a.guests (omega arith) in (
      omega (arith, c.body.ensures, record_fits a.version l.k, here, p.1),
      omega (arith, l.auto.room, l.invariant.0, record_fits a.to l.k, there, p.2),
      λ e. omega (arith, l.auto.room, l.invariant.0, credit_fits a.to l.k e, there, p.2),
    )

pub loop-k-preserved : goal.loop-k-preserved
loop-k-preserved c =
    let a = c.args in
    let p = c.requires in
    let l = c.loop-k in
    let r = c.put_record-at in
    let b = c.body in
    let here = body_grows a.version (l.k + 1) a.guests (omega arith) in
    let long = length_record a.to l.k a.trace.now b.result (omega (arith, b.ensures, record_fits a.version l.k, here, p.1)) in (
      omega (arith, r.ensures.next, long, l.invariant.0),
      put_as (records-more a.to a.version a.trace.now l.k ∙ ap (λ (j : ℕ). records_to a.to a.version a.trace.now 0 l.k ++ record_to a.to a.trace.now j) (sym b.ensures))
          (puts l.invariant.1 r.ensures),
    )

pub returns : goal.returns
returns c =
    let l = c.loop-k in
    let a = c.args in
    let e : a.guests ≡ l.k = omega arith in
    put_as (ap (records_to a.to a.version a.trace.now 0) e) l.invariant.1
