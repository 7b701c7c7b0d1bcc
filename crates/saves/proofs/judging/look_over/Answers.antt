-- The tally after i events is that of the first i. Assumes nothing.
use Prim.Native.Nat.{◌+◌}
use mathlib.Core.Path.{◌≡◌, refl, sym, ap, ◌∙◌}
use native.Mathlib.Omega.{arith}
use Rattle.std.specs.Prelude.{Some, Ok, Err}
use Rattle.salvage.specs.Fates.{last_at, fate_at}
use Rattle.salvage.specs.Result.{kept_of, rows_of}
use Rattle.salvage.specs.Judging.{bytes_for, rows_for}
use Rattle.salvage.proofs.Counts.{fate_here, last_here, length-kept-more, length-rows-more, kept-fits, rows_few}
use Rattle.saves.proofs.judging.look_over.Goals as goal
use Rattle.saves.proofs.judging.look_over.Goals.{in-Ok, in-Err}

pub loop-i-init : goal.loop-i-init
unfolding last_at kept_of rows_of
loop-i-init c = (refl, refl, refl)

pub overflow_add-kept : goal.overflow_add-kept
overflow_add-kept c =
    let a = c.args in
    let l = c.loop-i in
    let f = sym c.in-Ok.is ∙ fate_here a.version a.bytes.now l.i l.last c.fate_of.result c.fate_of.ensures l.invariant.0 in
    omega (arith, l.invariant.1, ap bytes_for f, length-kept-more a.version a.bytes.now l.i, kept-fits a.version a.bytes.now (l.i + 1))

pub overflow_add-rows : goal.overflow_add-rows
overflow_add-rows c =
    let a = c.args in
    let l = c.loop-i in
    let f = sym c.in-Err.is ∙ fate_here a.version a.bytes.now l.i l.last c.fate_of.result c.fate_of.ensures l.invariant.0 in
    omega (arith, l.invariant.2, ap rows_for f, length-rows-more a.version a.bytes.now l.i, rows_few a.version a.bytes.now (l.i + 1))

pub loop-i-preserved : goal.loop-i-preserved
loop-i-preserved c =
    let a = c.args in
    let l = c.loop-i in
    let fate = fate_here a.version a.bytes.now l.i l.last c.fate_of.result c.fate_of.ensures l.invariant.0 in
    let kept = length-kept-more a.version a.bytes.now l.i in
    let rows = length-rows-more a.version a.bytes.now l.i in
    elim c.match-fate_of.branch [
      | in-Ok w ↦
          let f : Ok w.in-Ok.time ≡ fate_at a.version a.bytes.now l.i = sym w.in-Ok.is ∙ fate in (
            w.last-is ∙ last_here a.version a.bytes.now l.i l.last (Some w.in-Ok.time) (Ok w.in-Ok.time) refl l.invariant.0 f,
            omega (arith, w.kept-is, l.invariant.1, ap bytes_for f, kept),
            omega (arith, w.rows-is, l.invariant.2, ap rows_for f, rows),
          )
      | in-Err w ↦
          let f : Err w.in-Err.field-0 ≡ fate_at a.version a.bytes.now l.i = sym w.in-Err.is ∙ fate in (
            w.last-is ∙ last_here a.version a.bytes.now l.i l.last l.last (Err w.in-Err.field-0) refl l.invariant.0 f,
            omega (arith, w.kept-is, l.invariant.1, ap bytes_for f, kept),
            omega (arith, w.rows-is, l.invariant.2, ap rows_for f, rows),
          )
    ]
