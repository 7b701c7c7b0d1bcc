use Prim.Native.Nat.{◌+◌}
use mathlib.Core.Path.{◌≡◌, sym, ap, ◌∙◌}
use native.Mathlib.Omega.{arith}
use borrow.Author.Tests.{lt-ltb, le-ltb}
use Rattle.std.specs.Prelude.{Some, Ok, Err}
use Rattle.salvage.specs.Fates.{farthest, by_time, Last}
use Rattle.salvage.specs.declared.Reason.TheVariants.{Behind, Ahead}
use Rattle.fates.proofs.by_time.Goals as goal

pub returns-then-time-gt-CEILING : goal.returns-then-time-gt-CEILING
returns-then-time-gt-CEILING c = simp (lt-ltb _ _ c.if-time-gt-CEILING.true)

pub returns-then-time-before : goal.returns-then-time-before
returns-then-time-before c =
    let a = c.args in
    let b = c.in-Some.before in
    let e : by_time (Some b) a.time ≡ Err Behind = simp (le-ltb _ _ c.if-time-gt-CEILING.false, lt-ltb a.time b c.if-time-before.true) in
    sym (ap (λ (l : Last). by_time l a.time) c.in-Some.is ∙ e)

pub returns-then-time-before-gt-FARTHEST : goal.returns-then-time-before-gt-FARTHEST
returns-then-time-before-gt-FARTHEST c =
    let a = c.args in
    let b = c.in-Some.before in
    let e : by_time (Some b) a.time ≡ Err Ahead
    = simp (le-ltb _ _ c.if-time-gt-CEILING.false, le-ltb a.time b c.if-time-before.false, lt-ltb (b + farthest) a.time (omega arith)) in
    sym (ap (λ (l : Last). by_time l a.time) c.in-Some.is ∙ e)

pub returns : goal.returns
returns c =
    let a = c.args in
    let b = c.in-Some.before in
    let e : by_time (Some b) a.time ≡ Ok a.time
    = simp (le-ltb _ _ c.if-time-gt-CEILING.false, le-ltb a.time b c.if-time-before.false, le-ltb (b + farthest) a.time (omega arith)) in
    sym (ap (λ (l : Last). by_time l a.time) c.in-Some.is ∙ e)
