use Prim.Native.Nat.{ℕ, ◌+◌}
use mathlib.Core.Path.{◌≡◌, refl, sym, ap, ◌∙◌}
use native.Mathlib.Omega.{arith}
use borrow.Author.Tests.{eq-eqb, ne_eqb}
use Rattle.lists.specs.Words.{all}
use Rattle.lists.specs.Tab.{tab}
use Rattle.trace.specs.Header.{settings_at}
use Rattle.trace.proofs.HeaderLaws.{body_grows, record_fits, credit_fits, tab_fails, tab-passes}
use Rattle.moved.specs.Moves.{creditless}
use Rattle.movable.proofs.is_creditless.Goals as goal

pub loop-k-init : goal.loop-k-init
loop-k-init c = refl

pub credit_at-requires : goal.credit_at-requires
credit_at-requires c =
    let l = c.loop-k in
    let a = c.args in
    let b = c.body.ensures in
    let room = body_grows a.version (l.k + 1) a.guests (omega arith) in
    (omega (arith, b, room, record_fits a.version l.k, c.requires.1), λ e. omega (arith, b, room, credit_fits a.version l.k e, c.requires.1))

pub returns-then-credit_at-ne0 : goal.returns-then-credit_at-ne0
returns-then-credit_at-ne0 c =
    let l = c.loop-k in
    let a = c.args in
    let b = c.body.ensures in
    let r = rw b at c.credit_at.ensures in
    sym (tab_fails creditless a.guests (settings_at a.version a.bytes.now) l.k c.loop-k-test.true (ne_eqb _ 0 (λ z. c.if-credit_at-ne0.true (r ∙ z))))

pub loop-k-preserved : goal.loop-k-preserved
loop-k-preserved c =
    let l = c.loop-k in
    let a = c.args in
    let b = c.body.ensures in
    let r = rw b at c.credit_at.ensures in
    tab-passes creditless l.k _ l.invariant (eq-eqb _ 0 (sym r ∙ c.if-credit_at-ne0.false))

pub returns : goal.returns
returns c =
    let l = c.loop-k in
    let a = c.args in
    let e : l.k ≡ a.guests = omega arith in
    sym l.invariant ∙ ap (λ (n : ℕ). all creditless (tab n (settings_at a.version a.bytes.now))) e
