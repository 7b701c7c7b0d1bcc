use Prim.Native.Nat.{ℕ, ◌+◌}
use native.Mathlib.Omega.{arith}
use mathlib.Core.Path.{◌≡◌, refl, sym, ◌∙◌, ap}
use borrow.Author.Tests.{not-true, not-false}
use Rattle.lists.specs.Words.{all}
use Rattle.lists.specs.Tab.{tab}
use Rattle.rules.specs.Sound.{settled}
use Rattle.trace.specs.Header.{settings_at}
use Rattle.trace.proofs.HeaderLaws.{body_grows, tab_fails, tab-passes}
use mathlib.Core.Bool.{not}
use Rattle.fields.proofs.has_settings.Goals as goal

pub loop-k-init : goal.loop-k-init
loop-k-init c = refl

pub settings_of-s-requires : goal.settings_of-s-requires
settings_of-s-requires c = (omega arith, omega (arith, body_grows c.args.version (c.loop-k.k + 1) c.args.guests (omega arith)))

pub returns-then-not-is_settled : goal.returns-then-not-is_settled
returns-then-not-is_settled c =
    let a = c.args in
    sym (tab_fails settled a.guests (settings_at a.version a.bytes.now) c.loop-k.k c.loop-k-test.true (sym (c.is_settled.ensures ∙ ap settled c.settings_of-s.ensures) ∙ not-true _ (ap not c.if-not-is_settled.true)))

pub loop-k-preserved : goal.loop-k-preserved
loop-k-preserved c =
    tab-passes settled c.loop-k.k _ c.loop-k.invariant (sym (c.is_settled.ensures ∙ ap settled c.settings_of-s.ensures) ∙ not-false _ (ap not c.if-not-is_settled.false))

pub returns : goal.returns
returns c =
    let s = c.loop-k in
    let a = c.args in
    let e : s.k ≡ a.guests = omega arith in
    sym s.invariant ∙ ap (λ (n : ℕ). all settled (tab n (settings_at a.version a.bytes.now))) e
