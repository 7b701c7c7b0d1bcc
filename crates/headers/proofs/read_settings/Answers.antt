use Prim.Native.Nat.{ℕ, ◌+◌, ◌*◌}
use native.Mathlib.Omega.{arith}
use mathlib.Core.Path.{◌≡◌, sym, ◌∙◌, ap}
use mathlib.Core.List.{List}
use lib.ListN.{get_or}
use Rattle.lists.specs.Stores.{stores}
use Rattle.table.specs.Columns.{settings_wide}
use Rattle.table.specs.View.{settings_form}
use Rattle.trace.specs.Header.{settings_at}
use Rattle.trace.proofs.HeaderLaws.{body_grows}
use Rattle.headers.proofs.SettingsRows.{filled, filled_none, filled_next}
use Rattle.headers.proofs.read_settings.Goals as goal

pub loop-k-init : goal.loop-k-init
loop-k-init c =
    let a = c.args in
    sym (filled_none a.version a.bytes.now a.into.now)

pub put_settings-requires : goal.put_settings-requires
put_settings-requires c = (omega arith, omega (arith, body_grows c.args.version (c.loop-k.k + 1) c.args.guests (omega arith)), omega arith)

pub loop-k-preserved : goal.loop-k-preserved
loop-k-preserved c =
    let s = c.loop-k in
    let a = c.args in
    let put : List ℕ → List ℕ = λ (l : List ℕ). stores (λ j. s.k * settings_wide + j) (λ j. get_or (settings_form.line (settings_at a.version a.bytes.now s.k)) j 0) settings_wide l in
    c.put_settings.ensures ∙ ap put s.invariant ∙ filled_next a.version a.bytes.now a.into.now s.k (omega arith)

pub returns : goal.returns
returns c =
    let s = c.loop-k in
    let a = c.args in
    let e : s.k ≡ a.guests = omega arith in
    s.invariant ∙ ap (filled a.version a.bytes.now a.into.now) e
