use mathlib.Core.Path.{◌≡◌}
use Rattle.headers.proofs.SettingsRows.{filled}
use Rattle.headers.proofs.read_settings.Given as goal

abbrev pub invariant-loop-k : goal.invariant-loop-k
invariant-loop-k l = l.into ≡ filled l.version l.bytes l.initial.into l.k
