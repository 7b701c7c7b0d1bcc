use mathlib.Core.Path.{◌≡◌}
use mathlib.Core.Bool.{true}
use Rattle.lists.specs.Words.{all}
use Rattle.lists.specs.Tab.{tab}
use Rattle.rules.specs.Sound.{settled}
use Rattle.trace.specs.Header.{settings_at}
use Rattle.fields.proofs.has_settings.Given as goal

abbrev pub invariant-loop-k : goal.invariant-loop-k
invariant-loop-k l = all settled (tab l.k (settings_at l.version l.bytes)) ≡ true
