-- WHAT A LIMIT IS WORTH, of the calls: over any run of calls from tables that are long enough and sound, for every way in which guests are lent.
-- Document 02, K11. Assumes nothing.
use mathlib.Core.Path.{◌≡◌}
use mathlib.Core.Bool.{true}
use mathlib.Core.List.{List}
use Rattle.lists.specs.Words.{all}
use Rattle.rules.specs.declared.Event.{Event}
use Rattle.worth.specs.Worth.{Worth}
use Rattle.worth.proofs.Worth.{limit_worth}
use Rattle.gate.specs.Promise.{Lending}
use Rattle.gate.specs.Calls.{Host, replies, shows, firm, narrow}
use Rattle.gate.proofs.Lending.{Lawful}
use Rattle.gate.proofs.Runs.{firm-holds, holds-sound, calls_run}

module _ (v : Lending) (lawful : Lawful v) where
  -- of the answers that the calls give
  pub calls_worth : (h : Host v) (es : List Event) → firm v h ≡ true → all narrow es ≡ true → Worth (shows v h) es (replies v h es)
  calls_worth h es f n =
      rw (calls_run v lawful es h f n).answered (limit_worth (shows v h) es (holds-sound v lawful h (firm-holds v lawful h f)))
