use mathlib.Core.Path.{refl}
use Rattle.lists.specs.Stores.{stores}
use Rattle.headers.proofs.put_settings.Goals as goal

pub returns : goal.returns
unfolding stores
returns c = rw (c.settings_of-settings.ensures) refl
