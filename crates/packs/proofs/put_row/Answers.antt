use Rattle.std.proofs.Common.{refl}
use Rattle.lists.specs.Stores.{stores}
use Rattle.packs.proofs.put_row.Goals as goal

pub returns : goal.returns
unfolding stores
returns c = refl
