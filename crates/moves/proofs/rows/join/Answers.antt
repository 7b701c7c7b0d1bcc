use mathlib.Core.Path.{refl}
use native.Mathlib.Omega.{arith}
use lib.ListN.{length-set}
use Rattle.lists.specs.Stores.{stores}
use Rattle.moves.proofs.rows.join.Goals as goal

pub bounds-flight-end-2 : goal.bounds-flight-end-2
bounds-flight-end-2 c = simp length-set (omega arith)

pub returns : goal.returns
returns c = record {
  flight_after = unfold stores in refl;
  named = (refl, refl, refl);
}
