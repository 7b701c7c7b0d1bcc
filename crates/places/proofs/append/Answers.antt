use mathlib.Core.Path.{refl}
use native.Mathlib.Omega.{arith}
use lib.ListN.{length-set}
use Rattle.lists.specs.Stores.{stores}
use Rattle.places.proofs.append.Goals as goal

pub bounds-waiting-from-2 : goal.bounds-waiting-from-2
bounds-waiting-from-2 c = simp length-set (omega arith)

pub bounds-waiting-from-3 : goal.bounds-waiting-from-3
bounds-waiting-from-3 c = simp length-set (omega arith)

pub bounds-waiting-from-4 : goal.bounds-waiting-from-4
bounds-waiting-from-4 c = simp length-set (omega arith)

pub bounds-waiting-from-5 : goal.bounds-waiting-from-5
bounds-waiting-from-5 c = simp length-set (omega arith)

pub bounds-waiting-from-6 : goal.bounds-waiting-from-6
bounds-waiting-from-6 c = simp length-set (omega arith)

pub returns : goal.returns
unfolding stores
returns c = refl
