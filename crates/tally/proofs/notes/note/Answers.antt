-- `note` meets its contract: the four stores are those of the definition. Assumes nothing.
use Rattle.std.proofs.Common.{refl, arith, length-set}
use Rattle.lists.specs.Stores.{stores}
use Rattle.tally.proofs.notes.note.Goals as goal

pub bounds-book-place-2 : goal.bounds-book-place-2
bounds-book-place-2 c = simp length-set (omega arith)

pub bounds-book-place-3 : goal.bounds-book-place-3
bounds-book-place-3 c = simp length-set (omega arith)

pub bounds-book-place-4 : goal.bounds-book-place-4
bounds-book-place-4 c = simp length-set (omega arith)

pub returns : goal.returns
unfolding stores
returns c = refl
