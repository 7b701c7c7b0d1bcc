-- The numbers after the two stores and the two passes are those of the index without the row (Unlinked).
use Prim.Native.Nat.{◌-◌}
use mathlib.Core.Path.{◌≡◌, ◌∙◌}
use native.Mathlib.Omega.{arith}
use lib.ListN.{length, length-set}
use Rattle.index.proofs.Unlinked.{unlinked_by, unlinked_is}
use Rattle.index.proofs.unlink.Goals as goal

pub bounds-index-g-3 : goal.bounds-index-g-3
bounds-index-g-3 c = simp length-set (omega arith)

pub fall-requires : goal.fall-requires
fall-requires c = simp length-set (omega arith)

pub close-requires : goal.close-requires
close-requires c = (omega arith, omega (arith, simp length-set at c.fall.auto.index))

-- the passes leave the index as long as it was
long_kept : (c : goal.After-slice_known-5-1) → length c.close.new.index ≡ length c.args.index.now
long_kept c = c.close.auto.index ∙ simp length-set at c.fall.auto.index

pub shape_of-index : goal.shape_of-index
shape_of-index c = long_kept c

pub returns : goal.returns
returns c =
    let a = c.args in
    let last = c.stays in
    let fell = c.fall in
    let closed = c.close in
    let u =
    unlinked_by a.index.now a.place a.guest last.result c.requires.0 c.requires.3 fell.new.index closed.new.index a.count c.requires.1 last.ensures.0
    last.ensures.1 fell.ensures closed.ensures in
    λ ws ws' i head out.
    unlinked_is ws ws' a.index.now closed.new.index a.place a.count (a.count - 1) a.guest (omega arith) c.requires.1 c.requires.3 i head out u (long_kept c ∙ c.requires.0)
