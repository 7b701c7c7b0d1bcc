use Prim.Native.Nat.{◌*◌, ◌%◌, ◌^◌}
use mathlib.Core.Path.{◌≡◌}
use native.Mathlib.Omega.{arith}
use lib.Pow.{shl_exact}
use Rattle.walks.specs.Unseen.{marked_or}
use Rattle.picks.proofs.with_bit.Goals as goal

pub returns : goal.returns
returns c =
    let a = c.args in
    let e : 1 * 2 ^ a.guest % 2 ^ 64 ≡ 2 ^ a.guest = omega (arith, shl_exact {a = 1} 1 a.guest 64 (omega arith) (omega (arith, c.requires))) in
    rw e (marked_or a.seen a.guest)
