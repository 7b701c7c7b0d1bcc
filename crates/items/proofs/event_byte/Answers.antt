use Prim.Native.Nat.{◌*◌, ◌%◌}
use native.Mathlib.Omega.{arith}
use mathlib.Core.Path.{◌≡◌}
use lib.Bits.{or_shifted}
use Rattle.items.proofs.event_byte.Goals as goal

pub returns : goal.returns
returns c =
    let low : c.args.upper * 4 % 256 ≡ c.args.upper * 4 = omega (arith, c.requires.1) in
    rw low (or_shifted c.args.upper 2 c.args.kind c.requires.0)
