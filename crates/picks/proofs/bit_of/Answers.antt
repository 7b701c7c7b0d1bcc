use Prim.Native.Nat.{◌/◌, ◌^◌}
use lib.Bits.{and_mask}
use Rattle.picks.proofs.bit_of.Goals as goal

pub returns : goal.returns
returns c = and_mask (c.args.seen / 2 ^ c.args.guest) 1
