use native.Mathlib.Omega.{arith}
use Prim.Native.Nat.{◌+◌, ◌*◌}
use Rattle.pages.proofs.Printing.{line-put}
use Rattle.pages.proofs.put_guest.Goals as goal

pub overflow_add-sends : goal.overflow_add-sends
overflow_add-sends c =
    let a = c.args in
    omega (arith, c.requires.guest_bound, c.shared_slice_known-9-1.given (a.guest * 8 + 0))

pub returns : goal.returns
returns c =
    let a = c.args in
    let n = c.put_number-a.ensures in
    let x = c.put_five-b.ensures in
    let y = c.put_five-c.ensures in
    let l = c.put.ensures in record {
      put = line-put a.figures.now a.guest (omega (arith, c.shared_slice_known-9-1.given (a.guest * 8 + 6))) n.put x.put y.put l;
      upper_bound = omega (arith, n.upper_bound, x.upper_bound, y.upper_bound, l.next);
    }
