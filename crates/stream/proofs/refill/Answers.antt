use native.Mathlib.Omega.{arith}
use Prim.Native.Nat.{ℕ, ◌-◌, ◌≤◌}
use mathlib.Core.Path.{◌≡◌, sym, subst}
use mathlib.Core.List.{List}
use lib.ListN.{length, take, drop, length-take, length-drop}
use borrow.Rule.Slice.PartMut.{take_put}
use Rattle.port.specs.Moves.{Goes, brought, Within}
use Rattle.stream.proofs.Behind.{behind}
use Rattle.stream.proofs.refill.Goals as goal

pub returns : goal.returns
returns c =
    let a = c.args in
    let g = c.get in
    let room : a.have ≤ length a.buffer.now = omega (arith, c.requires) in
    let as_long : length (take (length a.buffer.now - a.have) (drop a.have a.buffer.now)) ≡ length a.buffer.now - a.have =
    omega (arith, length-take (length a.buffer.now - a.have) (drop a.have a.buffer.now), length-drop a.have a.buffer.now) in record {
      goes = subst (λ (l : List ℕ). Goes (brought g.result l) a.log.now g.new.log) (sym (behind a.have a.buffer.now g.new.buffer room)) g.ensures.goes;
      within = subst (λ (k : ℕ). Within g.result k) as_long g.ensures.within;
      buffer_unchanged = take_put a.have (length a.buffer.now - a.have) a.buffer.now g.new.buffer room;
    }
