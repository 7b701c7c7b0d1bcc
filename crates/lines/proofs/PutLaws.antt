-- Bytes put into a buffer one run behind the other. Assumes nothing.
use Prim.Native.Nat.{ℕ, ◌+◌, ◌≤◌}
use mathlib.Core.Path.{◌≡◌, sym, ap, ◌∙◌}
use mathlib.Core.List.{List, ◌++◌}
use native.Mathlib.Omega.{arith}
use lib.ListN.{length, take, length-append}
use lib.Seq.{sets, sets-eq, take-append_seam}
use Rattle.lists.specs.Sets.{sets_append}
use Rattle.lines.specs.Put.{Put}

-- two runs are one
pub puts : {at r s : ℕ} {xs ws ys zs vs : List ℕ} → Put at xs ys r zs → Put r ws zs s vs → Put at (xs ++ ws) ys s vs
puts {at} {r} {s} {xs} {ws} {ys} {zs} {vs} p q =
    record {
      next = rw length-append (omega (arith, p.next, q.next));
      bytes = q.bytes ∙ ap (λ (k : ℕ). sets zs k ws) p.next ∙ ap (λ (l : List ℕ). sets l (at + length xs) ws) p.bytes ∙ sets_append ys at xs ws;
    }

-- the same bytes, said otherwise
pub put_as : {at r : ℕ} {xs ws ys zs : List ℕ} → ws ≡ xs → Put at xs ys r zs → Put at ws ys r zs
put_as {at} {r} {xs} {ws} {ys} {zs} e p =
    record { next = p.next ∙ ap (λ (l : List ℕ). at + length l) (sym e); bytes = p.bytes ∙ ap (sets ys at) (sym e) }

-- what was put at the front of a buffer is read there again
pub put_front : {xs ys zs : List ℕ} {r : ℕ} → Put 0 xs ys r zs → r ≤ length ys → take r zs ≡ xs
put_front {xs} {ys} {zs} {r} p room =
    let e : r ≡ length xs = omega (arith, p.next) in
    ap (λ (k : ℕ). take k zs) e ∙ ap (take (length xs)) (p.bytes ∙ sets-eq xs ys 0 (omega (arith, e))) ∙ take-append_seam xs _
