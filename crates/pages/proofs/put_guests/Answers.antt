use native.Mathlib.Omega.{arith}
use Prim.Native.Nat.{ℕ}
use mathlib.Core.Path.{◌≡◌, refl, ◌∙◌, subst}
use Rattle.lines.specs.Put.{Put}
use Rattle.tally.specs.Kept.{figures_of}
use Rattle.pages.specs.Sheet.{figures_lines}
use Rattle.pages.proofs.Printing.{lines_none, lines_next}
use Rattle.pages.proofs.put_guests.Goals as goal

pub loop-k-init : goal.loop-k-init
loop-k-init c = (omega arith, refl, lines_none c.args.figures.now c.args.out.now)

pub put_guest-at-requires : goal.put_guest-at-requires
put_guest-at-requires c =
    let s = c.loop-k in
    let p = c.requires in
    let o = p.owing s.k (omega arith) in record {
      at_in_bounds = (omega (arith, s.invariant.0, s.invariant.1, p.known_in_bounds), omega (arith, p.known_in_bounds));
      guest_bound = o.0;
      guest_bound_2 = o.1;
    }

pub loop-k-preserved : goal.loop-k-preserved
loop-k-preserved c =
    let s = c.loop-k in
    let a = c.args in
    let g = c.put_guest-at in
    (omega (arith, g.ensures.upper_bound, s.invariant.0), g.auto.out ∙ s.invariant.1, lines_next a.figures.now a.out.now s.k s.invariant.2 g.ensures.put)

pub shape_of-out : goal.shape_of-out
shape_of-out c = c.loop-k.invariant.1

pub returns : goal.returns
returns c =
    let s = c.loop-k in
    let a = c.args in
    let e : s.k ≡ a.known = omega arith in record {
      put = subst (λ (j : ℕ). Put 0 (figures_lines 0 (figures_of a.figures.now j)) a.out.now s.at s.out) e s.invariant.2;
      upper_bound = omega (arith, s.invariant.0, e);
    }
