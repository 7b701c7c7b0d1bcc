use native.Mathlib.Omega.{arith}
use mathlib.Core.Path.{sym, subst}
use mathlib.Core.List.{List}
use Prim.Native.Nat.{ℕ}
use Rattle.lines.proofs.PutLaws.{put_front}
use Rattle.stream.specs.Outcome.{Last}
use Rattle.pages.specs.Sheet.{sheet_of}
use Rattle.sheet.proofs.refuse.Goals as goal

pub last-requires : goal.last-requires
last-requires c =
    let a = c.args in
    let g = c.put_refusal-n in record {
      n_in_bounds = omega (arith, g.ensures.upper_bound, g.auto.out);
      last = subst (λ (l : List ℕ). Last sheet_of a.log.now l) (sym (put_front g.ensures.put (omega (arith, g.ensures.upper_bound)))) c.requires;
    }
