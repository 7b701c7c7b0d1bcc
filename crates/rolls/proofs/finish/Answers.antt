use native.Mathlib.Omega.{arith}
use mathlib.Core.Path.{sym, subst}
use mathlib.Core.List.{List}
use Prim.Native.Nat.{ℕ}
use Rattle.lines.proofs.PutLaws.{put_front}
use Rattle.stream.specs.Outcome.{Last}
use Rattle.pages.specs.Sheet.{sheet_of}
use Rattle.rolls.proofs.finish.Goals as goal

pub put_guests-n-requires : goal.put_guests-n-requires
put_guests-n-requires c =
    let p = c.requires in record {
      known_in_bounds = (omega (arith, p.few), p.room);
      owing = p.owing;
    }

pub last-requires : goal.last-requires
last-requires c =
    let a = c.args in
    let g = c.put_guests-n in record {
      n_in_bounds = omega (arith, g.ensures.upper_bound, g.auto.out, c.requires.few);
      last = subst (λ (l : List ℕ). Last sheet_of a.log.now l) (sym (put_front g.ensures.put (omega (arith, g.ensures.upper_bound, c.requires.few)))) c.requires.last;
    }
