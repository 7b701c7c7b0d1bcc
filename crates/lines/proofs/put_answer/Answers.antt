use native.Mathlib.Omega.{arith}
use Prim.Native.Nat.{ℕ}
use mathlib.Core.Path.{ap, sym, ◌∙◌}
use mathlib.Core.List.{[], ◌∷◌}
use Rattle.lines.specs.Line.{spaced, answer_of}
use Rattle.lines.proofs.PutLaws.{put_as}
use Rattle.lines.proofs.put_answer.Goals as goal

pub returns-in-Nothing : goal.returns-in-Nothing
returns-in-Nothing c = record {
  put = put_as (ap answer_of c.in-Nothing.is) c.put.ensures;
  upper_bound = omega (arith, c.put.ensures.next);
}

pub returns-in-Sent : goal.returns-in-Sent
returns-in-Sent c =
    let v = c.in-Sent in
    let p = c.put_sent.ensures in record {
      put = put_as (ap answer_of v.is ∙ ap (λ (k : ℕ). k ∷ spaced (v.guest ∷ v.id ∷ [])) (sym c.letter.ensures)) p.put;
      upper_bound = p.upper_bound;
    }

pub returns-in-Refused : goal.returns-in-Refused
returns-in-Refused c =
    let p = c.put_refused.ensures in record {
      put = put_as (ap answer_of c.in-Refused.is) p.put;
      upper_bound = omega (arith, p.upper_bound);
    }
