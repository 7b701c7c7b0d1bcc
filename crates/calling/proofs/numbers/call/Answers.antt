-- No index stands beside the rows. Assumes nothing.
use mathlib.Core.Path.{refl}
use mathlib.Core.List.{[]}
use native.Mathlib.Omega.{arith}
use Rattle.index.proofs.Laws.{beside_none, stands-none}
use Rattle.calling.proofs.numbers.call.Goals as goal

pub follow-requires : goal.follow-requires
follow-requires c = record {
  judges = c.judge-found.ensures;
  beside = (beside_none {ix = []} refl, λ some. absurd (omega (arith, some)));
}

pub returns : goal.returns
returns c =
    let f = c.follow in
    rw (stands-none [] f.new.waiting f.result.answer refl) at f.ensures.flight_after
