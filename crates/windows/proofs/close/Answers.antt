-- `close` meets its contract: what is copied is the table. Assumes nothing.
use Rattle.std.proofs.Common.{ℕ, List, ◌++◌, ap, ◌∙◌, drop}
use Rattle.windows.proofs.close.Goals as goal

pub returns : goal.returns
returns c =
    let a = c.args in
    λ ws w. ap (λ (xs : List ℕ). xs ++ drop a.size a.waiting.now) (c.copy_from_slice.ensures.after ∙ w.shows)
