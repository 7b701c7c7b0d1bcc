use mathlib.Core.Path.{sym, ◌∙◌}
use lib.ListN.{take}
use lib.Pointwise.{bytes_decides}
use Rattle.trace.specs.Header.{mark}
use Rattle.trace.proofs.HeaderLaws.{is_same}
use Rattle.fields.proofs.is_marked.Goals as goal

pub returns : goal.returns
returns c =
    let e = c.starts_with.ensures.value in
    let d = bytes_decides mark (take 3 c.args.bytes.now) in
    is_same _ _ _ (λ t. sym (d.0 (sym e ∙ t))) (λ p. e ∙ d.1 (sym p))
