use mathlib.Core.Path.{sym, ◌∙◌}
use lib.ListN.{take}
use Rattle.trace.proofs.Shown.{header_shown_once}
use Rattle.decide.proofs.Heading.{refused_last}
use Rattle.decide.proofs.judge.Goals as goal

pub refuse-requires : goal.refuse-requires
refuse-requires c =
    let a = c.args in
    let h = c.read_header in
    refused_last a.log.now (take a.have a.buffer.now) _ c.requires.first (sym (header_shown_once h.result _ h.ensures) ∙ c.in-Err.is)

pub follow-requires : goal.follow-requires
follow-requires c =
    let p = c.requires in
    let h = c.read_header in record {
      have_in_bounds = p.have_in_bounds;
      buffer_value = sym (header_shown_once h.result _ h.ensures) ∙ c.in-Ok.is;
      first = p.first;
    }
