use mathlib.Core.Path.{refl, sym, ap, ◌∙◌}
use Rattle.lists.specs.Lines.{line_at}
use Rattle.rules.specs.Tables.{reserved, limited}
use Rattle.rules.specs.Events.{tag_if, raised}
use Rattle.table.specs.Columns.{guest_wide}
use Rattle.table.specs.View.{guest_form}
use Rattle.stamps.proofs.tags_of.Goals as goal

pub returns : goal.returns
unfolding raised
returns c =
    let s = c.args in
    let h = guest_form.read (line_at guest_wide s.guests.now s.what.guest) in
    let a = c.tag_if-rtag.ensures ∙ ap (tag_if (reserved h.settings) s.time) c.raised-r.ensures in
    let b = c.tag_if-ltag.ensures ∙ ap (tag_if (limited h.settings) s.time) c.raised-l.ensures in
    let d = c.share_tag-stag.ensures (raised s.what h) (sym c.raised-s.ensures) refl refl in
    λ i. record { rtag = a i; ltag = b i; stag = d i }
