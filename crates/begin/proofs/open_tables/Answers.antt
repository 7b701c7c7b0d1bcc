use native.Mathlib.Omega.{arith}
use mathlib.Core.Path.{ap, ◌∙◌}
use Rattle.gate.specs.Promise.{seen, opened}
use Rattle.begin.proofs.Begins.{sizes}
use Rattle.begin.proofs.Opening.{opening_became, opening-shows}
use Rattle.begin.proofs.open_tables.Goals as goal

pub read_settings-requires : goal.read_settings-requires
read_settings-requires c =
    let a = c.args in
    let p = c.requires in
    let z = sizes a.bytes.now a.opened p.bytes_value in
    (omega (arith, z.guests), z.whole, omega (arith, z.guests, p.largest.settings))

pub returns : goal.returns
returns c =
    let a = c.args in
    let p = c.requires in
    let o = c.open in
    let e = o.ensures ∙ ap (λ ss. seen (opened a.opened.depth a.opened.guests a.opened.capacity a.opened.rule ss a.guests.now a.waiting.now a.flight.now)) c.read_settings.ensures in record {
      became = opening_became a.bytes.now a.settings.now a.guests.now a.waiting.now a.flight.now a.opened p.bytes_value p.largest o.result _ _ _ e;
      shown = opening-shows a.bytes.now a.settings.now a.guests.now a.waiting.now a.flight.now a.opened p.bytes_value p.largest o.result _ _ _ e;
    }
