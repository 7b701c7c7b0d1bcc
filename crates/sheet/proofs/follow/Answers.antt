use native.Mathlib.Omega.{arith}
use Prim.Native.Nat.{ℕ}
use mathlib.Core.Path.{◌≡◌, ap, ◌∙◌}
use lib.Dec.{ltb}
use lib.ListN.{length, take, replicate}
use Rattle.tally.specs.Columns.{figures_long}
use lib.Seq.{length-take-le}
use Rattle.sheet.proofs.Opening.{begun-stands, begun-firm}
use Rattle.sheet.proofs.Heading.{opened-standing}
use Rattle.sheet.proofs.follow.Goals as goal

pub begin-begun-requires : goal.begin-begun-requires
begin-begun-requires c =
    let p = c.requires in record {
      have_in_bounds = omega (arith, p.have_in_bounds);
      buffer_value = p.buffer_value;
      largest = record { settings = omega arith; guests = omega arith; waiting = omega arith; flight = omega arith };
    }

pub run-requires : goal.run-requires
run-requires c =
    let a = c.args in
    let p = c.requires in
    let b = c.begin-begun in
    let bs = take a.have a.buffer.now in
    let l : length bs ≡ a.have = length-take-le a.have a.buffer.now (omega (arith, p.have_in_bounds)) in
    let long : length a.ledger.now.figures ≡ figures_long = omega arith in
    let cleared : c.fill.new.self ≡ replicate figures_long 0 = c.fill.ensures.after (λ y e. e) ∙ ap (λ (n : ℕ). replicate n 0) long in record {
      first_in_bounds = omega (arith, b.ensures.rest_le_have, p.have_in_bounds);
      firm = begun-firm a.opened bs _ b.result.gate _ _ _ a.ledger.now.book c.fill.new.self b.ensures.begins (omega arith) cleared;
      standing = opened-standing a.log.now bs p.first a.opened p.buffer_value _ (ap (λ (k : ℕ). ltb k 4096) l) _ (begun-stands a.opened bs _ b.result.gate _ _ _ a.ledger.now.book c.fill.new.self b.ensures.begins (omega arith) cleared);
    }
