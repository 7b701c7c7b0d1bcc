use native.Mathlib.Omega.{arith}
use Prim.Native.Nat.{ℕ}
use mathlib.Core.Path.{◌≡◌, ap}
use lib.Dec.{ltb}
use lib.ListN.{length, take}
use lib.Seq.{length-take-le}
use Rattle.lines.specs.Line.{title_line}
use Rattle.trace.specs.Printed.{printed}
use Rattle.stream.specs.Outcome.{MOST}
use Rattle.stream.proofs.Outcomes.{next_unwritten}
use Rattle.decide.proofs.Heading.{title_next, title_standing}
use Rattle.decide.proofs.follow.Goals as goal

pub begin-begun-requires : goal.begin-begun-requires
begin-begun-requires c =
    let p = c.requires in record {
      have_in_bounds = omega (arith, p.have_in_bounds);
      buffer_value = p.buffer_value;
      largest = record { settings = omega arith; guests = omega arith; waiting = omega arith; flight = omega arith };
    }

pub title-requires : goal.title-requires
title-requires c =
    let a = c.args in
    let p = c.requires in
    title_next a.log.now (take a.have a.buffer.now) a.opened p.first p.buffer_value

pub returns-then-not-title : goal.returns-then-not-title
returns-then-not-title c =
    let a = c.args in
    let p = c.requires in
    let t = c.title in
    next_unwritten printed MOST a.log.now t.new.log title_line t.result t.ensures
    (title_next a.log.now (take a.have a.buffer.now) a.opened p.first p.buffer_value)
    c.if-not-title.true

pub run-requires : goal.run-requires
run-requires c =
    let a = c.args in
    let p = c.requires in
    let b = c.begin-begun in
    let t = c.title in
    let bs = take a.have a.buffer.now in
    let l : length bs ≡ a.have = length-take-le a.have a.buffer.now (omega (arith, p.have_in_bounds)) in record {
      first_in_bounds = omega (arith, b.ensures.rest_le_have, p.have_in_bounds);
      known = b.ensures.begins.known;
      standing = title_standing a.log.now bs a.opened p.first p.buffer_value t.new.log t.result _ _ t.ensures
          c.if-not-title.false
          (ap (λ (k : ℕ). ltb k 4096) l)
          (λ i. record { version = a.opened.version; bytes = b.ensures.begins.bytes i; table = b.ensures.begins.table i; number = 0 });
    }
