use native.Mathlib.Omega.{arith}
use Prim.Native.Nat.{ℕ, ◌+◌, ◌-◌, ◌*◌, ◌/◌}
use mathlib.Core.Path.{◌≡◌, sym, ap, ◌∙◌, subst}
use lib.ListN.{take, drop}
use lib.Seq.{length-take-le}
use Rattle.buffers.proofs.Shifts.{shift_front}
use Rattle.trace.specs.Event.{whole}
use Rattle.pages.specs.Sheet.{onward}
use Rattle.pages.specs.Standing.{Firm}
use Rattle.rolls.proofs.take_in.Goals as goal

pub turn_all-after-requires : goal.turn_all-after-requires
turn_all-after-requires c =
    let a = c.args in
    let p = c.requires in record {
      bytes_bound = omega (arith, length-take-le a.have a.buffer.now (omega (arith, p.have_in_bounds.0)), p.have_in_bounds.1);
      firm = p.firm;
    }

pub returns : goal.returns
unfolding onward
returns c =
    let a = c.args in
    let p = c.requires in
    let bs = take a.have a.buffer.now in
    let l = length-take-le a.have a.buffer.now (omega (arith, p.have_in_bounds.0)) in
    let w : a.have / 14 ≡ whole bs = omega (arith, l) in
    let s = c.copy_within in
    let t = c.turn_all-after in
    let front : take (a.have - a.have / 14 * 14) s.new.self ≡ drop (whole bs * 14) bs = ap (take (a.have - a.have / 14 * 14)) s.ensures.after
    ∙ shift_front a.buffer.now (a.have / 14 * 14) a.have (omega arith) (omega (arith, p.have_in_bounds.0))
    ∙ ap (λ (k : ℕ). drop (k * 14) bs) w in record {
      figures_after = λ i. record { version = a.version; bytes = front i; page = t.ensures.figures_after i };
      firm_2 = subst (λ (k : ℕ). Firm (a.number + k) t.result t.new.guests t.new.waiting t.new.flight t.new.book t.new.figures) (sym w) t.ensures.firm_2;
      rest_bound = (omega arith, omega arith);
    }
