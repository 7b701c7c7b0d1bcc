use native.Mathlib.Omega.{arith}
use Prim.Native.Nat.{ℕ, ◌+◌, ◌-◌, ◌*◌}
use mathlib.Core.Path.{◌≡◌, ap, sym, ◌∙◌}
use lib.ListN.{take, drop}
use lib.Seq.{length-take-le}
use Rattle.trace.specs.Event.{whole}
use Rattle.buffers.proofs.Shifts.{shift_front}
use Rattle.feed.proofs.Going.{turned}
use Rattle.buffers.proofs.take_in.Goals as goal

pub slice_bounds-feed-end-2 : goal.slice_bounds-feed-end-2
slice_bounds-feed-end-2 c = sym (length-take-le c.args.have c.args.buffer.now c.requires.have_in_bounds.0)

pub feed-fed-requires : goal.feed-fed-requires
feed-fed-requires c =
    let a = c.args in
    let p = c.requires in record {
      known = p.known;
      bytes_bound = omega (arith, length-take-le a.have a.buffer.now p.have_in_bounds.0, p.have_in_bounds.1);
    }

pub returns : goal.returns
returns c =
    let a = c.args in
    let p = c.requires in
    let f = c.feed-fed in
    let s = c.copy_within in
    let bs = take a.have a.buffer.now in
    let l = length-take-le a.have a.buffer.now p.have_in_bounds.0 in
    let n : f.result.events ≡ whole bs = omega (arith, f.ensures.taken, l, p.have_in_bounds.1) in
    let front : take (a.have - f.result.events * 14) s.new.self ≡ drop (whole bs * 14) bs = ap (take (a.have - f.result.events * 14)) s.ensures.after
    ∙ shift_front a.buffer.now (f.result.events * 14) a.have (omega (arith, n, l)) p.have_in_bounds.0
    ∙ ap (λ (k : ℕ). drop (k * 14) bs) n in record {
      turned = turned a.gate a.guests.now a.waiting.now a.flight.now p.known a.version bs a.number a.out.now _ _ _ _ _ f.result.events f.result.bytes f.ensures n _ front _ (ap (λ (k : ℕ). a.number + k) n);
      rest_bound = (omega (arith, n, l), omega (arith, n, l, s.ensures.len, p.have_in_bounds.0));
    }
