use native.Mathlib.Omega.{arith}
use Prim.Native.Nat.{ℕ, ◌-◌}
use mathlib.Core.Path.{ap, sym, ◌∙◌}
use lib.ListN.{take, drop}
use lib.Seq.{length-take-le}
use Rattle.buffers.proofs.Shifts.{shift_front}
use Rattle.begin.proofs.Begins.{sizes}
use Rattle.begin.proofs.begin.Goals as goal

pub slice_bounds-open_tables-end-2 : goal.slice_bounds-open_tables-end-2
slice_bounds-open_tables-end-2 c = sym (length-take-le c.args.have c.args.buffer.now c.requires.have_in_bounds)

pub body-start-requires : goal.body-start-requires
body-start-requires c =
    let a = c.args in
    omega (arith, (sizes (take a.have a.buffer.now) a.opened c.requires.buffer_value).guests)

pub copy_within-requires-clause-start_le_end : goal.copy_within-requires-clause-start_le_end
copy_within-requires-clause-start_le_end c =
    let a = c.args in
    let h = c.requires.have_in_bounds in
    omega (arith, c.body-start.ensures, (sizes (take a.have a.buffer.now) a.opened c.requires.buffer_value).whole, length-take-le a.have a.buffer.now h, h)

pub overflow_sub-result : goal.overflow_sub-result
overflow_sub-result c =
    let a = c.args in
    let h = c.requires.have_in_bounds in
    omega (arith, c.body-start.ensures, (sizes (take a.have a.buffer.now) a.opened c.requires.buffer_value).whole, length-take-le a.have a.buffer.now h, h)

pub returns : goal.returns
returns c =
    let a = c.args in
    let p = c.requires in
    let bs = take a.have a.buffer.now in
    let l = length-take-le a.have a.buffer.now p.have_in_bounds in
    let z = sizes bs a.opened p.buffer_value in
    let s = c.copy_within in
    let b = c.body-start in
    let o = c.open_tables-gate in record {
      begins = record {
        bytes = ap (take (a.have - b.result)) s.ensures.after
            ∙ shift_front a.buffer.now b.result a.have (omega (arith, z.whole, l, b.ensures)) p.have_in_bounds
            ∙ ap (λ (k : ℕ). drop k bs) b.ensures;
        table = o.ensures.shown;
        known = o.ensures.became.known;
      };
      rest_le_have = omega arith;
    }
