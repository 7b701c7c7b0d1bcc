-- After i events the room holds the kept ones of the first i, and the list the rows of the others. Assumes nothing.
use Prim.Native.Nat.{ℕ, ◌+◌, ◌*◌}
use mathlib.Core.Path.{◌≡◌, refl, sym, ap, ◌∙◌}
use mathlib.Core.List.{◌++◌, append-nil}
use native.Mathlib.Omega.{arith}
use native.Mathlib.Nat.{add-zero}
use lib.ListN.{length, take, drop}
use lib.Seq.{sets}
use Rattle.std.specs.Prelude.{Some, Ok, Err}
use Rattle.lines.proofs.PutLaws.{puts, put_as}
use Rattle.moved.proofs.Parts.{part_is, length_part}
use Rattle.salvage.specs.Fates.{last_at, fate_at, Fate}
use Rattle.salvage.specs.Result.{bytes_by, row_by, kept_of, rows_of, event_count, flat}
use Rattle.salvage.proofs.Counts.{fate_here, last_here, kept_more, rows_more, flat_append, kept-room, row_room}
use Rattle.saves.proofs.writing.put_events.Goals as goal
use Rattle.saves.proofs.writing.put_events.Goals.{in-Ok, in-Err}

pub loop-i-init : goal.loop-i-init
unfolding last_at kept_of rows_of flat
loop-i-init c = (refl, record { next = sym (add-zero c.args.first); bytes = refl }, record { next = refl; bytes = refl })

pub slice_bounds-put_all-end : goal.slice_bounds-put_all-end
slice_bounds-put_all-end c =
    let a = c.args in
    let l = c.loop-i in
    let f = sym c.in-Ok.is ∙ fate_here a.version a.bytes.now l.i l.last c.fate_of.result c.fate_of.ensures l.invariant.0 in
    let here = kept-room a.version a.bytes.now l.i (event_count a.bytes.now) (Ok c.in-Ok.time) a.first l.at (length l.room) f (omega (arith, c.div_ceil-i-end.ensures, c.loop-i-test.true)) l.invariant.1.next (omega (arith, c.requires.0, l.auto.room)) in
    omega (arith, here.0)

pub put_all-at-requires : goal.put_all-at-requires
put_all-at-requires c =
    let a = c.args in
    let l = c.loop-i in
    let f = sym c.in-Ok.is ∙ fate_here a.version a.bytes.now l.i l.last c.fate_of.result c.fate_of.ensures l.invariant.0 in
    let here = kept-room a.version a.bytes.now l.i (event_count a.bytes.now) (Ok c.in-Ok.time) a.first l.at (length l.room) f (omega (arith, c.div_ceil-i-end.ensures, c.loop-i-test.true)) l.invariant.1.next (omega (arith, c.requires.0, l.auto.room)) in
    omega (arith, here.1, length_part a.bytes.now (l.i * 14) 14 here.0)

pub put_row-row-requires : goal.put_row-row-requires
put_row-row-requires c =
    let a = c.args in
    let l = c.loop-i in
    let f = sym c.in-Err.is ∙ fate_here a.version a.bytes.now l.i l.last c.fate_of.result c.fate_of.ensures l.invariant.0 in
    row_room a.version a.bytes.now l.i (event_count a.bytes.now) (Err c.in-Err.why) l.row _ f (omega (arith, c.div_ceil-i-end.ensures, c.loop-i-test.true)) l.invariant.2.next (omega (arith, c.requires.1, l.auto.list))

pub loop-i-preserved : goal.loop-i-preserved
unfolding flat
loop-i-preserved c =
    let a = c.args in
    let l = c.loop-i in
    let v = a.version in
    let bs = a.bytes.now in
    let fate = fate_here v bs l.i l.last c.fate_of.result c.fate_of.ensures l.invariant.0 in
    elim c.match-fate_of.branch [
      | in-Ok w ↦
          let f : Ok w.in-Ok.time ≡ fate_at v bs l.i = sym w.in-Ok.is ∙ fate in
          let event = put_as (sym (part_is bs (l.i * 14) 14)) w.put_all-at.ensures in
          let kept = put_as (kept_more v bs l.i ∙ ap (λ (x : Fate). kept_of v bs l.i ++ bytes_by x (take 14 (drop (l.i * 14) bs))) (sym f)) (puts l.invariant.1 event) in
          let rows = put_as (ap flat (rows_more v bs l.i ∙ ap (λ (x : Fate). rows_of v bs l.i ++ row_by x (l.i + 1)) (sym f) ∙ append-nil (rows_of v bs l.i))) l.invariant.2 in (
            w.last-is ∙ last_here v bs l.i l.last (Some w.in-Ok.time) (Ok w.in-Ok.time) refl l.invariant.0 f,
            record { next = w.at-is ∙ kept.next; bytes = w.room-is ∙ kept.bytes },
            record { next = w.row-is ∙ rows.next; bytes = w.list-is ∙ rows.bytes },
          )
      | in-Err w ↦
          let f : Err w.in-Err.why ≡ fate_at v bs l.i = sym w.in-Err.is ∙ fate in
          let kept = put_as (kept_more v bs l.i ∙ ap (λ (x : Fate). kept_of v bs l.i ++ bytes_by x (take 14 (drop (l.i * 14) bs))) (sym f) ∙ append-nil (kept_of v bs l.i)) l.invariant.1 in
          let rows
          = put_as (ap flat (rows_more v bs l.i) ∙ flat_append (rows_of v bs l.i) (row_by (fate_at v bs l.i) (l.i + 1)) ∙ ap (λ (x : Fate). flat (rows_of v bs l.i) ++ flat (row_by x (l.i + 1))) (sym f))
          (puts l.invariant.2 w.put_row-row.ensures) in (
            w.last-is ∙ last_here v bs l.i l.last l.last (Err w.in-Err.why) refl l.invariant.0 f,
            record { next = w.at-is ∙ kept.next; bytes = w.room-is ∙ kept.bytes },
            record { next = w.row-is ∙ rows.next; bytes = w.list-is ∙ rows.bytes },
          )
    ]

pub returns : goal.returns
returns c =
    let a = c.args in
    let l = c.loop-i in
    let e : l.i ≡ event_count a.bytes.now = omega (arith, c.div_ceil-i-end.ensures) in (
      l.invariant.1.bytes ∙ ap (λ (k : ℕ). sets a.room.now a.first (kept_of a.version a.bytes.now k)) e,
      l.invariant.2.bytes ∙ ap (λ (k : ℕ). sets a.list.now 0 (flat (rows_of a.version a.bytes.now k))) e,
    )
