use mathlib.Core.Path.{◌≡◌, sym, ap, ◌∙◌}
use mathlib.Core.List.{[], ◌∷◌}
use native.Mathlib.Omega.{arith}
use lib.ListN.{length}
use Rattle.rules.specs.Refusals.{Verdict, refuse, judged}
use Rattle.rules.specs.declared.Refusal.TheVariants.{RoomShort}
use Rattle.salvage.specs.Salvages.{room_tests, leaves_by}
use Rattle.salvage.proofs.Parts.{tally_bytes, tally_rows, tally_list, salvaged-fits}
use Rattle.salvage.proofs.Verdicts.{room-short, list_short, room_enough}
use Rattle.saves.proofs.sort.Goals as goal
use Rattle.saves.proofs.sort.Goals.{then-room-bytes-via-then-room-bytes, then-room-bytes-via-else-room-bytes+then-list-seen}

pub overflow_add-bytes : goal.overflow_add-bytes
overflow_add-bytes c =
    let a = c.args in
    let t = c.look_over-seen in
    omega (arith, tally_bytes a.version a.at a.trace.now c.requires t.result.bytes t.result.rows t.ensures, salvaged-fits a.version a.at a.trace.now c.requires)

pub returns-then-room-bytes : goal.returns-then-room-bytes
returns-then-room-bytes c =
    let a = c.args in
    let bs = a.trace.now in
    let t = c.look_over-seen in
    let n = tally_bytes a.version a.at bs c.requires t.result.bytes t.result.rows t.ensures in
    let m = tally_list a.version a.at bs c.requires t.result.bytes t.result.rows t.ensures in
    let short : judged (room_tests bs (length a.room.now) (length a.list.now)) ≡ refuse RoomShort
    = elim c.then-room-bytes.branch [
      | then-room-bytes-via-then-room-bytes w ↦ room-short bs (length a.room.now) (length a.list.now) (omega (arith, n, w.if-room-bytes.true))
      | then-room-bytes-via-else-room-bytes+then-list-seen w ↦ list_short bs (length a.room.now) (length a.list.now) (omega (arith, m, w.if-list-seen.true))
    ] in
    sym (ap (λ (v : Verdict). leaves_by v bs a.room.now a.list.now) short)

pub write-requires : goal.write-requires
write-requires c =
    let a = c.args in
    let bs = a.trace.now in
    let t = c.look_over-seen in (
      c.requires,
      record {
        trace = omega (arith, tally_bytes a.version a.at bs c.requires t.result.bytes t.result.rows t.ensures, c.if-room-bytes.false);
        rows = omega (arith, tally_list a.version a.at bs c.requires t.result.bytes t.result.rows t.ensures, c.if-list-seen.false);
      },
    )

pub returns : goal.returns
returns c =
    let a = c.args in
    let bs = a.trace.now in
    let t = c.look_over-seen in
    let n = tally_bytes a.version a.at bs c.requires t.result.bytes t.result.rows t.ensures in
    let m = tally_rows a.version a.at bs c.requires t.result.bytes t.result.rows t.ensures in
    let l = tally_list a.version a.at bs c.requires t.result.bytes t.result.rows t.ensures in
    let w = c.write.ensures in
    (λ i. (0 ∷ n i ∷ m i ∷ [], w.0 i, w.1 i))
    ∙ sym (ap (λ (v : Verdict). leaves_by v bs a.room.now a.list.now) (room_enough bs (length a.room.now) (length a.list.now) (omega (arith, n, c.if-room-bytes.false)) (omega (arith, l, c.if-list-seen.false))))
