use Prim.Native.Nat.{ℕ, ◌+◌, ◌-◌}
use mathlib.Core.Path.{◌≡◌, refl, sym, ap, ◌∙◌, subst}
use mathlib.Core.List.{List, ◌++◌}
use native.Mathlib.Omega.{arith}
use native.Mathlib.Nat.{zero-add}
use lib.ListN.{length, take, drop, length-drop}
use lib.Seq.{sets, take_all}
use Rattle.lines.specs.Put.{Put}
use Rattle.lines.proofs.PutLaws.{puts}
use Rattle.trace.specs.Header.{body, guests_of}
use Rattle.trace.specs.Answers.{event_bytes}
use Rattle.trace.proofs.HeaderLaws.{body_grows}
use Rattle.moved.specs.Result.{head_to, records_to, moved_to}
use Rattle.moved.specs.Judging.{AllBare}
use Rattle.moved.proofs.Bytes.{length_head, length-records}
use Rattle.movers.proofs.writing.write.Goals as goal

pub put_head-a-requires : goal.put_head-a-requires
put_head-a-requires c =
    let a = c.args in
    let bs = a.trace.now in
    let p = c.requires in
    (p.long, p.known, omega (arith, p.enough, body_grows a.to 0 (guests_of bs) (omega arith)))

pub put_records-b-requires : goal.put_records-b-requires
put_records-b-requires c =
    let a = c.args in
    let bs = a.trace.now in
    let p = c.requires in
    let g = c.guests_in-guests.ensures.0 in
    let first = c.put_head-a in
    (omega (arith, g, p.few), rw g p.whole, omega (arith, ap (body a.to) g, p.enough, first.auto.room), omega (arith, first.ensures.next, length_head a.to bs))

pub slice_bounds-put_events-count : goal.slice_bounds-put_events-count
slice_bounds-put_events-count c =
    let a = c.args in
    let bs = a.trace.now in
    let p = c.requires in
    let g = c.guests_in-guests.ensures.0 in
    let b : c.body-at.result ≡ body a.version (guests_of bs) = c.body-at.ensures ∙ ap (body a.version) g in
    omega (arith, b, p.whole)

pub put_events-requires : goal.put_events-requires
put_events-requires c =
    let a = c.args in
    let bs = a.trace.now in
    let p = c.requires in
    let g = c.guests_in-guests.ensures.0 in
    let b : c.body-at.result ≡ body a.version (guests_of bs) = c.body-at.ensures ∙ ap (body a.version) g in
    let part : take (length bs - c.body-at.result) (drop c.body-at.result bs) ≡ event_bytes bs
    = take_all (length bs - c.body-at.result) (drop c.body-at.result bs) (omega (arith, length-drop c.body-at.result bs)) ∙ ap (λ (k : ℕ). drop k bs) b ∙ (λ i. drop (body (p.version_is i) (guests_of bs)) bs) in
    let first = c.put_head-a in
    let next = c.put_records-b in
    let at = length-records a.to a.version bs 0 c.guests_in-guests.result (rw (zero-add, g) p.whole) in
    let end : body a.to (0 + c.guests_in-guests.result) ≡ body a.to (guests_of bs) = ap (body a.to) (zero-add _ ∙ g) in
    let long = ap length part in (
      omega (arith, next.ensures.next, first.ensures.next, length_head a.to bs, at, end, long, p.enough, first.auto.room, next.auto.room),
      subst (AllBare a.version) (sym part) p.bare,
    )

pub returns : goal.returns
unfolding moved_to
returns c =
    let a = c.args in
    let bs = a.trace.now in
    let p = c.requires in
    let g = c.guests_in-guests.ensures.0 in
    let b : c.body-at.result ≡ body a.version (guests_of bs) = c.body-at.ensures ∙ ap (body a.version) g in
    let part : take (length bs - c.body-at.result) (drop c.body-at.result bs) ≡ event_bytes bs
    = take_all (length bs - c.body-at.result) (drop c.body-at.result bs) (omega (arith, length-drop c.body-at.result bs)) ∙ ap (λ (k : ℕ). drop k bs) b ∙ (λ i. drop (body (p.version_is i) (guests_of bs)) bs) in
    let events : Put _ (take (length bs - c.body-at.result) (drop c.body-at.result bs)) _ _ _ = record { next = refl; bytes = c.put_events.ensures } in
    let all = puts c.put_head-a.ensures (puts c.put_records-b.ensures events) in
    all.bytes
    ∙ ap (λ (l : List ℕ). sets a.room.now 0 (head_to a.to bs ++ (records_to a.to a.version bs 0 c.guests_in-guests.result ++ l))) part
    ∙ (λ i. sets a.room.now 0 (head_to a.to bs ++ (records_to a.to (p.version_is i) bs 0 (g i) ++ event_bytes bs)))
