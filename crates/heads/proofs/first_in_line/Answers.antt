-- `first_in_line` meets its contract. After some guests the loop holds for each phase the row of theirs that goes first. Assumes nothing.
use Prim.Native.Nat.{ℕ, ◌-◌, ◌<◌}
use mathlib.Core.Path.{◌≡◌, sym, subst}
use mathlib.Core.List.{List}
use native.Mathlib.Omega.{arith}
use Rattle.table.specs.Columns.{most_guests}
use Rattle.walks.specs.Walks.{Owned}
use Rattle.walks.specs.WalksRows.{due-tag, stag_at}
use Rattle.index.specs.Index.{first_at, Head, Leads, Indexed}
use Rattle.seeks.specs.Reads.{row_here}
use Rattle.heads.specs.Leading.{leading_start, leading_none, leading_picks, due_barred, open_barred}
use Rattle.heads.proofs.Looks.{due_look, open_look}
use Rattle.heads.proofs.first_in_line.Goals as goal
use Rattle.heads.proofs.first_in_line.Goals.{then-number-gt0, else-number-gt0}

-- a number that is told is that of the guest's first row
named : {ws ix : List ℕ} {count g r : ℕ} → Indexed ws ix count → g < most_guests → (0 < r → r ≡ first_at ix g) → 0 < r → (r - 1 < count) × Head ws g 0 (r - 1)
named {ws} {ix} {count} {g} {r} i low same more = row_here (subst (λ (x : ℕ). Leads ws g 0 count x) (sym (same more)) (i.first g low)) more

pub loop-g-init : goal.loop-g-init
loop-g-init c = let a = c.args.queue in (leading_start a.waiting.now a.count, leading_start a.waiting.now a.count)

pub ready_first-number-requires : goal.ready_first-number-requires
ready_first-number-requires c = let p = c.requires in record {
  guest_lt_most_guests = (omega arith, omega arith);
  by_index = (_, p.count_le_most_capacity.1, p.count_le_most_capacity.0, p.indexed);
}

pub overflow_mul-at : goal.overflow_mul-at
overflow_mul-at c =
    omega (arith, (named c.requires.indexed (omega arith) c.ready_first-number.ensures.value c.if-number-gt0.true).0)

pub due_tag-tag-requires : goal.due_tag-tag-requires
due_tag-tag-requires c =
    let r = named c.requires.indexed (omega arith) c.ready_first-number.ensures.value c.if-number-gt0.true in
    (omega (arith, r.0), omega arith, omega arith, c.requires.time_le_ceiling.1)

pub open_tag-share-requires : goal.open_tag-share-requires
open_tag-share-requires c =
    let r = named c.requires.indexed (omega arith) c.ready_first-number.ensures.value c.if-number-gt0.true in
    (omega (arith, r.0), c.requires.time_le_ceiling.0)

pub loop-g-preserved : goal.loop-g-preserved
loop-g-preserved c =
    let s = c.loop-g in
    let a = c.args.queue in
    let pre = c.requires.owned in
    let few = c.requires.count_le_most_capacity.0 in
    let early = c.requires.time_le_ceiling.0 in
    let indexed = c.requires.indexed in
    let told = c.ready_first-number.ensures in
    elim c.if-number-gt0.branch [
      | then-number-gt0 v ↦ let r = named indexed (omega arith) told.value v.if-number-gt0.true in
          rw (v.due-is, v.spare-is, v.hold-due.ensures, v.hold-spare.ensures) (
            due_look a.guests.now a.waiting.now a.known a.count a.time c.args.latest few early r.0 r.1 pre.1 v.due_tag-tag.result pre.0 s.invariant.0 v.due_tag-tag.ensures,
            open_look a.guests.now a.waiting.now a.known a.count a.time c.args.latest few early r.0 r.1 pre.1 v.open_tag-share.result s.invariant.1 v.open_tag-share.ensures,
          )
      | else-number-gt0 v ↦ let leads = indexed.first s.g (omega arith) in
          let barred = told.barred (omega (arith, v.if-number-gt0.false)) in
          rw (v.due-is, v.spare-is) (
            leading_none a.waiting.now a.count s.invariant.0 (due_barred a.guests.now a.waiting.now a.known a.count a.time c.args.latest leads barred pre.1 pre.0),
            leading_none a.waiting.now a.count s.invariant.1 (open_barred a.guests.now a.waiting.now a.known a.count a.time c.args.latest leads barred pre.1),
          )
    ]

pub returns : goal.returns
returns c =
    let s = c.loop-g in
    let a = c.args.queue in
    let ws = a.waiting.now in
    let pre = c.requires.owned in
    let few = c.requires.count_le_most_capacity.0 in
    let owned : Owned ws a.count s.g = λ k here. omega (arith, pre.0 k here, c.loop-g-test.false) in record {
      picks = rw c.found_in.ensures
          (leading_picks ws a.count s.invariant.0 owned few (λ k here o. omega (arith, due-tag ws a.count k here a.guests.now a.known a.time c.args.latest pre.0 o)));
      picks_2 = rw c.found_in-2.ensures (leading_picks ws a.count s.invariant.1 owned few (λ k here o. omega (arith, stag_at ws a.count k here, pre.2 k here)));
    }
