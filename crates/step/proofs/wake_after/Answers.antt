-- `wake_after` meets its contract: what is looked at has the numbers of the table, wherever it stands. Assumes nothing.
use Prim.Native.Nat.{ℕ, ◌+◌, ◌*◌, ◌≤◌, ◌<◌}
use mathlib.Core.Path.{◌≡◌, sym, ap, ◌∙◌, subst}
use mathlib.Core.List.{List}
use native.Mathlib.Omega.{arith}
use lib.ListN.{length, get_or}
use Rattle.lists.specs.Parts.{closed}
use Rattle.rules.specs.declared.Gate.{Gate}
use Rattle.table.specs.Columns.{waiting_wide}
use Rattle.table.specs.View.{Known}
use Rattle.table.proofs.Facts.{rows_ask}
use Rattle.rules.specs.declared.Phase.{Phase}
use Rattle.rules.specs.declared.Answer.{Answer}
use Rattle.rules.specs.declared.Answer.TheVariants.{Sent}
use Rattle.index.specs.Index.{Beside, Even, stands, Snug}
use Rattle.index.proofs.Laws.{stands-none, stands_else, stands-moved, beside_alike}
use Rattle.sends.proofs.Slid.{even-rest, even-at, rest-room}
use Rattle.step.proofs.Slack.{slid_room}
use Rattle.step.proofs.wake_after.Goals as goal

-- the same list has the same numbers
even : {xs ys : List ℕ} → xs ≡ ys → Even xs ys
even e i = ap (λ (zs : List ℕ). get_or zs i 0) e

-- what is asked where the rows stand where they stood
asks : (g : Gate) (gs ws vs fs ix : List ℕ) → vs ≡ ws → Known g gs vs fs → Beside vs ix g.waiting
    → ((us : List ℕ) × (hs : List ℕ) × Known g gs us hs × Even us ws) × ((g.waiting * waiting_wide ≤ length ws) × Beside ws ix g.waiting)
asks g gs ws vs fs ix e k b = ((vs, fs, k, even e), (subst (λ (x : List ℕ). g.waiting * waiting_wide ≤ length x) e (rows_ask g gs vs fs k).1, subst (λ (x : List ℕ). Beside x ix g.waiting) e b))

-- behind a send the rows have their place, and one is free
room_of : (g : Gate) (gs ws fs ix : List ℕ) (a : Answer) {p : Phase} {n i : ℕ} → 0 < length ix → a ≡ Sent p n i → Known g gs (stands ix a ws) fs → Snug g ws ix → g.waiting * waiting_wide + waiting_wide ≤ length ws
room_of g gs ws fs ix a some e k snug = slid_room g gs ws fs (subst (λ (x : List ℕ). Known g gs x fs) (stands-moved ix ws a some e) k) (snug some)

pub wake_of-requires : goal.wake_of-requires
wake_of-requires c =
    let e = asks c.args.gate c.args.guests.now c.args.waiting.now _ c.requires.by_index.0 c.args.index.now (stands-none c.args.index.now c.args.waiting.now c.args.answer c.if-index-eq0.true) c.requires.by_index.1 c.requires.beside.0 in
    record { by_index = e.0; waiting_wide_in_bounds = e.1 }

pub returns-then-index-eq0 : goal.returns-then-index-eq0
returns-then-index-eq0 c =
    λ fs es known. c.wake_of.ensures _ fs es known (even (stands-none c.args.index.now c.args.waiting.now c.args.answer c.if-index-eq0.true))

pub slice_bounds-wake_of-start : goal.slice_bounds-wake_of-start
slice_bounds-wake_of-start c =
    let some : 0 < length c.args.index.now = omega arith in
    omega (arith, room_of c.args.gate c.args.guests.now c.args.waiting.now c.requires.by_index.0 c.args.index.now c.args.answer some c.in-Sent.is c.requires.by_index.1 c.requires.beside.1)

pub slice_bounds-wake_of-count : goal.slice_bounds-wake_of-count
slice_bounds-wake_of-count c =
    let some : 0 < length c.args.index.now = omega arith in
    omega (arith, room_of c.args.gate c.args.guests.now c.args.waiting.now c.requires.by_index.0 c.args.index.now c.args.answer some c.in-Sent.is c.requires.by_index.1 c.requires.beside.1)

pub wake_of-requires-in-Sent : goal.wake_of-requires-in-Sent
wake_of-requires-in-Sent c =
    let ws = c.args.waiting.now in
    let some : 0 < length c.args.index.now = omega arith in
    let e = stands-moved c.args.index.now ws c.args.answer some c.in-Sent.is in
    let k = subst (λ (x : List ℕ). Known c.args.gate c.args.guests.now x c.requires.by_index.0) e c.requires.by_index.1 in
    let room = slid_room c.args.gate c.args.guests.now ws c.requires.by_index.0 k (c.requires.beside.1 some) in record {
      by_index = (_, c.requires.by_index.0, k, even-rest ws c.args.gate.waiting room);
      waiting_wide_in_bounds = (rest-room ws c.args.gate.waiting room, beside_alike (closed waiting_wide ws) _ c.args.gate.waiting (λ i l. sym (even-at ws c.args.gate.waiting room i 0)) (subst (λ (x : List ℕ). Beside x c.args.index.now c.args.gate.waiting) e c.requires.beside.0));
    }

pub wake_of-requires-in_default : goal.wake_of-requires-in_default
wake_of-requires-in_default c =
    let e =
    asks c.args.gate c.args.guests.now c.args.waiting.now _ c.requires.by_index.0 c.args.index.now
    (stands_else c.args.index.now c.args.waiting.now c.args.answer c.in_default.not-Sent)
    c.requires.by_index.1 c.requires.beside.0
    in record { by_index = e.0; waiting_wide_in_bounds = e.1 }

pub returns-in-Sent : goal.returns-in-Sent
returns-in-Sent c =
    let ws = c.args.waiting.now in
    let some : 0 < length c.args.index.now = omega arith in
    let e = stands-moved c.args.index.now ws c.args.answer some c.in-Sent.is in
    λ fs es known.
    let k = subst (λ (x : List ℕ). Known c.args.gate c.args.guests.now x fs) e known in
    let room = slid_room c.args.gate c.args.guests.now ws fs k (c.requires.beside.1 some) in
    c.wake_of-in-Sent.ensures _ fs es known (λ i. even e i ∙ even-rest ws c.args.gate.waiting room i)

pub returns-in_default : goal.returns-in_default
returns-in_default c =
    λ fs es known. c.wake_of-in_default.ensures _ fs es known (even (stands_else c.args.index.now c.args.waiting.now c.args.answer c.in_default.not-Sent))
