-- What the building of an index asks, of tables that are known. Assumes nothing.
use Prim.Native.Nat.{ℕ, ◌*◌, ◌≤◌, ◌<◌}
use mathlib.Core.List.{List}
use native.Mathlib.Omega.{arith}
use lib.ListN.{length}
use Rattle.rules.specs.declared.Gate.{Gate}
use Rattle.table.specs.Columns.{waiting_wide, most_guests, most_capacity}
use Rattle.table.specs.View.{Known}
use Rattle.table.proofs.Facts.{facts, rows_ask}
use Rattle.index.specs.Index.{owner_of}

-- few rows enough, room for them, and each is the row of a guest that there may be
pub build_asks : (g : Gate) (gs ws fs : List ℕ) → Known g gs ws fs
    → (g.waiting ≤ most_capacity) × (g.waiting * waiting_wide ≤ length ws) × ((k : ℕ) → k < g.waiting → owner_of ws k < most_guests)
build_asks g gs ws fs known =
    let r = rows_ask g gs ws fs known in
    let f = facts g gs ws fs known in
    (r.0, r.1, λ k h. omega (arith, f.owners k h, f.counts.guest-count.1))
