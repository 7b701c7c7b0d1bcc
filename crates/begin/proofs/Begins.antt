-- What a header that opens says of the sizes. Assumes nothing.
use Prim.Native.Nat.{ℕ, ◌≤◌}
use mathlib.Core.Path.{◌≡◌}
use mathlib.Core.List.{List}
use lib.ListN.{length}
use Rattle.rules.proofs.Conditions.{counted_means}
use Rattle.table.specs.Columns.{most_capacity, most_depth, most_guests}
use Rattle.trace.specs.Header.{body, header_of}
use Rattle.trace.proofs.HeaderLaws.{opened}
use Rattle.std.specs.Prelude.{Ok}
use Rattle.trace.specs.declared.Opened.{Opened}

-- how large the counts of a header that opens can be
pub record Sizes (bs : List ℕ) (o : Opened) : Type 0 where
  pub depth : o.depth ≤ most_depth
  pub guests : o.guests ≤ most_guests
  pub capacity : o.capacity ≤ most_capacity
  pub whole : body o.version o.guests ≤ length bs

-- its tests say so
pub sizes : (bs : List ℕ) (h : Opened) → header_of bs ≡ Ok h → Sizes bs h
sizes bs h e =
    let o = opened bs h e in
    let k = (counted_means h.depth h.guests h.capacity).holds.0 o.counts in
    record { depth = k.depths.1; guests = k.guest-count.1; capacity = k.capacities.1; whole = o.whole }
