-- A table that stands a row further back has its last place free: a request there would have no cost. Assumes nothing.
use Prim.Native.Nat.{ℕ, ◌+◌, ◌-◌, ◌*◌, ◌≤◌, ◌<◌}
use mathlib.Core.Path.{◌≡◌, ap, ◌∙◌}
use mathlib.Core.Bool.{true}
use mathlib.Core.List.{List}
use mathlib.Core.Logic.{⊎_elim}
use native.Mathlib.Omega.{arith}
use lib.Dec.{leb}
use lib.ListN.{length, get_or, get_or-eq_default}
use borrow.Author.Tests.{leb-true}
use Rattle.lists.specs.WordsLaws.{both, all-at}
use Rattle.lists.specs.Tab.{lt_or_le, get_or-tab}
use Rattle.lists.specs.Parts.{closed}
use Rattle.lists.specs.RowsLaws.{length-rows}
use Rattle.rules.specs.Tables.{Request}
use Rattle.rules.specs.Numbers.{most_cost}
use Rattle.rules.specs.Sound.{fair, priced}
use Rattle.rules.specs.Chosen.{blank, at}
use Rattle.rules.specs.declared.Gate.{Gate}
use Rattle.table.specs.Columns.{COST, waiting_wide, waiting_at}
use Rattle.table.specs.View.{request_form, waiting_of, Known}
use Rattle.table.proofs.Facts.{facts, row_is}

-- a fair cost is not 0
fair-low : (c : ℕ) → fair c ≡ true → 1 ≤ c
unfolding fair
fair-low c e = leb-true 1 c (both (leb 1 c) (leb c most_cost) e).0

pub slid_room : (g : Gate) (gs ws fs : List ℕ) → Known g gs (closed waiting_wide ws) fs → length ws ≡ g.setup.capacity * waiting_wide → g.waiting * waiting_wide + waiting_wide ≤ length ws
slid_room g gs ws fs k long = ⊎_elim (λ (l : g.waiting < g.setup.capacity). omega (arith, l, long)) (λ (l : g.setup.capacity ≤ g.waiting). absurd (full l)) (lt_or_le g.waiting g.setup.capacity)
  where
    full : g.setup.capacity ≤ g.waiting → ⊥
    full l =
        let f = facts g gs (closed waiting_wide ws) fs k in
        let j : ℕ = g.setup.capacity - 1 in
        let here : j < g.waiting = omega (arith, l, f.counts.capacities.0) in
        let none : waiting_at (closed waiting_wide ws) j COST ≡ 0 =
        get_or-tab (length ws) (λ i. get_or ws (i + waiting_wide) 0) (j * waiting_wide + COST) 0 (omega (arith, long, f.counts.capacities.0))
        ∙ get_or-eq_default ws 0 (omega (arith, long, f.counts.capacities.0)) in
        let fits = all-at priced (waiting_of (closed waiting_wide ws) g.waiting) blank f.firm.costs_fit j (omega (arith, here, length-rows request_form (closed waiting_wide ws) g.waiting)) in
        let least = fair-low (at (waiting_of (closed waiting_wide ws) g.waiting) j).cost fits in
        omega (arith, least, ap Request.cost (row_is g gs (closed waiting_wide ws) fs k j here), none)
