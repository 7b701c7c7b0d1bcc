-- Both phases look at a guest's first row: what is held afterwards leads the rows of one guest more. Assumes nothing.
use Rattle.std.specs.Prelude.{ℕ, ◌+◌, ◌≤◌, ◌<◌, List, ◌&&◌, ltb, leb}
use Rattle.std.proofs.Common.{sym, ◌∙◌, arith, leb-true, le-leb}
use Rattle.lists.specs.WordsLaws.{both, join}
use Rattle.rules.specs.Numbers.{ceiling}
use Rattle.rules.specs.Tables.{Request}
use Rattle.table.specs.Columns.{RESERVATION, RTAG, LTAG, STAG, most_capacity, guest_at, waiting_at}
use Rattle.walks.specs.Walks.{Owned, Rising, Counts}
use Rattle.walks.specs.WalksRows.{due_in, open_in, rtag_at_lem, stag_at, due_parts, due_is, open_at, due-behind, open_behind}
use Rattle.index.specs.Index.{Head}
use Rattle.heads.specs.Heads.{nearer}
use Rattle.heads.specs.declared.Held.{Held}
use Rattle.heads.specs.Leading.{Leading, leading_look}

module _ (gs ws : List ℕ) (known count time latest : ℕ) {g : ℕ} {h : Held} {j : ℕ} (few : count ≤ most_capacity) (early : time ≤ ceiling) (here : j < count) (first : Head ws g 0 j) (rising : Rising ws count) (t : ℕ) where
  -- the reservation phase looks at a guest's first row
  pub due_look : Owned ws count known → Leading (due_in gs known time latest) Request.rtag ws count time g h
      → Counts (ltb 0 (guest_at gs g RESERVATION) && leb (waiting_at ws j LTAG) latest) (waiting_at ws j RTAG) t → Leading (due_in gs known time latest) Request.rtag ws count time (g + 1) (nearer h j t)
  due_look owned w c =
      leading_look ws count w few early here first t (ltb 0 (guest_at gs g RESERVATION) && leb (waiting_at ws j LTAG) latest) (rw (rtag_at_lem ws count j here) c)
      (λ o. let p = due_parts ws count j here gs known time latest owned o in
      join (rw first.own at p.0) (le-leb (waiting_at ws j LTAG) latest p.2))
      (λ p l. let q = both (ltb 0 (guest_at gs g RESERVATION)) (leb (waiting_at ws j LTAG) latest) p in
      due_is ws count j here gs known time latest owned (rw first.own q.0) (omega (arith, l, rtag_at_lem ws count j here)) (leb-true (waiting_at ws j LTAG) latest q.1))
      (λ k l there own. due-behind ws count gs known time latest owned rising j k l there own)

  -- the weight phase does
  pub open_look : Leading (open_in time) Request.stag ws count ceiling g h → Counts (leb (waiting_at ws j LTAG) time) (waiting_at ws j STAG) t
      → Leading (open_in time) Request.stag ws count ceiling (g + 1) (nearer h j t)
  open_look w c =
      leading_look ws count w few (omega arith) here first t (leb (waiting_at ws j LTAG) time) (rw (stag_at ws count j here) c)
      (λ o. sym (open_at ws count j here time) ∙ o)
      (λ p l. open_at ws count j here time ∙ p)
      (λ k l there own. open_behind ws count time rising j k l there own)
