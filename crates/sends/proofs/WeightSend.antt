-- A send by weight over the lent numbers, with the drop behind it, is the one of the definitions. Assumes nothing.
use Prim.Native.Nat.{ℕ, ◌+◌, ◌-◌, ◌*◌, ◌≤◌, ◌<◌}
use mathlib.Core.Path.{◌≡◌, refl, sym, ap, ◌∙◌, subst}
use mathlib.Core.List.{List}
use native.Mathlib.Omega.{arith}
use lib.ListN.{length, length-map, length-set}
use Rattle.lists.specs.Words.{if◌then◌else◌}
use Rattle.lists.specs.Rows.{over_rows, Unused}
use Rattle.lists.specs.RowsLaws.{length-rows, length-over-rows, rows-over, over_twice, over_unused}
use Rattle.rules.specs.Tables.{Request, Table, of, owner}
use Rattle.rules.specs.Choice.{sending, earlier, renewed, drop_of, next_of, dropped}
use Rattle.rules.specs.Chosen.{sent_by_weight_at}
use Rattle.rules.specs.declared.Gate.{Gate}
use Rattle.rules.specs.declared.Answer.TheVariants.{Sent}
use Rattle.rules.specs.declared.Phase.TheVariants.{Weight}
use Rattle.table.specs.Columns.{waiting_wide}
use Rattle.table.specs.View.{gate_at, decision_of, guest_form, request_form, waiting_of, table_of, Known}
use Rattle.table.specs.ViewLaws.{request_exact}
use Rattle.moves.specs.Moves.{gone, joined, fall_of, next_dropped, tags_dropped}
use Rattle.moves.specs.MovesLaws.{gone_is}
use Rattle.moves.specs.DropLaws.{dropped_is}
use Rattle.table.specs.Does.{written, Leaves, sent_gate}
use Rattle.table.proofs.Facts.{facts}
use Rattle.sends.proofs.Sends.{goes, stay, goes_guest, goes_id, goes_cost, guest-goes, id_goes, cost_goes, length-stay, sent_written}

module _ (g : Gate) (gs ws fs : List ℕ) (k : Known g gs ws fs) (free : g.flight < g.setup.depth) (place : ℕ) (here : place < g.waiting) where
  abbrev t : Table
  t = table_of g gs ws fs

  abbrev q : Request
  q = goes t place

  abbrev v : List Request
  v = stay t place

  abbrev n : ℕ
  n = goes_guest ws place

  abbrev c : ℕ
  c = goes_cost ws place

  -- the waiting table once the request has gone
  abbrev left : List ℕ
  left = gone place g.waiting ws

  -- those that stay have room
  fit : length v ≤ g.setup.capacity
  fit = omega (arith, length-stay g gs ws fs k free place here, (facts g gs ws fs k).waits)

  -- it shows those that stay,
  pub left_is : left ≡ over_rows request_form g.setup.capacity v ws
  left_is = gone_is g.setup.capacity g.waiting ws k.waiting_room k.whole.waiting_unused (facts g gs ws fs k).waits place here

  -- and they can be read off it
  pub left-rows : waiting_of left (g.waiting - 1) ≡ v
  left-rows =
      ap (λ (m : ℕ). waiting_of left m) (sym (length-stay g gs ws fs k free place here))
      ∙ ap (λ (xs : List ℕ). waiting_of xs (length v)) left_is
      ∙ rows-over request_form request_exact g.setup.capacity v ws k.waiting_room fit

  left_unused : Unused request_form g.setup.capacity (g.waiting - 1) left
  left_unused =
      subst (λ (m : ℕ). Unused request_form g.setup.capacity m left) (length-stay g gs ws fs k free place here)
      (subst (λ (xs : List ℕ). Unused request_form g.setup.capacity (length v) xs) (sym left_is) (over_unused request_form request_exact g.setup.capacity v ws k.waiting_room fit))

  pub left-room : g.setup.capacity * waiting_wide ≤ length left
  left-room = omega (arith, k.waiting_room, ap length left_is, length-over-rows request_form request_exact g.setup.capacity v ws)

  -- the numbers once its guest's tags have dropped show the table that it is sent from, dropped
  weight-written : (sent_gate g, next_dropped n c (g.waiting - 1) left gs, tags_dropped n (fall_of n c gs) left (g.waiting - 1), joined place g.flight ws fs) ≡ written gs ws fs (dropped q (sending t q v))
  unfolding dropped sending
  weight-written =
      let f = facts g gs ws fs k in
      let s : Table = sending t q v in
      let eq = guest-goes g gs ws fs k free place here in
      let ec = cost_goes g gs ws fs k free place here in
      let known : q.guest < g.guests = omega (arith, f.owners place here) in
      let d = dropped_is g.guests g.setup.capacity (g.waiting - 1) gs left s q refl (sym left-rows) k.guest_room known left-room (omega (arith, f.waits)) left_unused in
      let w = sent_written g gs ws fs k free place here in
      let eg : length (dropped q s).guests ≡ g.guests = length-set t.guests q.guest (renewed (next_of s q) (owner t.guests q.guest)) ∙ length-rows guest_form gs g.guests in
      let ew : length (dropped q s).waiting ≡ g.waiting - 1 = length-map v (λ p. if of q.guest p then earlier (drop_of s q) p else p) ∙ length-stay g gs ws fs k free place here in
      let ef : g.flight + 1 ≡ length s.flight = λ i. (w i).0.flight in
      let pg : next_dropped n c (g.waiting - 1) left gs ≡ over_rows guest_form (length (dropped q s).guests) (dropped q s).guests gs =
      (λ i. next_dropped (sym eq i) (sym ec i) (g.waiting - 1) left gs) ∙ d.0 ∙ ap (λ (m : ℕ). over_rows guest_form m (dropped q s).guests gs) (sym eg) in
      let pw : tags_dropped n (fall_of n c gs) left (g.waiting - 1) ≡ over_rows request_form g.setup.capacity (dropped q s).waiting ws =
      (λ i. tags_dropped (sym eq i) (fall_of (sym eq i) (sym ec i) gs) left (g.waiting - 1)) ∙ d.1
      ∙ ap (over_rows request_form g.setup.capacity (dropped q s).waiting) left_is
      ∙ over_twice request_form request_exact g.setup.capacity (dropped q s).waiting v ws k.waiting_room in
      λ i. (gate_at g.setup (sym eg i) g.time (sym ew i) (ef i), pg i, pw i, (w i).3)

  -- a send by weight
  pub weight_sent : Leaves (λ t. sent_by_weight_at t place) g gs ws fs (decision_of (sent_gate g) (Sent Weight n (goes_id ws place))) (next_dropped n c (g.waiting - 1) left gs) (tags_dropped n (fall_of n c gs) left (g.waiting - 1)) (joined place g.flight ws fs)
  weight_sent =
      record {
        shows = weight-written;
        answers = λ i. Sent Weight (sym (guest-goes g gs ws fs k free place here) i) (sym (id_goes g gs ws fs k free place here) i);
      }
