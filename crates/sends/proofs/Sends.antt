-- A send by reservation over the lent numbers is the one of the definitions; and what a phase comes to where it finds nothing. Assumes nothing.
use Rattle.std.specs.Prelude.{Some, None, Option}
use Prim.Native.Nat.{ℕ, ◌+◌, ◌-◌, ◌*◌, ◌<◌}
use mathlib.Core.Path.{◌≡◌, sym, ap, ◌∙◌}
use mathlib.Core.Bool.{Bool}
use mathlib.Core.List.{List, [], ◌∷◌, ◌++◌}
use native.Mathlib.Omega.{arith}
use lib.ListN.{length, get_or, length-append}
use Rattle.lists.specs.Tab.{remove_at, length-remove_at}
use Rattle.lists.specs.Rows.{over_rows}
use Rattle.lists.specs.RowsLaws.{length-rows, over-same, all_used}
use Rattle.rules.specs.Tables.{Request, Table, name}
use Rattle.rules.specs.Choice.{due, open?, sending, by_reservation, by_weight}
use Rattle.rules.specs.Chosen.{at, sent_by_reservation_at, sent_by_weight_at}
use Rattle.rules.specs.declared.Gate.{Gate}
use Rattle.rules.specs.declared.Answer.TheVariants.{Nothing, Sent}
use Rattle.rules.specs.declared.Phase.TheVariants.{Reservation}
use Rattle.table.specs.Columns.{waiting_wide, GUEST, ID, COST}
use Rattle.table.specs.View.{gate_at, decision_of, guest_form, request_form, flight_form, table_of, Known}
use Rattle.table.specs.ViewLaws.{guest_exact}
use Rattle.moves.specs.Moves.{gone, joined}
use Rattle.moves.specs.MovesLaws.{gone_is, joined_is}
use Rattle.walks.specs.Walks.{Picks}
use Rattle.table.specs.Does.{written, Leaves, weight_phase, reservation_phase, sent_gate}
use Rattle.table.proofs.Facts.{facts, row_is}

-- the request at a place, which goes
abbrev pub goes : Table → ℕ → Request
goes t place = at t.waiting place

-- and those that stay
abbrev pub stay : Table → ℕ → List Request
stay t place = remove_at place t.waiting

-- its guest, as a number
abbrev pub goes_guest : List ℕ → ℕ → ℕ
goes_guest ws place = get_or ws (place * waiting_wide + GUEST) 0

-- its id
abbrev pub goes_id : List ℕ → ℕ → ℕ
goes_id ws place = get_or ws (place * waiting_wide + ID) 0

-- and its cost
abbrev pub goes_cost : List ℕ → ℕ → ℕ
goes_cost ws place = get_or ws (place * waiting_wide + COST) 0

module _ (g : Gate) (gs ws fs : List ℕ) (k : Known g gs ws fs) where
  abbrev t : Table
  t = table_of g gs ws fs

  -- one is due
  pub reservation_at : (place : ℕ) → Picks (due t) Request.rtag t.waiting (Some place) → sent_by_reservation_at t place ≡ reservation_phase t
  unfolding by_reservation
  reservation_at place p = rw p.pick

  -- none is due
  pub reservation_none : Picks (due t) Request.rtag t.waiting None → weight_phase t ≡ reservation_phase t
  unfolding by_reservation
  reservation_none p = rw p.pick

  -- one is open
  pub weight-at : (place : ℕ) → Picks (open? t) Request.stag t.waiting (Some place) → sent_by_weight_at t place ≡ weight_phase t
  unfolding by_weight
  weight-at place p = rw p.pick

  -- none is open
  pub weight-none : Picks (open? t) Request.stag t.waiting None → weight_phase t ≡ record { table = t; answer = Nothing }
  unfolding by_weight
  weight-none p = rw p.pick

  -- a place that a walk found is one of those that wait
  pub found_at : {ok : Request → Bool} {tag : Request → ℕ} (f : Option ℕ) (place : ℕ) → Picks ok tag t.waiting f → f ≡ Some place → Picks ok tag t.waiting (Some place) × (place < g.waiting)
  found_at {ok} {tag} f place p e =
      let q : Picks ok tag t.waiting (Some place) = rw e at p in
      (q, omega (arith, q.inside, length-rows request_form ws g.waiting))

  module _ (free : g.flight < g.setup.depth) (place : ℕ) (here : place < g.waiting) where
    -- the numbers are the request's
    pub guest-goes : (goes t place).guest ≡ goes_guest ws place
    guest-goes = ap Request.guest (row_is g gs ws fs k place here)

    pub id_goes : (goes t place).id ≡ goes_id ws place
    id_goes = ap Request.id (row_is g gs ws fs k place here)

    pub cost_goes : (goes t place).cost ≡ goes_cost ws place
    cost_goes = ap Request.cost (row_is g gs ws fs k place here)

    pub length-stay : length (stay t place) ≡ g.waiting - 1
    length-stay =
        length-remove_at place t.waiting (omega (arith, length-rows request_form ws g.waiting)) ∙ ap (λ (m : ℕ). m - 1) (length-rows request_form ws g.waiting)

    -- the numbers once it has gone show the table that it is sent from
    pub sent_written : (sent_gate g, gs, gone place g.waiting ws, joined place g.flight ws fs) ≡ written gs ws fs (sending t (goes t place) (stay t place))
    unfolding sending
    sent_written =
        let f = facts g gs ws fs k in
        let eg = length-rows guest_form gs g.guests in
        let ef : length (t.flight ++ (name (goes t place) ∷ [])) ≡ g.flight + 1 = length-append t.flight (name (goes t place) ∷ []) ∙ ap (λ (m : ℕ). m + 1) (length-rows flight_form fs g.flight) in
        let pg = ap (λ (n : ℕ). over_rows guest_form n t.guests gs) eg ∙ over-same guest_form guest_exact g.guests g.guests gs (all_used guest_form guest_exact g.guests gs) in
        let pw = gone_is g.setup.capacity g.waiting ws k.waiting_room k.whole.waiting_unused f.waits place here in
        let pf = joined_is g.setup.depth g.flight fs k.flight_room k.whole.flight_unused free ws g.waiting place here in
        sym (λ i. (gate_at g.setup (eg i) g.time (length-stay i) (ef i), pg i, sym pw i, sym pf i))

    -- a send by reservation
    pub reservation_sent : Leaves (λ t. sent_by_reservation_at t place) g gs ws fs (decision_of (sent_gate g) (Sent Reservation (goes_guest ws place) (goes_id ws place))) gs (gone place g.waiting ws) (joined place g.flight ws fs)
    reservation_sent = record { shows = sent_written; answers = λ i. Sent Reservation (sym guest-goes i) (sym id_goes i) }
