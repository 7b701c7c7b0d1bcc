-- What the functions of the choice know at their calls and at their ends, from what their callees ensure. Assumes nothing.
use Rattle.std.specs.Prelude.{Some, None, Option}
use Prim.Native.Nat.{ℕ, ◌+◌, ◌-◌, ◌*◌, ◌≤◌, ◌<◌}
use mathlib.Core.Path.{◌≡◌, sym, ap, ◌∙◌, subst}
use mathlib.Core.Bool.{◌&&◌}
use mathlib.Core.List.{List}
use native.Mathlib.Omega.{arith}
use lib.Dec.{leb}
use lib.ListN.{length}
use borrow.Author.Tests.{lt-ltb, le-ltb}
use Rattle.lists.specs.RowsLaws.{length-rows}
use Rattle.rules.specs.Numbers.{most_cost}
use Rattle.rules.specs.Tables.{Request, Table, settings_of}
use Rattle.rules.specs.Choice.{Result, room, choice, due_at, due, open?}
use Rattle.rules.specs.Chosen.{sent_by_reservation_at, sent_by_weight_at}
use Rattle.rules.specs.declared.Gate.{Gate}
use Rattle.table.specs.declared.gates.Decision.{Decision}
use Rattle.rules.specs.declared.Answer.TheVariants.{Nothing, Sent}
use Rattle.rules.specs.declared.Phase.TheVariants.{Reservation, Weight}
use Rattle.table.specs.Columns.{guest_wide, waiting_wide}
use Rattle.table.specs.View.{decision_of, flight_form, guests_of, table_of, Known}
use Rattle.moves.specs.Moves.{gone, joined, Named, fall_of, next_dropped, tags_dropped, Lawful, Unreserved}
use Rattle.walks.specs.Walks.{Picks}
use Rattle.moves.specs.declared.rows.Sent.{Sent as Gone}
use Rattle.table.specs.Does.{written, Leaves, weight_phase, reservation_phase, sent_gate, sending}
use Rattle.table.proofs.Facts.{facts}
use Rattle.table.proofs.Left.{stays}
use Rattle.sends.specs.Firsts.{FirstOf}
use Rattle.sends.proofs.Firsts.{due-first, open_first}
use Rattle.sends.proofs.Sends.{found_at, reservation_sent, reservation_at, reservation_none, weight-at, weight-none}
use Rattle.sends.proofs.WeightSend.{weight_sent}
use Rattle.sends.proofs.Phases.{latest, due_picks, open_picks, drop_asks}

module _ (g : Gate) (gs ws fs : List ℕ) (k : Known g gs ws fs) where
  abbrev t : Table
  t = table_of g gs ws fs

  -- what a phase leaves, told by equals
  again : (f : Table → Result) {x y : Decision × List ℕ × List ℕ × List ℕ} → x ≡ y → Leaves f g gs ws fs y.0 y.1 y.2 y.3 → Leaves f g gs ws fs x.0 x.1 x.2 x.3
  again f e l = subst (λ (z : Decision × List ℕ × List ℕ × List ℕ). Leaves f g gs ws fs z.0 z.1 z.2 z.3) (sym e) l

  -- and of another that does the same
  alike : {f h : Table → Result} {d : Decision} {hs vs es : List ℕ} → f t ≡ h t → Leaves f g gs ws fs d hs vs es → Leaves h g gs ws fs d hs vs es
  alike e l = record { shows = l.shows ∙ ap (λ (y : Result). written gs ws fs y.table) e; answers = l.answers ∙ ap Result.answer e }

  -- an id that waits has 32 bits
  pub narrow_id : (place : ℕ) → place < g.waiting → (r : Gone) → Named place ws r → r.id < 4294967296
  narrow_id place here r n = omega (arith, n.1, (facts g gs ws fs k).ids place here)

  module _ (free : g.flight < g.setup.depth) where
    -- A SEND

    module _ (place : ℕ) (here : place < g.waiting) where
      pub reservation_returns : (n : Gone) (vs es : List ℕ) (d : Decision)
          → vs ≡ gone place g.waiting ws → es ≡ joined place g.flight ws fs → Named place ws n → d ≡ sending Reservation n.guest n.id g
          → Leaves (λ t. sent_by_reservation_at t place) g gs ws fs d gs vs es
      reservation_returns n vs es d ew ef en ed =
          again (λ t. sent_by_reservation_at t place) (λ i. ((ed ∙ (λ j. decision_of (sent_gate g) (Sent Reservation (en.0 j) (en.1 j)))) i, gs, ew i, ef i))
          (reservation_sent g gs ws fs k free place here)

      abbrev Asks : (n c : ℕ) → List ℕ → Type 0
      Asks n c vs =
          ((n * guest_wide + guest_wide ≤ length gs) × ((g.waiting - 1) * waiting_wide ≤ length vs)) × ((c ≤ most_cost) × Lawful (g.waiting - 1) vs × Unreserved n (g.waiting - 1) gs vs)

      -- what the drop asks of the tables after the send
      pub drop-asked : FirstOf t.waiting place → (n : Gone) (vs : List ℕ) → vs ≡ gone place g.waiting ws → Named place ws n → Asks n.guest n.cost vs
      drop-asked h n vs ew en =
          subst (λ (y : ℕ × ℕ × List ℕ). Asks y.0 y.1 y.2) (λ i. (sym en.0 i, sym en.2 i, sym ew i)) (drop_asks g gs ws fs k free place here h)

      pub weight_returns : (n : Gone) (hs vs us es : List ℕ) (d : Decision)
          → vs ≡ gone place g.waiting ws → es ≡ joined place g.flight ws fs → Named place ws n
          → hs ≡ next_dropped n.guest n.cost (g.waiting - 1) vs gs → us ≡ tags_dropped n.guest (fall_of n.guest n.cost gs) vs (g.waiting - 1)
          → d ≡ sending Weight n.guest n.id g → Leaves (λ t. sent_by_weight_at t place) g gs ws fs d hs us es
      weight_returns n hs vs us es d ew ef en eh eu ed =
          again (λ t. sent_by_weight_at t place)
          (λ i. (
            (ed ∙ (λ j. decision_of (sent_gate g) (Sent Weight (en.0 j) (en.1 j)))) i,
            (eh ∙ (λ j. next_dropped (en.0 j) (en.2 j) (g.waiting - 1) (ew j) gs)) i,
            (eu ∙ (λ j. tags_dropped (en.0 j) (fall_of (en.0 j) (en.2 j) gs) (ew j) (g.waiting - 1))) i,
            ef i,
          ))
          (weight_sent g gs ws fs k free place here)

    -- THE RESERVATION PHASE, where m is the latest limit tag that passes

    module _ (m : ℕ) (is : m ≡ latest g gs ws fs k) where
      abbrev Due : Option ℕ → Type 0
      Due x = Picks (λ q. due_at (settings_of (guests_of gs g.guests) q) g.time q && leb q.ltag m) Request.rtag t.waiting x

      -- the place that is due is one of those that wait, and the first of its guest
      pub due-here : (x : Option ℕ) (place : ℕ) → Due x → x ≡ Some place → (place < g.waiting) × FirstOf t.waiting place
      due-here x place p e =
          let f = found_at g gs ws fs k x place (due_picks g gs ws fs k m is x p) e in
          (f.1, due-first t place (facts g gs ws fs k).firm f.0)

      -- and its send is what the phase comes to
      pub one-due : (x : Option ℕ) (place : ℕ) → Due x → x ≡ Some place → {d : Decision} {hs vs es : List ℕ}
          → Leaves (λ t. sent_by_reservation_at t place) g gs ws fs d hs vs es → Leaves reservation_phase g gs ws fs d hs vs es
      one-due x place p e = alike (reservation_at g gs ws fs k place (found_at g gs ws fs k x place (due_picks g gs ws fs k m is x p) e).0)

      pub none-due : (x : Option ℕ) → Due x → x ≡ None → {d : Decision} {hs vs es : List ℕ} → Leaves weight_phase g gs ws fs d hs vs es → Leaves reservation_phase g gs ws fs d hs vs es
      none-due x p e = alike (reservation_none g gs ws fs k (subst (λ (y : Option ℕ). Picks (due t) Request.rtag t.waiting y) e (due_picks g gs ws fs k m is x p)))

    -- THE WEIGHT PHASE

    abbrev Open : Option ℕ → Type 0
    Open x = Picks (λ q. leb q.ltag g.time) Request.stag t.waiting x

    -- the place that is open is one of those that wait, and the first of its guest
    pub open_here : (x : Option ℕ) (place : ℕ) → Open x → x ≡ Some place → (place < g.waiting) × FirstOf t.waiting place
    open_here x place p e =
        let f = found_at g gs ws fs k x place (open_picks g gs ws fs k x p) e in
        (f.1, open_first t place (facts g gs ws fs k).firm f.0)

    -- and its send is what the phase comes to
    pub one_open : (x : Option ℕ) (place : ℕ) → Open x → x ≡ Some place → {d : Decision} {hs vs es : List ℕ}
        → Leaves (λ t. sent_by_weight_at t place) g gs ws fs d hs vs es → Leaves weight_phase g gs ws fs d hs vs es
    one_open x place p e = alike (weight-at g gs ws fs k place (found_at g gs ws fs k x place (open_picks g gs ws fs k x p) e).0)

    pub none_open : (x : Option ℕ) → Open x → x ≡ None → (d : Decision) → d ≡ decision_of g Nothing → Leaves weight_phase g gs ws fs d gs ws fs
    none_open x p e d ed =
        again weight_phase (λ i. (ed i, gs, ws, fs)) (stays g gs ws fs k {f = weight_phase} (weight-none g gs ws fs k (subst (λ (y : Option ℕ). Picks (open? t) Request.stag t.waiting y) e (open_picks g gs ws fs k x p))))

    -- THE CHOICE

    -- a place is free: the reservation phase is the choice
    is_choice : reservation_phase t ≡ choice t
    unfolding choice room
    is_choice = rw (length-rows flight_form fs g.flight, lt-ltb g.flight g.setup.depth free)

    pub place-free : {d : Decision} {hs vs es : List ℕ} → Leaves reservation_phase g gs ws fs d hs vs es → Leaves choice g gs ws fs d hs vs es
    place-free = alike is_choice

  -- no place is free: nothing goes
  pub none_free : g.setup.depth ≤ g.flight → (d : Decision) → d ≡ decision_of g Nothing → Leaves choice g gs ws fs d gs ws fs
  unfolding choice room
  none_free full d ed =
      again choice (λ i. (ed i, gs, ws, fs)) (stays g gs ws fs k {f = choice} (rw (length-rows flight_form fs g.flight, le-ltb g.flight g.setup.depth full)))
