-- What the walks and the moves of the choice ask, from a known table; and what the walks find, as the phases pick. Assumes nothing.
use Rattle.std.specs.Prelude.{Option}
use Prim.Native.Nat.{ℕ, ◌+◌, ◌-◌, ◌*◌, ◌≤◌, ◌<◌}
use mathlib.Core.Path.{◌≡◌, refl, sym, ap, ◌∙◌}
use mathlib.Core.Bool.{Bool, true, false, ◌&&◌}
use mathlib.Core.List.{List, ◌∷◌}
use native.Mathlib.Omega.{arith}
use lib.Dec.{leb, eqb}
use lib.ListN.{length}
use borrow.Author.Tests.{le-leb, le-ltb, eq-eqb, eqb-true}
use Rattle.lists.specs.Words.{if◌then◌else◌, all}
use Rattle.lists.specs.WordsLaws.{both, all-at, all_mid, all-passing-at}
use Rattle.lists.specs.Lines.{line_at}
use Rattle.lists.specs.RowsLaws.{row-at, length-rows}
use Rattle.rules.specs.Numbers.{ceiling, most_cost}
use Rattle.rules.specs.Tables.{Request, Table, reserved, limited, rspacing, lspacing, owner, settings_of, of, mine}
use Rattle.rules.specs.declared.Guest.{Guest}
use Rattle.rules.specs.Sound.{lawful, priced, kept, no_gap}
use Rattle.rules.specs.Choice.{due_at, open_at, passes_at, due, open?}
use Rattle.rules.specs.Chosen.{blank, at}
use Rattle.rules.proofs.Facts.{orderly_is, lawful_is, any_orderly}
use Rattle.rules.proofs.Spacings.{fair_is}
use Rattle.rules.proofs.Picks.{Goes}
use Rattle.rules.proofs.ChoiceSound.{sent_first}
use Rattle.rules.specs.declared.Gate.{Gate}
use Rattle.table.specs.Columns.{guest_wide, waiting_wide, flight_wide, most_guests, most_capacity, most_depth, RESERVATION, guest_at}
use Rattle.table.specs.View.{guest_form, request_form, guests_of, table_of, Known}
use Rattle.walks.specs.LeastLaws.{least_ext, open_by_tag}
use Rattle.moves.specs.Moves.{Lawful, Unreserved, gone}
use Rattle.walks.specs.Walks.{Picks, Owned, Rising, SharesFit}
use Rattle.table.proofs.Facts.{Facts, facts, rows_ask, row_is, guest_is}
use Rattle.sends.specs.Firsts.{FirstOf}
use Rattle.sends.proofs.Rising.{rising-rows}
use Rattle.sends.proofs.Firsts.{first_goes}
use Rattle.sends.proofs.Sends.{goes, stay, goes_guest, goes_cost, guest-goes, cost_goes, length-stay}
use Rattle.sends.proofs.WeightSend.{left-rows, left-room}

module _ (g : Gate) (gs ws fs : List ℕ) (k : Known g gs ws fs) where
  abbrev t : Table
  t = table_of g gs ws fs

  f : Facts g gs ws fs
  f = facts g gs ws fs k

  -- what the walk asks
  pub line_asks : ((g.waiting ≤ most_capacity) × (g.waiting * waiting_wide ≤ length ws) × (g.guests ≤ most_guests) × (g.guests * guest_wide ≤ length gs))
      × ((Owned ws g.waiting g.guests × Rising ws g.waiting × SharesFit ws g.waiting) × (g.time ≤ ceiling))
  line_asks = (
    ((rows_ask g gs ws fs k).0, (rows_ask g gs ws fs k).1, f.counts.guest-count.1, k.guest_room),
    ((f.owners, rising-rows g gs ws fs k, λ j h. omega (arith, (f.lawfuls j h).share, ap Request.stag (row_is g gs ws fs k j h))), f.timed),
  )

  -- and of the latest limit tag that the reservation phase lets pass
  pub latest_asks : (latest : ℕ) → latest ≡ (if eqb g.setup.rule 2 then g.time else ceiling) → latest ≤ ceiling
  latest_asks latest e = go (eqb g.setup.rule 2) e
    where
      go : (b : Bool) → latest ≡ (if b then g.time else ceiling) → latest ≤ ceiling
      go true q = omega (arith, q, f.timed)
      go false q = omega (arith, q)

  -- an unlimited guest's limit tags are 0
  pub limit_zero : (j : ℕ) → j < length t.waiting → limited (settings_of t.guests (at t.waiting j)) ≡ false → (at t.waiting j).ltag ≡ 0
  unfolding kept
  limit_zero j h e =
      let q = at t.waiting j in
      let n = q.guest in
      let s = (owner t.guests n).settings in
      let o = orderly_is (owner t.guests n) (mine n t.waiting) (any_orderly t f.firm n) in
      let z : kept false Request.ltag (lspacing s) (lspacing s) (mine n t.waiting) (owner t.guests n).lnext ≡ true = rw e at o.limits in
      let c = both (eqb (owner t.guests n).lnext 0) (all (λ p. eqb p.ltag 0) (mine n t.waiting)) z in
      eqb-true q.ltag 0 (all-passing-at (λ p. eqb p.ltag 0) (of n) t.waiting blank c.1 j h (eq-eqb n n refl))

  -- the latest limit tag that passes under the gate's rule
  abbrev pub latest : ℕ
  latest = if eqb g.setup.rule 2 then g.time else ceiling

  -- the walk's test of the limit is the reservation phase's
  pub passes_by_tag : (j : ℕ) → j < length t.waiting → passes_at g.setup.rule (settings_of t.guests (at t.waiting j)) g.time (at t.waiting j) ≡ leb (at t.waiting j).ltag latest
  unfolding passes_at
  passes_by_tag j h = go (eqb g.setup.rule 2)
    where
      q : Request
      q = at t.waiting j

      go : (b : Bool) → (if b then open_at (settings_of t.guests q) g.time q else true) ≡ leb q.ltag (if b then g.time else ceiling)
      go true = open_by_tag (settings_of t.guests q) g.time q (limit_zero j h)
      go false = sym (le-leb q.ltag ceiling (f.lawfuls j (omega (arith, length-rows request_form ws g.waiting))).limit)

  -- the walk's test is the reservation phase's
  pub due_picks : (m : ℕ) → m ≡ latest → (x : Option ℕ) → Picks (λ q. due_at (settings_of (guests_of gs g.guests) q) g.time q && leb q.ltag m) Request.rtag t.waiting x
      → Picks (due t) Request.rtag t.waiting x
  due_picks m e x p =
      record {
        pick = least_ext (due t) (λ q. due_at (settings_of t.guests q) t.time q && leb q.ltag m) Request.rtag t.waiting
            (λ j h.
            let q = at t.waiting j in
            ap (λ (b : Bool). due_at (settings_of t.guests q) t.time q && b) (passes_by_tag j h ∙ ap (leb q.ltag) (sym e))) ∙ p.pick;
        inside = p.inside;
      }

  -- the walk's test is the weight phase's
  pub open_picks : (x : Option ℕ) → Picks (λ q. leb q.ltag g.time) Request.stag t.waiting x → Picks (open? t) Request.stag t.waiting x
  open_picks x p =
      record {
        pick = least_ext (open? t) (λ q. leb q.ltag t.time) Request.stag t.waiting (λ j h. open_by_tag (settings_of t.guests (at t.waiting j)) t.time (at t.waiting j) (limit_zero j h)) ∙ p.pick;
        inside = p.inside;
      }

  module _ (free : g.flight < g.setup.depth) (place : ℕ) (here : place < g.waiting) where
    -- what a send asks
    pub send_asks : (place < g.waiting) × (g.waiting * waiting_wide ≤ length ws) × (g.flight * flight_wide + flight_wide ≤ length fs)
    send_asks = (here, (rows_ask g gs ws fs k).1, omega (arith, k.flight_room))

    pub sent_asks : (0 < g.waiting) × (g.flight < g.setup.depth) × (g.setup.depth ≤ most_depth)
    sent_asks = (omega arith, free, f.counts.depths.1)

    abbrev n : ℕ
    n = goes_guest ws place

    abbrev c : ℕ
    c = goes_cost ws place

    abbrev ws1 : List ℕ
    ws1 = gone place g.waiting ws

    -- its cost is in range
    cost_most : c ≤ most_cost
    cost_most =
        let q = goes t place in
        let fits = fair_is q.cost (all-at priced t.waiting blank f.firm.costs_fit place (omega (arith, length-rows request_form ws g.waiting))) in
        omega (arith, fits.1, cost_goes g gs ws fs k free place here)

    -- the rows that stay, as their numbers
    row_stays : (j : ℕ) → j < g.waiting - 1 → (j < length (stay t place)) × (at (stay t place) j ≡ request_form.read (line_at waiting_wide ws1 j))
    row_stays j l = (
      omega (arith, length-stay g gs ws fs k free place here),
      ap (λ (x : List Request). at x j) (sym (left-rows g gs ws fs k free place here)) ∙ row-at request_form ws1 (g.waiting - 1) j l,
    )

    module _ (h : FirstOf t.waiting place) where
      abbrev q : Request
      q = goes t place

      abbrev v : List Request
      v = stay t place

      -- it may go
      first : Goes t q v
      first = first_goes t place (omega (arith, length-rows request_form ws g.waiting)) h

      -- tags and costs such as a sound table has
      lawful-rows : Lawful (g.waiting - 1) ws1
      lawful-rows j l =
          let m = first.split in
          let r = row_stays j l in
          let tags : all lawful v ≡ true = rw m.stay (all_mid lawful m.before q m.after (rw m.stood at f.firm.tags_fit)).1 in
          let costs : all priced v ≡ true = rw m.stay (all_mid priced m.before q m.after (rw m.stood at f.firm.costs_fit)).1 in (
            omega (arith, (lawful_is (at v j) (all-at lawful v blank tags j r.0)).reservation, ap Request.rtag r.1),
            omega (arith, (fair_is (at v j).cost (all-at priced v blank costs j r.0)).1, ap Request.cost r.1),
          )

      -- zeros where its guest has no reservation
      zero_rows : Unreserved n (g.waiting - 1) gs ws1
      unfolding kept
      zero_rows e =
          let eq : q.guest ≡ n = guest-goes g gs ws fs k free place here in
          let own = owner t.guests q.guest in
          let at_n : own ≡ guest_form.read (line_at guest_wide gs n) = ap (owner t.guests) eq ∙ guest_is g gs ws fs k n (f.owners place here) in
          let lacks : reserved own.settings ≡ false = ap (λ (x : Guest). reserved x.settings) at_n ∙ le-ltb 0 (guest_at gs n RESERVATION) (omega (arith, e)) in
          let o = orderly_is own (mine q.guest t.waiting) (any_orderly t f.firm q.guest) in
          let z : kept false Request.rtag no_gap (rspacing own.settings) (q ∷ mine q.guest v) own.rnext ≡ true = rw (sent_first t f.firm q v first, lacks) at o.reservations in
          let c = both (eqb own.rnext 0) (eqb q.rtag 0 && all (λ p. eqb p.rtag 0) (mine q.guest v)) z in
          let d = both (eqb q.rtag 0) (all (λ p. eqb p.rtag 0) (mine q.guest v)) c.1 in (
            sym (ap Guest.rnext at_n) ∙ eqb-true own.rnext 0 c.0,
            λ j l i.
                let r = row_stays j l in
                let its : (at v j).guest ≡ q.guest = ap Request.guest r.1 ∙ i ∙ sym eq in
                sym (ap Request.rtag r.1)
                ∙ eqb-true (at v j).rtag 0 (all-passing-at (λ p. eqb p.rtag 0) (of q.guest) v blank d.1 j r.0 (eq-eqb (at v j).guest q.guest its)),
          )

      -- what the drop asks
      pub drop_asks : ((n * guest_wide + guest_wide ≤ length gs) × ((g.waiting - 1) * waiting_wide ≤ length ws1)) × ((c ≤ most_cost) × Lawful (g.waiting - 1) ws1 × Unreserved n (g.waiting - 1) gs ws1)
      drop_asks = (
        (omega (arith, f.owners place here, k.guest_room), omega (arith, left-room g gs ws fs k free place here, f.waits)),
        (cost_most, lawful-rows, zero_rows),
      )
