-- `untouched`, first half: what stands beyond the places that the settings need comes back as it was, whatever is handed in. Assumes nothing.
use Prim.Native.Nat.{ℕ, ◌≤◌}
use mathlib.Core.Path.{◌≡◌, refl, sym, ap, ◌∙◌, subst}
use mathlib.Core.List.{List}
use lib.ListN.{length, drop, length-map}
use Rattle.lists.specs.RowsLaws.{length-rows, length-over-rows}
use Rattle.rules.specs.Tables.{Table}
use Rattle.rules.specs.Choice.{Result, choice}
use Rattle.rules.specs.Events.{enter}
use Rattle.rules.specs.declared.Event.{Event}
use Rattle.rules.specs.Refusals.{Verdict, accept, refuse}
use Rattle.rules.specs.Run.{newcomer, fresh}
use Rattle.rules.proofs.SameSettings.{same_count, choice-settings, enter-settings}
use Rattle.rules.specs.declared.Gate.{Gate}
use Rattle.table.specs.View.{settings_form, request_form, flight_form}
use Rattle.table.specs.ViewLaws.{request_exact, flight_exact}
use Rattle.gate.specs.Promise.{Lending, HandedIn, table_in, handed_in, followed_in, judged_in, called_in, settings_in, opened_by_in, opening_in, opened_in}
use Rattle.gate.specs.Needs.{Beyond}
use Rattle.gate.proofs.Lending.{Lawful, rows_beyond, sound-judged, long_roomy, accepted-firm, accepted_open, open_roomy}

-- the table t has n guests, capacity c and depth d
pub record Sized (n c d : ℕ) (t : Table) : Type 0 where
  pub guests : length t.guests ≡ n
  pub capacity : t.setup.capacity ≡ c
  pub depth : t.setup.depth ≡ d

-- the table that an opening gives
pub fresh_sized : (d n c rule : ℕ) (ss : List ℕ) → Sized n c d (fresh d c rule (settings_in ss n))
unfolding fresh
fresh_sized d n c rule ss = record { guests = length-map (settings_in ss n) newcomer ∙ length-rows settings_form ss n; capacity = refl; depth = refl }

module _ (v : Lending) (lawful : Lawful v) where
  -- the table that the choice leaves
  pub chosen_sized : (g : Gate) (gs : List v.Cell) (ws fs : List ℕ) (e : Event) → Sized g.guests g.setup.capacity g.setup.depth (choice (enter (table_in v g gs ws fs) e)).table
  chosen_sized g gs ws fs e =
      let t = table_in v g gs ws fs in
      let a = choice-settings (enter t e) in
      let b = enter-settings t e in
      record {
        guests = same_count (choice (enter t e)).table (enter t e) a ∙ same_count (enter t e) t b ∙ lawful.counts gs g.guests;
        capacity = ap (λ s. s.capacity) (a.setup ∙ b.setup);
        depth = ap (λ s. s.depth) (a.setup ∙ b.setup);
      }

  -- what is handed back over lent tables with room for the guests
  handed_beyond : (n c d : ℕ) (gs : List v.Cell) (ws fs : List ℕ) (r : Result) → Sized n c d r.table → v.needs n ≤ length gs → Beyond v n c d gs ws fs (handed_in v gs ws fs r)
  unfolding handed_in
  handed_beyond n c d gs ws fs r s room =
      let t = r.table in
      let fits : v.needs (length t.guests) ≤ length gs = subst (λ (m : ℕ). v.needs m ≤ length gs) (sym s.guests) room in
      record {
        guest-length = lawful.keeps t.guests gs fits;
        waiting-length = length-over-rows request_form request_exact t.setup.capacity t.waiting ws;
        flight_length = length-over-rows flight_form flight_exact t.setup.depth t.flight fs;
        guests = subst (λ (m : ℕ). drop (v.needs m) (v.over t.guests gs) ≡ drop (v.needs m) gs) s.guests (lawful.beyond t.guests gs fits);
        waiting = rw (sym s.capacity) (rows_beyond request_form request_exact t.setup.capacity t.waiting ws);
        flight = rw (sym s.depth) (rows_beyond flight_form flight_exact t.setup.depth t.flight fs);
      }

  -- a refusal changes nothing
  all-kept : (n c d : ℕ) (h : HandedIn v) → Beyond v n c d h.1 h.2 h.3 h
  all-kept n c d h = record { guest-length = refl; waiting-length = refl; flight_length = refl; guests = refl; waiting = refl; flight = refl }

  -- an arrival, a completion and a tick change nothing beyond what the settings need
  pub called_beyond : (e : Event) (g : Gate) (gs : List v.Cell) (ws fs : List ℕ) → Beyond v g.guests g.setup.capacity g.setup.depth gs ws fs (called_in v e g gs ws fs)
  unfolding called_in
  called_beyond e g gs ws fs = go (judged_in v e g gs ws fs) refl
    where
      go : (w : Verdict) → judged_in v e g gs ws fs ≡ w → Beyond v g.guests g.setup.capacity g.setup.depth gs ws fs (followed_in v w e g gs ws fs)
      go accept p =
          let f = accepted-firm v g gs ws fs e p in
          let k = long_roomy v lawful g gs ws fs (sound-judged v lawful g gs ws fs f.1).is_counted f.0 in
          handed_beyond g.guests g.setup.capacity g.setup.depth gs ws fs (choice (enter (table_in v g gs ws fs) e)) (chosen_sized g gs ws fs e) k.guest_room
      go (refuse r) p = all-kept g.guests g.setup.capacity g.setup.depth (followed_in v (refuse r) e g gs ws fs)

  -- nor does an opening
  pub opened_beyond : (d n c rule : ℕ) (ss : List ℕ) (gs : List v.Cell) (ws fs : List ℕ) → Beyond v n c d gs ws fs (opened_in v d n c rule ss gs ws fs)
  unfolding opened_in
  opened_beyond d n c rule ss gs ws fs = go (opening_in v d n c rule ss gs ws fs) refl
    where
      go : (w : Verdict) → opening_in v d n c rule ss gs ws fs ≡ w → Beyond v n c d gs ws fs (opened_by_in v w d n c rule ss gs ws fs)
      go accept p =
          let k = open_roomy v d n c ss gs ws fs (accepted_open v d n c ss gs ws fs rule p).1 in
          handed_beyond n c d gs ws fs _ (fresh_sized d n c rule ss) k.1
      go (refuse r) p = all-kept n c d (opened_by_in v (refuse r) d n c rule ss gs ws fs)
