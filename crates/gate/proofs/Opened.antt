-- An opening that is accepted gives a host of which everything here speaks: its tables are long enough and sound, and show a fresh table.
-- Assumes nothing.
use Prim.Native.Nat.{ℕ, ◌*◌, ◌≤◌}
use mathlib.Core.Path.{◌≡◌, refl, sym, ap, ◌∙◌, subst}
use mathlib.Core.Bool.{true, false, not, true≢false}
use mathlib.Core.List.{List}
use lib.ListN.{length}
use borrow.Author.Tests.{not-true}
use Rattle.lists.specs.WordsLaws.{both}
use Rattle.lists.specs.RowsLaws.{length-rows}
use Rattle.rules.specs.Choice.{Result}
use Rattle.rules.specs.Sound.{counted, sound}
use Rattle.rules.specs.Refusals.{Verdict, accept, refuse}
use Rattle.rules.specs.Run.{fresh}
use Rattle.rules.proofs.Conditions.{counted_means}
use Rattle.rules.proofs.Opening.{fresh-sound}
use Rattle.rules.specs.declared.Answer.TheVariants.{Nothing}
use Rattle.table.specs.Columns.{settings_wide, waiting_wide, flight_wide}
use Rattle.table.specs.View.{settings_form, Known}
use Rattle.gate.specs.Promise.{Lending, numbers, HandedIn, handed_in, short_in, sound_in, settings_in, open_short_in, opened_by_in, opening_in, opened_in, opened}
use Rattle.gate.specs.Calls.{holds, shows, firm, taken}
use Rattle.gate.specs.Judges.{OpenRoom}
use Rattle.gate.proofs.Lending.{Lawful, numbers-lawful, accepted_open, open_roomy}
use Rattle.gate.proofs.Beyond.{fresh_sized}
use Rattle.gate.proofs.Verdicts.{short-numbers, sound-numbers, firm-known}
use Rattle.gate.proofs.Written.{Holds, handed-shown, handed-holds}
use Rattle.gate.proofs.Runs.{holds-firm}

module _ (v : Lending) (lawful : Lawful v) (d n c rule : ℕ) (ss : List ℕ) (gs : List v.Cell) (ws fs : List ℕ) where
  abbrev r : Result
  r = record { table = fresh d c rule (settings_in ss n); answer = Nothing }

  module _ (ok : opening_in v d n c rule ss gs ws fs ≡ accept) where
    rooms : (n * settings_wide ≤ length ss) × (v.needs n ≤ length gs) × (c * waiting_wide ≤ length ws) × (d * flight_wide ≤ length fs)
    rooms = open_roomy v d n c ss gs ws fs (accepted_open v d n c ss gs ws fs rule ok).1

    guest-room : v.needs (length r.table.guests) ≤ length gs
    guest-room = subst (λ (m : ℕ). v.needs m ≤ length gs) (sym (fresh_sized d n c rule ss).guests) rooms.1

    steady : sound r.table ≡ true
    unfolding opening_in
    steady = fresh-sound (open_short_in v d n c ss gs ws fs) d n c rule (settings_in ss n) ok (length-rows settings_form ss n)

    is_fresh : opened_in v d n c rule ss gs ws fs ≡ handed_in v gs ws fs r
    unfolding opened_in
    is_fresh = ap (λ (w : Verdict). opened_by_in v w d n c rule ss gs ws fs) ok

    shown-fresh : shows v (holds v (opened_in v d n c rule ss gs ws fs)) ≡ fresh d c rule (settings_in ss n)
    unfolding fresh
    shown-fresh = ap (λ (h : HandedIn v). shows v (holds v h)) is_fresh ∙ handed-shown v lawful gs ws fs r guest-room rooms.2 rooms.3 steady

    firm-fresh : firm v (holds v (opened_in v d n c rule ss gs ws fs)) ≡ true
    unfolding fresh
    firm-fresh = holds-firm v lawful (holds v (opened_in v d n c rule ss gs ws fs)) (subst (λ (h : HandedIn v). Holds v (holds v h)) (sym is_fresh) (handed-holds v lawful gs ws fs r guest-room rooms.2 rooms.3 steady refl))

  -- what an accepted opening leaves
  pub opened-firm : taken (opened_in v d n c rule ss gs ws fs).0.answer ≡ true → (firm v (holds v (opened_in v d n c rule ss gs ws fs)) ≡ true) × (shows v (holds v (opened_in v d n c rule ss gs ws fs)) ≡ fresh d c rule (settings_in ss n))
  unfolding opened_in
  opened-firm a = let ok : opening_in v d n c rule ss gs ws fs ≡ accept = accepting (opening_in v d n c rule ss gs ws fs) refl in (firm-fresh ok, shown-fresh ok)
    where
      accepting : (w : Verdict) → opening_in v d n c rule ss gs ws fs ≡ w → w ≡ accept
      accepting accept p = refl
      accepting (refuse s) p = absurd (true≢false (sym a ∙ ap (λ (w : Verdict). taken (opened_by_in v w d n c rule ss gs ws fs).0.answer) p))

-- OVER NUMBERS

module _ (d n c : ℕ) (ss gs ws fs : List ℕ) where
  -- lent lists that are not short
  pub open_long : counted d n c ≡ true → open_short_in numbers d n c ss gs ws fs ≡ false → OpenRoom d n c ss gs ws fs
  open_long k s =
      let x = open_roomy numbers d n c ss gs ws fs s in
      let m = (counted_means d n c).holds.0 k in
      record { settings = x.0; guests = x.1; waiting = x.2; flight = x.3; most = (m.depths.1, m.guest-count.1, m.capacities.1) }

  -- an accepted opening leaves known numbers
  pub opened-known : (rule : ℕ) → taken (opened d n c rule ss gs ws fs).0.answer ≡ true → Known (opened d n c rule ss gs ws fs).0.gate (opened d n c rule ss gs ws fs).1 (opened d n c rule ss gs ws fs).2 (opened d n c rule ss gs ws fs).3
  opened-known rule a =
      let x = opened d n c rule ss gs ws fs in
      let b = both (not (short_in numbers x.0.gate x.1 x.2 x.3)) (sound_in numbers x.0.gate x.1 x.2 x.3) (opened-firm numbers numbers-lawful d n c rule ss gs ws fs a).0 in
      firm-known x.0.gate x.1 x.2 x.3
      (sym (short-numbers x.0.gate x.1 x.2 x.3) ∙ not-true (short_in numbers x.0.gate x.1 x.2 x.3) b.0) (sym (sound-numbers x.0.gate x.1 x.2 x.3) ∙ b.1)
