-- A call over numbers on the records in use, brought home, is what a call over records promises. Assumes nothing.
use Prim.Native.Nat.{ℕ, ◌*◌, ◌≤◌, ◌<◌}
use mathlib.Core.Path.{◌≡◌, refl, sym, ap, ◌∙◌}
use mathlib.Core.Bool.{Bool, true, false, not, ◌&&◌, ◌||◌}
use mathlib.Core.List.{List, ◌++◌}
use mathlib.Core.Logic.{◌⊎◌, inl, inr}
use native.Mathlib.Omega.{arith}
use lib.Dec.{ltb}
use lib.ListN.{length, take, drop, replicate}
use Rattle.lists.specs.Rows.{rows_of, over_rows}
use borrow.Author.Tests.{lt-ltb, le-ltb}
use Rattle.lists.specs.Tab.{lt_or_le}
use Rattle.rules.specs.Tables.{Table}
use Rattle.rules.specs.Sound.{counted, sound}
use Rattle.rules.specs.Choice.{Result, choice}
use Rattle.rules.specs.Events.{enter}
use Rattle.rules.specs.declared.Event.{Event}
use Rattle.rules.specs.Refusals.{Verdict, accept, refuse, judged, tests, open_tests}
use Rattle.rules.specs.Run.{fresh}
use Rattle.rules.proofs.Conditions.{counted_means}
use Rattle.rules.specs.declared.Guest.{Guest}
use Rattle.rules.specs.declared.Gate.{Gate}
use Rattle.rules.specs.declared.Outcome.{Outcome}
use Rattle.rules.specs.declared.Answer.{Answer}
use Rattle.rules.specs.declared.Answer.TheVariants.{Nothing, Refused}
use Rattle.rules.specs.declared.Refusal.TheVariants.{ShortTable, Unsound}
use Rattle.table.specs.Columns.{guest_wide, settings_wide, waiting_wide, flight_wide, most_guests, guests_long}
use Rattle.rules.specs.Waking.{unsaid}
use Rattle.table.specs.View.{guest_form, outcome_of, guests_of, waiting_of, flights_of, countable, identified, zeroed}
use Rattle.gate.specs.Promise.{numbers, table_in, HandedIn, handed_in, SeenIn, seen_in, short_in, sound_in, unchanged_in, followed_in, judged_in, called_in, settings_in, unopened, open_short_in, opened_by_in, opening_in, opened_in}
use Rattle.gate.proofs.Lending.{numbers-lawful, uncounted_in, short-refused_in, unsound_refused_in, accepted_open, open_roomy}
use Rattle.gate.proofs.Beyond.{chosen_sized, fresh_sized}
use Rattle.packs.specs.Records.{in_part}
use Rattle.records.specs.Promise.{records}
use Rattle.records.proofs.Lawful.{records-lawful}
use Rattle.records.proofs.Copies.{count, rows, part, brought, homed, length_part, kept, same_guests, same-records}

-- COUNTS

-- counts in range leave at most 64 guests
counted_few : (d n c : ℕ) → counted d n c ≡ true → n ≤ most_guests
counted_few d n c h = ((counted_means d n c).holds.0 h).guest-count.1

-- then all guests' records are in use, or the slice has too few
in_use_lem : (n : ℕ) (rs : List Guest) → n ≤ most_guests → n ≤ length rs → count n rs ≡ n
in_use_lem n rs few le = omega arith

-- the part that is handed on is too short exactly where the slice is
too_few : (n : ℕ) (rs : List Guest) → n ≤ most_guests → ltb (length (part n rs)) (n * guest_wide) ≡ ltb (length rs) n
too_few n rs few = go (lt_or_le (length rs) n)
  where
    go : (length rs < n) ⊎ (n ≤ length rs) → ltb (length (part n rs)) (n * guest_wide) ≡ ltb (length rs) n
    go (inl lt) = lt-ltb (length (part n rs)) (n * guest_wide) (omega (arith, length_part n rs, lt, few)) ∙ sym (lt-ltb (length rs) n lt)
    go (inr le) = le-ltb (length (part n rs)) (n * guest_wide) (omega (arith, length_part n rs, le, few)) ∙ sym (le-ltb (length rs) n le)

-- ARRIVAL, COMPLETION AND TICK

-- a refusal on the numbers is one on the records
pub refusal_home : (n : ℕ) (rs : List Guest) (g : Gate) (ws fs : List ℕ) (a : Answer) → homed n rs (unchanged_in numbers g (part n rs) ws fs a) ≡ unchanged_in records g rs ws fs a
refusal_home n rs g ws fs a = λ i. (outcome_of g a unsaid, kept n rs i, ws, fs)

-- a result on the numbers is one on the records
result_home : (n : ℕ) (rs : List Guest) (ws fs : List ℕ) → count n rs ≡ n → (r : Result) → length r.table.guests ≡ n → homed n rs (handed_in numbers (part n rs) ws fs r) ≡ handed_in records rs ws fs r
unfolding handed_in
result_home n rs ws fs all r size = λ i. ((handed_in records rs ws fs r).0, same-records n rs all r.table.guests size i, (handed_in records rs ws fs r).2, (handed_in records rs ws fs r).3)

module _ (g : Gate) (rs : List Guest) (ws fs : List ℕ) where
  abbrev n : ℕ
  n = g.guests

  abbrev xs : List ℕ
  xs = part n rs

  module _ (h : countable g ≡ true) where
    few : n ≤ most_guests
    few = counted_few g.setup.depth n g.setup.capacity h

    same-short : short_in numbers g xs ws fs ≡ short_in records g rs ws fs
    unfolding short_in
    same-short = ap (λ (b : Bool). countable g && (b || ltb (length ws) (g.setup.capacity * waiting_wide) || ltb (length fs) (g.setup.depth * flight_wide))) (too_few n rs few)

    module _ (le : n ≤ length rs) where
      all : count n rs ≡ n
      all = in_use_lem n rs few le

      same-table : table_in numbers g xs ws fs ≡ table_in records g rs ws fs
      same-table =
          let p : guests_of xs n ≡ (table_in records g rs ws fs).guests = same_guests n rs all in
          λ i. record { setup = g.setup; time = g.time; guests = p i; waiting = waiting_of ws g.waiting; flight = flights_of fs g.flight }

      same-sound : sound_in numbers g xs ws fs ≡ sound_in records g rs ws fs
      unfolding sound_in
      same-sound =
          ap (λ (t : Table). sound t && identified t && zeroed waiting_wide g.setup.capacity g.waiting ws && zeroed flight_wide g.setup.depth g.flight fs) same-table

      same-verdict : (e : Event) → judged_in numbers e g xs ws fs ≡ judged_in records e g rs ws fs
      unfolding judged_in
      same-verdict e = λ i. judged (tests (same-short i) (not (same-sound i)) (same-table i) e)

      -- one verdict, followed on both
      followed-home : (e : Event) (v : Verdict) → homed n rs (followed_in numbers v e g xs ws fs) ≡ followed_in records v e g rs ws fs
      followed-home e accept =
          let t = enter (table_in records g rs ws fs) e in
          ap (λ (u : Table). homed n rs (handed_in numbers xs ws fs (choice (enter u e)))) same-table
          ∙ result_home n rs ws fs all (choice t)
          (chosen_sized records records-lawful g rs ws fs e).guests
      followed-home e (refuse r) = refusal_home n rs g ws fs (Refused r)

  -- too few records
  lacking : countable g ≡ true → length rs < n → short_in records g rs ws fs ≡ true
  unfolding short_in
  lacking h lt = rw (h, lt-ltb (length rs) n lt) refl

  -- an arrival, a completion and a tick on the numbers, brought home
  pub called-home : (e : Event) → homed n rs (called_in numbers e g xs ws fs) ≡ called_in records e g rs ws fs
  unfolding called_in
  called-home e = go (countable g) refl (lt_or_le (length rs) n)
    where
      refused : (a : Answer) → called_in numbers e g xs ws fs ≡ unchanged_in numbers g xs ws fs a → called_in records e g rs ws fs ≡ unchanged_in records g rs ws fs a → homed n rs (called_in numbers e g xs ws fs) ≡ called_in records e g rs ws fs
      refused a p q = ap (homed n rs) p ∙ refusal_home n rs g ws fs a ∙ sym q

      go : (b : Bool) → countable g ≡ b → (length rs < n) ⊎ (n ≤ length rs) → homed n rs (called_in numbers e g xs ws fs) ≡ called_in records e g rs ws fs
      go false h o =
          let u = uncounted_in numbers numbers-lawful g xs ws fs h in
          let r = uncounted_in records records-lawful g rs ws fs h in
          refused (Refused Unsound) (unsound_refused_in numbers g xs ws fs e u.0 u.1) (unsound_refused_in records g rs ws fs e r.0 r.1)
      go true h (inl lt) = refused (Refused ShortTable) (short-refused_in numbers g xs ws fs e (same-short h ∙ lacking h lt)) (short-refused_in records g rs ws fs e (lacking h lt))
      go true h (inr le) = ap (λ (v : Verdict). homed n rs (followed_in numbers v e g xs ws fs)) (same-verdict h le e) ∙ followed-home h le e (judged_in records e g rs ws fs)

-- OPENING

module _ (d n c rule : ℕ) (ss : List ℕ) (rs : List Guest) (ws fs : List ℕ) where
  abbrev ys : List ℕ
  ys = part n rs

  same_open_short : n ≤ most_guests → open_short_in numbers d n c ss ys ws fs ≡ open_short_in records d n c ss rs ws fs
  unfolding open_short_in
  same_open_short few = ap (λ (b : Bool). ltb (length ss) (n * settings_wide) || b || ltb (length ws) (c * waiting_wide) || ltb (length fs) (d * flight_wide)) (too_few n rs few)

  -- counts out of range: 1 at once
  same-opening : opening_in numbers d n c rule ss ys ws fs ≡ opening_in records d n c rule ss rs ws fs
  unfolding opening_in open_tests
  same-opening = go (counted d n c) refl
    where
      go : (b : Bool) → counted d n c ≡ b → opening_in numbers d n c rule ss ys ws fs ≡ opening_in records d n c rule ss rs ws fs
      go false h = rw h refl
      go true h = ap (λ (b : Bool). judged (open_tests b d n c rule (settings_in ss n))) (same_open_short (counted_few d n c h))

  -- an opening is accepted only with counts in range and records enough
  open_all : opening_in records d n c rule ss rs ws fs ≡ accept → count n rs ≡ n
  open_all h =
      let a = accepted_open records d n c ss rs ws fs rule h in
      in_use_lem n rs (counted_few d n c a.0) (open_roomy records d n c ss rs ws fs a.1).1

  opened_by_home : (v : Verdict) → opening_in records d n c rule ss rs ws fs ≡ v → homed n rs (opened_by_in numbers v d n c rule ss ys ws fs) ≡ opened_by_in records v d n c rule ss rs ws fs
  opened_by_home accept h = result_home n rs ws fs (open_all h) (record { table = fresh d c rule (settings_in ss n); answer = Nothing }) (fresh_sized d n c rule ss).guests
  opened_by_home (refuse why) h = refusal_home n rs unopened ws fs (Refused why)

  -- an opening on the numbers, brought home
  pub opened-home : homed n rs (opened_in numbers d n c rule ss ys ws fs) ≡ opened_in records d n c rule ss rs ws fs
  unfolding opened_in
  opened-home = ap (λ (v : Verdict). homed n rs (opened_by_in numbers v d n c rule ss ys ws fs)) same-opening ∙ opened_by_home (opening_in records d n c rule ss rs ws fs) refl

-- THE PROMISE

-- what `part` ensures of a call over numbers, once the records have come home, is what a caller of the call over records sees
pub at_home : (n : ℕ) (rs : List Guest) (does : List ℕ → HandedIn numbers) (p : HandedIn records) → homed n rs (does (part n rs)) ≡ p
    → (r : Outcome) (zs ws fs : List ℕ) → seen_in numbers (r, zs, ws, fs) ≡ seen_in numbers (in_part (count n rs) (rows n rs) does) → seen_in records (r, brought n rs zs, ws, fs) ≡ seen_in records p
at_home n rs does p home r zs ws fs e = ap (λ (s : SeenIn numbers). (s.0, s.1, s.2, brought n rs s.3, s.4, s.5)) e ∙ ap (seen_in records) home

-- so where k records were unpacked, and are packed again from the numbers that the call left
pub comes_home : (n : ℕ) (rs : List Guest) (does : List ℕ → HandedIn numbers) (p : HandedIn records) → homed n rs (does (part n rs)) ≡ p
    → (r : Outcome) (k : ℕ) (xs zs ws fs : List ℕ) (hs : List Guest) → k ≡ count n rs → xs ≡ over_rows guest_form k (take k rs) (replicate guests_long 0)
    → hs ≡ rows_of guest_form zs k ++ drop k rs → seen_in numbers (r, zs, ws, fs) ≡ seen_in numbers (in_part k xs does) → seen_in records (r, hs, ws, fs) ≡ seen_in records p
comes_home n rs does p home r k xs zs ws fs hs used unpacked packed e =
    ap (λ (l : List Guest). seen_in records (r, l, ws, fs)) (packed ∙ ap (λ (m : ℕ). rows_of guest_form zs m ++ drop m rs) used)
    ∙ at_home n rs does p home r zs ws fs
    (e ∙ ap (λ (m : ℕ). seen_in numbers (in_part m xs does)) used
    ∙ ap (λ (l : List ℕ). seen_in numbers (in_part (count n rs) l does)) (unpacked ∙ ap (λ (m : ℕ). over_rows guest_form m (take m rs) (replicate guests_long 0)) used))

-- a call on the rows in use, seen with the rest of the rows behind them
pub with_rest : (a b : HandedIn numbers) (rest : List ℕ) → seen_in numbers a ≡ seen_in numbers b → seen_in numbers (a.0, a.1 ++ rest, a.2, a.3) ≡ seen_in numbers (b.0, b.1 ++ rest, b.2, b.3)
with_rest a b rest e = ap (λ (s : SeenIn numbers). (s.0, s.1, s.2, s.3 ++ rest, s.4, s.5)) e
