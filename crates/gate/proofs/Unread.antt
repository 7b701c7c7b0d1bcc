-- `untouched`, second half: lent tables that differ only beyond the places that the settings need give the same outcome and the same at
-- every place needed. So what stands beyond is not read. Assumes nothing.
use Prim.Native.Nat.{ℕ, ◌*◌, ◌≤◌, min}
use mathlib.Core.Path.{◌≡◌, refl, sym, ap, subst, ◌∙◌}
use mathlib.Core.Bool.{Bool, true, false, not, ◌&&◌, ◌||◌, true≢false}
use mathlib.Core.List.{List}
use mathlib.Core.Logic.{⊎_elim}
use native.Mathlib.Nat.{mul-le-mul_right}
use native.Mathlib.Omega.{arith}
use lib.Dec.{eqb, ltb}
use lib.ListN.{length, take, length-take}
use borrow.Author.Tests.{lt-ltb, le-ltb}
use Rattle.lists.specs.Tab.{lt_or_le}
use Rattle.lists.specs.Words.{all}
use Rattle.lists.specs.AlikeLaws.{alike_short, alike_fewer, alike_part, alike_rows, rows_alike}
use Rattle.rules.specs.Tables.{Table}
use Rattle.rules.specs.declared.Settings.{Settings}
use Rattle.rules.specs.Sound.{sound}
use Rattle.rules.specs.Choice.{Result, choice}
use Rattle.rules.specs.Events.{enter}
use Rattle.rules.specs.declared.Event.{Event}
use Rattle.rules.specs.Refusals.{Verdict, accept, refuse, judged, tests, open_tests}
use Rattle.rules.specs.Run.{fresh}
use Rattle.rules.specs.declared.Gate.{Gate}
use Rattle.rules.specs.declared.Answer.{Answer}
use Rattle.rules.specs.declared.Answer.TheVariants.{Nothing, Refused}
use Rattle.rules.specs.declared.Refusal.TheVariants.{ShortTable, Unsound}
use Rattle.table.specs.Columns.{settings_wide, waiting_wide, flight_wide}
use Rattle.table.specs.View.{settings_form, request_form, flight_form, waiting_of, flights_of, countable, identified, zeroed}
use Rattle.table.specs.ViewLaws.{request_exact, flight_exact}
use Rattle.gate.specs.Promise.{Lending, HandedIn, table_in, handed_in, short_in, sound_in, unchanged_in, followed_in, judged_in, called_in, settings_in, open_short_in, opened_by_in, opening_in, opened_in}
use Rattle.gate.specs.Needs.{Alike, Same}
use Rattle.gate.proofs.Beyond.{Sized, chosen_sized, fresh_sized}
use Rattle.gate.proofs.Lending.{Lawful, sound-judged, short-refused_in, unsound_refused_in}

-- lists that are alike up to n are both shorter than that, or neither is
alike_cells : {A : Type 0} (n : ℕ) (xs ys : List A) → take n xs ≡ take n ys → ltb (length xs) n ≡ ltb (length ys) n
alike_cells n xs ys e =
    let m : min n (length xs) ≡ min n (length ys) = sym (length-take n xs) ∙ ap length e ∙ length-take n ys in
    ⊎_elim
    (λ h. lt-ltb (length xs) n h ∙ sym (lt-ltb (length ys) n (omega (arith, m))))
    (λ h. le-ltb (length xs) n h ∙ sym (le-ltb (length ys) n (omega (arith, m))))
    (lt_or_le (length xs) n)

module _ (v : Lending) (lawful : Lawful v) where
  -- the same result, written over tables that are alike
  handed_alike : (n c d : ℕ) (gs : List v.Cell) (ws fs : List ℕ) (hs : List v.Cell) (vs es : List ℕ) → Alike v n c d gs ws fs hs vs es → (r : Result) → Sized n c d r.table → Same v n c d (handed_in v gs ws fs r) (handed_in v hs vs es r)
  unfolding handed_in
  handed_alike n c d gs ws fs hs vs es a r s =
      let t = r.table in
      let same : take (v.needs (length t.guests)) gs ≡ take (v.needs (length t.guests)) hs = subst (λ (m : ℕ). take (v.needs m) gs ≡ take (v.needs m) hs) (sym s.guests) a.guests in
      record {
        outcome = refl;
        needed = record {
          guests = subst (λ (m : ℕ). take (v.needs m) (v.over t.guests gs) ≡ take (v.needs m) (v.over t.guests hs)) s.guests (lawful.writes t.guests gs hs same);
          waiting = rw s.capacity (rows_alike request_form c ws vs a.waiting request_exact t.waiting);
          flight = rw s.depth (rows_alike flight_form d fs es a.flight flight_exact t.flight);
        };
      }

  module _ (g : Gate) (gs : List v.Cell) (ws fs : List ℕ) (hs : List v.Cell) (vs es : List ℕ) (a : Alike v g.guests g.setup.capacity g.setup.depth gs ws fs hs vs es) where
    -- both are short, or neither is
    short_alike : short_in v g gs ws fs ≡ short_in v g hs vs es
    unfolding short_in
    short_alike =
        let p = alike_cells (v.needs g.guests) gs hs a.guests in
        let q = alike_short (g.setup.capacity * waiting_wide) ws vs a.waiting in
        let r = alike_short (g.setup.depth * flight_wide) fs es a.flight in
        λ i. countable g && (p i || q i || r i)

    -- where the counts do not exceed capacity and depth, they show the same table
    module _ (waits : g.waiting ≤ g.setup.capacity) (flies : g.flight ≤ g.setup.depth) where
      table_alike : table_in v g gs ws fs ≡ table_in v g hs vs es
      table_alike =
          let pg : v.shows gs g.guests ≡ v.shows hs g.guests = lawful.reads g.guests gs hs a.guests in
          let pw : waiting_of ws g.waiting ≡ waiting_of vs g.waiting = alike_rows request_form g.waiting ws vs (alike_fewer (g.setup.capacity * waiting_wide) ws vs a.waiting (g.waiting * waiting_wide) (mul-le-mul_right waiting_wide waits)) in
          let pf : flights_of fs g.flight ≡ flights_of es g.flight = alike_rows flight_form g.flight fs es (alike_fewer (g.setup.depth * flight_wide) fs es a.flight (g.flight * flight_wide) (mul-le-mul_right flight_wide flies)) in
          λ i. record { setup = g.setup; time = g.time; guests = pg i; waiting = pw i; flight = pf i }

      sounds_alike : sound_in v g gs ws fs ≡ sound_in v g hs vs es
      unfolding sound_in
      sounds_alike =
          let zw : zeroed waiting_wide g.setup.capacity g.waiting ws ≡ zeroed waiting_wide g.setup.capacity g.waiting vs = ap (all (λ x. eqb x 0)) (alike_part (g.setup.capacity * waiting_wide) ws vs a.waiting (g.waiting * waiting_wide) (mul-le-mul_right waiting_wide waits)) in
          let zf : zeroed flight_wide g.setup.depth g.flight fs ≡ zeroed flight_wide g.setup.depth g.flight es = ap (all (λ x. eqb x 0)) (alike_part (g.setup.depth * flight_wide) fs es a.flight (g.flight * flight_wide) (mul-le-mul_right flight_wide flies)) in
          λ i. sound (table_alike i) && identified (table_alike i) && zw i && zf i

      -- an event is judged alike
      judged_alike : (e : Event) → judged_in v e g gs ws fs ≡ judged_in v e g hs vs es
      unfolding judged_in
      judged_alike e = λ i. judged (tests (short_alike i) (not (sounds_alike i)) (table_alike i) e)

      -- and moves alike
      followed_alike : (e : Event) (w : Verdict) → Same v g.guests g.setup.capacity g.setup.depth (followed_in v w e g gs ws fs) (followed_in v w e g hs vs es)
      followed_alike e accept =
          subst (λ (u : Table). Same v g.guests g.setup.capacity g.setup.depth (handed_in v gs ws fs (choice (enter (table_in v g gs ws fs) e))) (handed_in v hs vs es (choice (enter u e)))) table_alike
          (handed_alike g.guests g.setup.capacity g.setup.depth gs ws fs hs vs es a (choice (enter (table_in v g gs ws fs) e)) (chosen_sized v lawful g gs ws fs e))
      followed_alike e (refuse r) = record { outcome = refl; needed = a }

      called_alike : (e : Event) → Same v g.guests g.setup.capacity g.setup.depth (called_in v e g gs ws fs) (called_in v e g hs vs es)
      unfolding called_in
      called_alike e = rw (sym (judged_alike e)) (followed_alike e (judged_in v e g gs ws fs))

    -- so both are sound, or neither is
    sound_alike : sound_in v g gs ws fs ≡ true → sound_in v g hs vs es ≡ true
    sound_alike h = let j = sound-judged v lawful g gs ws fs h in sym (sounds_alike j.waits j.flies) ∙ h

  -- and the other way round
  turned : {n c d : ℕ} {gs : List v.Cell} {ws fs : List ℕ} {hs : List v.Cell} {vs es : List ℕ} → Alike v n c d gs ws fs hs vs es → Alike v n c d hs vs es gs ws fs
  turned a = record { guests = sym a.guests; waiting = sym a.waiting; flight = sym a.flight }

  -- a refusal of both
  both_refused : (n c d : ℕ) (g : Gate) (gs : List v.Cell) (ws fs : List ℕ) (hs : List v.Cell) (vs es : List ℕ) → Alike v n c d gs ws fs hs vs es → (x : Answer) (h k : HandedIn v) → h ≡ unchanged_in v g gs ws fs x → k ≡ unchanged_in v g hs vs es x → Same v n c d h k
  both_refused n c d g gs ws fs hs vs es a x h k p q = rw (p, q) (record { outcome = refl; needed = a })

  -- An arrival, a completion and a tick read nothing beyond what the settings need.
  pub called_unread : (e : Event) (g : Gate) (gs : List v.Cell) (ws fs : List ℕ) (hs : List v.Cell) (vs es : List ℕ) → Alike v g.guests g.setup.capacity g.setup.depth gs ws fs hs vs es
      → Same v g.guests g.setup.capacity g.setup.depth (called_in v e g gs ws fs) (called_in v e g hs vs es)
  called_unread e g gs ws fs hs vs es a = go (short_in v g gs ws fs) refl (sound_in v g gs ws fs) refl
    where
      refused : (x : Answer) → called_in v e g gs ws fs ≡ unchanged_in v g gs ws fs x → called_in v e g hs vs es ≡ unchanged_in v g hs vs es x → Same v g.guests g.setup.capacity g.setup.depth (called_in v e g gs ws fs) (called_in v e g hs vs es)
      refused x p q = both_refused g.guests g.setup.capacity g.setup.depth g gs ws fs hs vs es a x (called_in v e g gs ws fs) (called_in v e g hs vs es) p q

      unsound : sound_in v g gs ws fs ≡ false → sound_in v g hs vs es ≡ false
      unsound h = other (sound_in v g hs vs es) refl
        where
          other : (b : Bool) → sound_in v g hs vs es ≡ b → b ≡ false
          other true k = absurd (true≢false (sym (sound_alike g hs vs es gs ws fs (turned a) k) ∙ h))
          other false k = refl

      go : (b : Bool) → short_in v g gs ws fs ≡ b → (c : Bool) → sound_in v g gs ws fs ≡ c → Same v g.guests g.setup.capacity g.setup.depth (called_in v e g gs ws fs) (called_in v e g hs vs es)
      go true s c h = refused (Refused ShortTable) (short-refused_in v g gs ws fs e s) (short-refused_in v g hs vs es e (sym (short_alike g gs ws fs hs vs es a) ∙ s))
      go false s false h = refused (Refused Unsound) (unsound_refused_in v g gs ws fs e s h) (unsound_refused_in v g hs vs es e (sym (short_alike g gs ws fs hs vs es a) ∙ s) (unsound h))
      go false s true h = let j = sound-judged v lawful g gs ws fs h in called_alike g gs ws fs hs vs es a j.waits j.flies e

  -- Nor does an opening, of the settings too.
  pub opened_unread : (d n c rule : ℕ) (ss ts : List ℕ) (gs : List v.Cell) (ws fs : List ℕ) (hs : List v.Cell) (vs es : List ℕ) → take (n * settings_wide) ss ≡ take (n * settings_wide) ts → Alike v n c d gs ws fs hs vs es
      → Same v n c d (opened_in v d n c rule ss gs ws fs) (opened_in v d n c rule ts hs vs es)
  unfolding opened_in opening_in open_short_in
  opened_unread d n c rule ss ts gs ws fs hs vs es o a = rw (sym verdicts) (go (opening_in v d n c rule ss gs ws fs))
    where
      settings : settings_in ss n ≡ settings_in ts n
      settings = alike_rows settings_form n ss ts o

      lengths : open_short_in v d n c ss gs ws fs ≡ open_short_in v d n c ts hs vs es
      lengths =
          let p = alike_short (n * settings_wide) ss ts o in
          let q = alike_cells (v.needs n) gs hs a.guests in
          let r = alike_short (c * waiting_wide) ws vs a.waiting in
          let s = alike_short (d * flight_wide) fs es a.flight in
          λ i. p i || q i || r i || s i

      verdicts : opening_in v d n c rule ss gs ws fs ≡ opening_in v d n c rule ts hs vs es
      verdicts = λ i. judged (open_tests (lengths i) d n c rule (settings i))

      go : (w : Verdict) → Same v n c d (opened_by_in v w d n c rule ss gs ws fs) (opened_by_in v w d n c rule ts hs vs es)
      go accept =
          subst (λ (l : List Settings). Same v n c d (handed_in v gs ws fs (record { table = fresh d c rule (settings_in ss n); answer = Nothing })) (handed_in v hs vs es (record { table = fresh d c rule l; answer = Nothing }))) settings
          (handed_alike n c d gs ws fs hs vs es a (record { table = fresh d c rule (settings_in ss n); answer = Nothing }) (fresh_sized d n c rule ss))
      go (refuse r) = record { outcome = refl; needed = a }
