-- Each number of an event's line, 15, 14 and those of the event itself, is shown exactly where its condition holds and none before it does; and none
-- is ever 1, 2 or 3. Assumes nothing.
use Prim.Native.Nat.{ℕ, zero, suc, ◌*◌, ◌-◌, ◌<◌}
use mathlib.Core.Path.{◌≡◌, refl, sym, ap, ◌∙◌, subst}
use mathlib.Core.Bool.{Bool, true, false, false≢true}
use mathlib.Core.List.{List, [], ◌∷◌, map}
use mathlib.Core.Logic.{◌↔◌, ◌⊎◌, inl, inr, ⊎_elim}
use native.Mathlib.Omega.{arith}
use lib.Dec.{ltb}
use lib.ListN.{length, length-drop}
use borrow.Author.Tests.{ne_eqb, ltb-true}
use Rattle.lists.specs.Words.{if◌then◌else◌, all}
use Rattle.lists.specs.WordsLaws.{all-each}
use Rattle.lists.specs.Tab.{length-tab}
use Rattle.rules.specs.Tables.{Table}
use Rattle.rules.specs.Answers.{shown, taken}
use Rattle.rules.specs.Sound.{sound}
use Rattle.rules.specs.declared.Event.{Event}
use Rattle.rules.specs.declared.Event.TheVariants.{Arrival, Completion, Tick}
use Rattle.rules.specs.Refusals.{Test, Verdict, accept, refuse, judged, event_tests, open_tests, verdict}
use Rattle.rules.specs.Refused.{Case, NoneHolds, RefusedExactly, event_cases}
use Rattle.rules.specs.Run.{step}
use Rattle.rules.proofs.Trials.{X}
use Rattle.rules.proofs.Judged.{Tested, end, ◌and◌, listed}
use Rattle.rules.proofs.Conditions.{less}
use Rattle.rules.proofs.Refused.{Tells, exactly, event_tested}
use Rattle.rules.proofs.Answered.{Follows, shown-tells, step_follows}
use Rattle.rules.proofs.StepSound.{run_sound}
use Rattle.rules.proofs.Opening.{fresh-sound}
use Rattle.rules.specs.declared.Refusal.TheVariants.{BadEvent, EventCut}
use Rattle.rules.specs.declared.Answer.{Answer}
use Rattle.rules.specs.declared.Answer.TheVariants.{Refused}
use Rattle.trace.specs.Little.{byte_at, four_at, eight_at}
use Rattle.trace.specs.Header.{version_of, depth_of, guests_of, capacity_of, rule_of, settings_at, settings_in, opened_of, header_by}
use Rattle.trace.specs.Event.{kind_in, upper_in, event_from, event_of, events_of, Read}
use Rattle.trace.specs.Printed.{answered}
use Rattle.trace.specs.Answers.{by_event, event_bytes, bytes_at, opening, table_at, answer_at}
use Rattle.trace.specs.Cases.{header_cases, Faulty, line_cases}
use Rattle.trace.proofs.HeaderLaws.{opened}
use Rattle.trace.proofs.HeaderExactly.{header_good}
use Rattle.trace.proofs.Runs.{run, table-run}
use Rattle.trace.proofs.Answers.{answer_there, first_answer}
use Rattle.std.specs.Prelude.{Some, None}

-- THE TESTS OF A LINE

-- an event was read as bad
abbrev is_bad : Read → Bool
is_bad = by_event true (λ e. false)

-- the tests of the event at the front of the bytes, at the table t
abbrev line_tests : (version : ℕ) → Table → List ℕ → List Test
line_tests v t bs =
    record { refusal = EventCut; holds = ltb (length bs) 14 }
    ∷ record { refusal = BadEvent; holds = is_bad (event_of v bs) }
    ∷ by_event [] (event_tests t) (event_of v bs)

-- "event kind above 2, or a tick with non-zero guest or id", and by K9 "a non-zero upper part"
bad_is : (k u g i t : ℕ) → (is_bad (event_from k u g i t) ≡ true) ↔ ((2 < k) ⊎ ((0 < k) × (0 < u)) ⊎ ((k ≡ 2) × ((0 < g) ⊎ (0 < i))))
unfolding event_from
bad_is zero u g i t = (λ e. absurd (false≢true e), λ p. absurd (⊎_elim (λ h. omega arith) (⊎_elim (λ h. omega (arith, h.0)) (λ h. omega (arith, h.0))) p))
bad_is (suc zero) zero g i t =
    (λ e. absurd (false≢true e), λ p. absurd (⊎_elim (λ h. omega arith) (⊎_elim (λ h. omega (arith, h.1)) (λ h. omega (arith, h.0))) p))
bad_is (suc zero) (suc u) g i t = (λ e. inr (inl (omega arith, omega arith)), λ p. simp (ne_eqb (suc u) 0 (λ e. omega arith)))
bad_is (suc (suc zero)) (suc u) g i t = (λ e. inr (inl (omega arith, omega arith)), λ p. simp (ne_eqb (suc u) 0 (λ e. omega arith)))
bad_is (suc (suc zero)) zero zero zero t =
    (λ e. absurd (false≢true e), λ p. absurd (⊎_elim (λ h. omega arith) (⊎_elim (λ h. omega (arith, h.1)) (λ h. ⊎_elim (λ u. omega arith) (λ u. omega arith) h.1)) p))
bad_is (suc (suc zero)) zero zero (suc i) t = (λ e. inr (inr (refl, inr (omega arith))), λ p. simp (ne_eqb (suc i) 0 (λ e. omega arith)))
bad_is (suc (suc zero)) zero (suc g) i t = (λ e. inr (inr (refl, inl (omega arith))), λ p. simp (ne_eqb (suc g) 0 (λ e. omega arith)))
bad_is (suc (suc (suc k))) u g i t =
    let n = suc (suc (suc k)) in
    (λ e. inl (omega arith), λ p. simp (ne_eqb n 0 (λ e. omega arith), ne_eqb n 1 (λ e. omega arith), ne_eqb n 2 (λ e. omega arith)))

pub faulty_is : (v : ℕ) (bs : List ℕ) → (is_bad (event_of v bs) ≡ true) ↔ Faulty v bs
unfolding event_of
faulty_is v bs = bad_is (kind_in v (byte_at bs 0)) (upper_in v (byte_at bs 0)) (byte_at bs 1) (four_at bs 2) (eight_at bs 6)

module _ (v : ℕ) (t : Table) (s : sound t ≡ true) where
  -- the event that was read
  read_tested : (r : Read) → Tested (by_event [] (event_tests t) r) (by_event [] (event_cases t) r)
  read_tested (Some e) = event_tested t e s
  read_tested None = end

  line_tested : (bs : List ℕ) → Tested (line_tests v t bs) (line_cases v t bs)
  unfolding line_cases
  line_tested bs =
      (less (length bs) 14).holds
      and faulty_is v bs
      and read_tested (event_of v bs)

  -- THE ANSWER follows from these tests

  own-follows : (e : Event) → Follows (judged (event_tests t e)) (step t e).answer
  own-follows e = let own : verdict t e ≡ judged (event_tests t e) = rw s refl in subst (λ (v : Verdict). Follows v (step t e).answer) own (step_follows t e)

  read-follows : (r : Read) → Follows (judged (record { refusal = BadEvent; holds = is_bad r } ∷ by_event [] (event_tests t) r)) (answered t r).answer
  unfolding answered
  read-follows (Some e) = own-follows e
  read-follows None = refl

  line-follows : (bs : List ℕ) → Follows (judged (line_tests v t bs)) (if ltb (length bs) 14 then Refused EventCut else (answered t (event_of v bs)).answer)
  line-follows bs = go (ltb (length bs) 14)
    where
      behind : Verdict
      behind = judged (record { refusal = BadEvent; holds = is_bad (event_of v bs) } ∷ by_event [] (event_tests t) (event_of v bs))

      go : (b : Bool) → Follows (if b then refuse EventCut else behind) (if b then Refused EventCut else (answered t (event_of v bs)).answer)
      go true = refl
      go false = read-follows (event_of v bs)

-- every number of a line is above 3
read_above : (t : Table) (r : Read) → all (ltb 3) (map Case.number (by_event [] (event_cases t) r)) ≡ true
unfolding event_cases
read_above t (Some (Arrival a now)) = refl
read_above t (Some (Completion f now)) = refl
read_above t (Some (Tick now)) = refl
read_above t None = refl

line_above : (v : ℕ) (t : Table) (bs : List ℕ) → all (ltb 3) (map Case.number (line_cases v t bs)) ≡ true
unfolding line_cases
line_above v t bs = read_above t (event_of v bs)

-- A TRACE WITH A GOOD HEADER

module _ (bs : List ℕ) (good : NoneHolds (header_cases bs)) where
  opening-sound : sound (opening bs) ≡ true
  unfolding open_tests
  opening-sound =
      let o = opened bs (opened_of bs) (ap (λ (v : Verdict). header_by v bs) (header_good bs good)) in
      let ok : judged (open_tests false (depth_of bs) (guests_of bs) (capacity_of bs) (rule_of bs) (settings_in bs)) ≡ accept = rw (o.counts, o.rules, o.settings) refl in
      fresh-sound false (depth_of bs) (guests_of bs) (capacity_of bs) (rule_of bs) (settings_in bs) ok (length-tab (guests_of bs) (settings_at (version_of bs) bs))

  -- every event finds a sound table
  pub table-sound : (k : ℕ) → sound (table_at bs k) ≡ true
  table-sound k =
      let es = events_of (version_of bs) k (event_bytes bs) in
      ap sound (table-run (opening bs) es) ∙ run_sound (run es) (opening bs) opening-sound

  -- what the line of event k shows, where a byte of it is there
  pub line_exactly : (k : ℕ) → k * 14 < length (event_bytes bs)
      → RefusedExactly (line_cases (version_of bs) (table_at bs k) (bytes_at bs k)) (λ n. shown (answer_at bs k) ≡ X n) (taken (answer_at bs k) ≡ true)
  line_exactly k h =
      let v = version_of bs in
      let t = table_at bs k in
      let b = bytes_at bs k in
      let l : length b ≡ length (event_bytes bs) - k * 14 = length-drop (k * 14) (event_bytes bs) in
      let a = answer_there v (opening bs) (event_bytes bs) k (omega arith) ∙ first_answer v t b (omega arith) in
      exactly (line_tested v t (table-sound k) b)
      (subst (λ (x : Answer). Tells (judged (line_tests v t b)) (λ n. shown x ≡ X n) (taken x ≡ true)) (sym a)
      (shown-tells (judged (line_tests v t b)) (if ltb (length b) 14 then Refused EventCut else (answered t (event_of v b)).answer) (line-follows v t (table-sound k) b)))

  -- no line of an event ever shows 1, 2 or 3
  pub line-numbers : (k : ℕ) → k * 14 < length (event_bytes bs) → (n : ℕ) → shown (answer_at bs k) ≡ X n → 3 < n
  line-numbers k h n e =
      let cases = line_cases (version_of bs) (table_at bs k) (bytes_at bs k) in
      let m = listed cases n (((line_exactly k h).number n).0 e) in
      ltb-true 3 n (all-each (ltb 3) (map Case.number cases) (line_above (version_of bs) (table_at bs k) (bytes_at bs k)) n m)
