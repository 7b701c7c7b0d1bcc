-- Each number of a move is given exactly where its condition holds and none before it does, and the event that is named with it is the first of its kind.
-- Assumes nothing.
use Prim.Native.Nat.{ℕ, zero, suc, ◌+◌, ◌*◌, ◌<◌}
use mathlib.Core.Path.{◌≡◌, refl, sym, ap, ◌∙◌, subst}
use mathlib.Core.Bool.{Bool, true, false, not, false≢true, true≢false}
use mathlib.Core.List.{List, ◌++◌}
use mathlib.Core.Logic.{◌↔◌}
use native.Mathlib.Omega.{arith}
use lib.Dec.{eqb, ltb}
use lib.ListN.{length, get_or, drop}
use lib.Seq.{drop-drop}
use borrow.Author.Tests.{eqb-true, eq-eqb, ne_eqb, ltb-true, ltb-false}
use Rattle.lists.specs.Words.{if◌then◌else◌, all}
use Rattle.lists.specs.WordsLaws.{both, join, all-each, each_all}
use Rattle.rules.specs.Refusals.{Test, Verdict, accept, refuse, judged}
use Rattle.rules.specs.Refused.{Case, RefusedExactly}
use Rattle.rules.proofs.Judged.{Tested, end, unless, ◌and◌}
use Rattle.rules.proofs.Conditions.{less, negated, means}
use Rattle.rules.proofs.Refused.{exactly, Numbers, number_tells}
use Rattle.trace.specs.Little.{byte_at, four_at, eight_at}
use Rattle.trace.specs.Header.{version_of, rule_of, settings_in}
use Rattle.trace.specs.Event.{kind_in, upper_in, event_from, event_of, events_of, whole, Read}
use Rattle.trace.specs.Answers.{event_bytes, bytes_at}
use Rattle.trace.specs.Cases.{Faulty}
use Rattle.trace.proofs.HeaderExactly.{header_tested}
use Rattle.trace.proofs.LineExactly.{faulty_is}
use Rattle.moved.specs.Result.{moved_to}
use Rattle.moved.specs.Moves.{is_bad, is_dear, first_that, bad_in, dear_in, cut_in, creditless, plainly_set, plain, body_tests, move_tests, moved_shown, answer_by, answer_to}
use Rattle.moved.specs.Cases.{Dear, Sayable, body_cases, move_cases, FirstEvent}
use Rattle.moved.proofs.First.{none-tells, none_told}

-- TESTS BEHIND TESTS

pub behind : {cs ds : List Test} {ks ls : List Case} → Tested cs ks → Tested ds ls → Tested (cs ++ ds) (ks ++ ls)
behind end t = t
behind (unless h k) t = unless h (λ e. behind (k e) t)

-- AN ARRIVAL OF ANOTHER COST

dear_from : (k u g i t : ℕ) → (is_dear (event_from k u g i t) ≡ true) ↔ ((k ≡ 0) × (0 < u))
unfolding event_from
dear_from zero zero g i t = (λ e. absurd (false≢true e), λ p. absurd (omega (arith, p.1)))
dear_from zero (suc u) g i t = (λ e. (refl, omega arith), λ p. ap not (ne_eqb (suc u + 1) 1 (λ z. omega arith)))
dear_from (suc zero) zero g i t = (λ e. absurd (false≢true e), λ p. absurd (omega (arith, p.0)))
dear_from (suc zero) (suc u) g i t = (λ e. absurd (false≢true (simp (ne_eqb (suc u) 0 (λ z. omega arith)) at e)), λ p. absurd (omega (arith, p.0)))
dear_from (suc (suc zero)) zero zero zero t = (λ e. absurd (false≢true e), λ p. absurd (omega (arith, p.0)))
dear_from (suc (suc zero)) zero zero (suc i) t = (λ e. absurd (false≢true (simp (ne_eqb (suc i) 0 (λ z. omega arith)) at e)), λ p. absurd (omega (arith, p.0)))
dear_from (suc (suc zero)) zero (suc g) i t = (λ e. absurd (false≢true (simp (ne_eqb (suc g) 0 (λ z. omega arith)) at e)), λ p. absurd (omega (arith, p.0)))
dear_from (suc (suc zero)) (suc u) g i t = (λ e. absurd (false≢true (simp (ne_eqb (suc u) 0 (λ z. omega arith)) at e)), λ p. absurd (omega (arith, p.0)))
dear_from (suc (suc (suc k))) u g i t =
    let n = suc (suc (suc k)) in
    (λ e. absurd (false≢true (simp (ne_eqb n 0 (λ z. omega arith), ne_eqb n 1 (λ z. omega arith), ne_eqb n 2 (λ z. omega arith)) at e)), λ p. absurd (omega (arith, p.0)))

dear_is : (v : ℕ) (bs : List ℕ) → (is_dear (event_of v bs) ≡ true) ↔ Dear v bs
unfolding event_of
dear_is v bs = dear_from (kind_in v (byte_at bs 0)) (upper_in v (byte_at bs 0)) (byte_at bs 1) (four_at bs 2) (eight_at bs 6)

-- THE FIRST EVENT of which a test tells

module _ (f : Read → Bool) (P : List ℕ → Type 0) (v : ℕ) (is : (bs : List ℕ) → (f (event_of v bs) ≡ true) ↔ P bs) where
  -- where a test tells of none, P is so of none
  none_so : (n : ℕ) (bs : List ℕ) → first_that f 0 (events_of v n bs) ≡ 0 → (k : ℕ) → k < n → P (drop (k * 14) bs) → ⊥
  none_so n bs z k h p = true≢false (sym ((is (drop (k * 14) bs)).1 p) ∙ none-tells f v n bs z k h)

  so_none : (n : ℕ) (bs : List ℕ) → ((k : ℕ) → k < n → P (drop (k * 14) bs) → ⊥) → first_that f 0 (events_of v n bs) ≡ 0
  so_none n bs h = none_told f v n bs (λ k l. go (f (event_of v (drop (k * 14) bs))) refl (λ e. h k l ((is (drop (k * 14) bs)).0 e)))
    where
      go : (b : Bool) {x : Bool} → x ≡ b → (x ≡ true → ⊥) → x ≡ false
      go true e never = absurd (never e)
      go false e never = e

  -- else it is the first
  found : (m n : ℕ) (bs : List ℕ) → 0 < first_that f m (events_of v n bs)
      → (k : ℕ) × (first_that f m (events_of v n bs) ≡ m + k + 1) × (k < n) × P (drop (k * 14) bs) × ((j : ℕ) → j < k → P (drop (j * 14) bs) → ⊥)
  unfolding first_that events_of
  found m zero bs h = absurd (omega arith)
  found m (suc n) bs h = go (f (event_of v bs)) refl (found (m + 1) n (drop 14 bs))
    where
      there : ℕ → ℕ
      there x = first_that f x (events_of v n (drop 14 bs))

      moved : (k : ℕ) → drop (k * 14) (drop 14 bs) ≡ drop (suc k * 14) bs
      moved k = let p : 14 + k * 14 ≡ suc k * 14 = omega arith in drop-drop (k * 14) 14 bs ∙ ap (λ (j : ℕ). drop j bs) p

      go : (b : Bool) → f (event_of v bs) ≡ b
          → (0 < there (m + 1) → (k : ℕ) × (there (m + 1) ≡ m + 1 + k + 1) × (k < n) × P (drop (k * 14) (drop 14 bs)) × ((j : ℕ) → j < k → P (drop (j * 14) (drop 14 bs)) → ⊥))
          → (k : ℕ) × ((if f (event_of v bs) then m + 1 else there (m + 1)) ≡ m + k + 1) × (k < suc n) × P (drop (k * 14) bs) × ((j : ℕ) → j < k → P (drop (j * 14) bs) → ⊥)
      go true e later = (0, rw e (omega arith), omega arith, (is bs).0 e, λ j l p. omega arith)
      go false e later =
          let some : 0 < there (m + 1) = rw e at h in
          let r = later some in (
            suc r.0,
            rw e (r.1 ∙ (let z : m + 1 + r.0 + 1 ≡ m + suc r.0 + 1 = omega arith in z)),
            omega (arith, r.2),
            subst P (moved r.0) r.3,
            λ j l p. earlier r.0 r.4 e j l p,
          )
        where
          earlier : (k : ℕ) → ((j : ℕ) → j < k → P (drop (j * 14) (drop 14 bs)) → ⊥) → f (event_of v bs) ≡ false → (j : ℕ) → j < suc k → P (drop (j * 14) bs) → ⊥
          earlier k never e zero l p = true≢false (sym ((is bs).1 p) ∙ e)
          earlier k never e (suc j) l p = never j (omega arith) (subst P (sym (moved j)) p)

  first_event : (n : ℕ) (bs : List ℕ) → 0 < first_that f 0 (events_of v n bs) → FirstEvent (λ k. P (drop (k * 14) bs)) n (first_that f 0 (events_of v n bs))
  first_event n bs h =
      let r = found 0 n bs h in
      let e : first_that f 0 (events_of v n bs) ≡ r.0 + 1 = omega (arith, r.1) in
      record { place = r.0; numbered = e; there = r.2; so = r.3; none_before = r.4 }

-- THE EVENTS OF A TRACE

module _ (bs : List ℕ) where
  abbrev v : ℕ
  v = version_of bs

  abbrev eb : List ℕ
  eb = event_bytes bs

  -- 14 names the first bad event
  pub bad_event : 0 < bad_in bs → FirstEvent (λ k. Faulty v (bytes_at bs k)) (whole eb) (bad_in bs)
  bad_event h = first_event is_bad (Faulty v) v (faulty_is v) (whole eb) eb h

  -- 19 for a cost names the first arrival of another cost
  pub dear_event : 0 < dear_in bs → FirstEvent (λ k. Dear v (bytes_at bs k)) (whole eb) (dear_in bs)
  dear_event h = first_event is_dear (Dear v) v (dear_is v) (whole eb) eb h

  -- one is bad exactly where 14 is given
  bad_means : (ltb 0 (bad_in bs) ≡ true) ↔ ((k : ℕ) × (k < whole eb) × Faulty v (bytes_at bs k))
  bad_means = (
    λ e. let r = bad_event (ltb-true 0 (bad_in bs) e) in (r.place, r.there, r.so),
    λ p. go (ltb 0 (bad_in bs)) refl p,
  )
    where
      go : (b : Bool) → ltb 0 (bad_in bs) ≡ b → ((k : ℕ) × (k < whole eb) × Faulty v (bytes_at bs k)) → ltb 0 (bad_in bs) ≡ true
      go true e p = e
      go false e p =
          let z : bad_in bs ≡ 0 = omega (arith, ltb-false 0 (bad_in bs) e) in
          absurd (none_so is_bad (Faulty v) v (faulty_is v) (whole eb) eb z p.0 p.1 p.2)

  -- what version 1 can say
  plain_means : (plain bs ≡ true) ↔ Sayable bs
  plain_means = (to, back)
    where
      to : plain bs ≡ true → Sayable bs
      to e =
          let p = both (plainly_set bs) (eqb (dear_in bs) 0) e in
          let q = both (eqb (rule_of bs) 1) (all creditless (settings_in bs)) p.0 in
          record {
            rule = eqb-true (rule_of bs) 1 q.0;
            credits = λ s m. eqb-true s.credit 0 (all-each creditless (settings_in bs) q.1 s m);
            costs = none_so is_dear (Dear v) v (dear_is v) (whole eb) eb (eqb-true (dear_in bs) 0 p.1);
          }

      back : Sayable bs → plain bs ≡ true
      back s =
          join (join (eq-eqb (rule_of bs) 1 s.rule) (each_all creditless (settings_in bs) (λ x m. eq-eqb x.credit 0 (s.credits x m))))
          (eq-eqb (dear_in bs) 0 (so_none is_dear (Dear v) v (dear_is v) (whole eb) eb s.costs))

  pub move_tested : (from to : ℕ) (room : ℕ) → Tested (move_tests from to bs room) (move_cases from to bs room)
  unfolding body_tests body_cases
  move_tested from to room =
      behind (header_tested from from bs)
      (bad_means
      and (less 0 (cut_in bs)).holds
      and (negated (means plain_means)).holds
      and (less room (length (moved_to to bs))).holds
      and end)

-- THE NUMBERS of a move

-- the number of its refusal, 0 where it has none
abbrev pub refusal_in : List ℕ → ℕ
refusal_in l = get_or l 0 0

-- the number is the verdict's
move_number : (v : Verdict) (to : ℕ) (bs : List ℕ) → Numbers v (refusal_in (moved_shown (answer_by v to bs)))
move_number accept to bs = refl
move_number (refuse r) to bs = refl

-- a refusal number is given exactly where its condition holds and none before it does; a move is accepted exactly where none holds
pub move_exactly : (from to : ℕ) (bs : List ℕ) (room : ℕ)
    → RefusedExactly (move_cases from to bs room) (λ n. (0 < n) × (refusal_in (moved_shown (answer_to from to bs room)) ≡ n)) (refusal_in (moved_shown (answer_to from to bs room)) ≡ 0)
move_exactly from to bs room =
    exactly (move_tested bs from to room) (number_tells (judged (move_tests from to bs room)) _ (move_number (judged (move_tests from to bs room)) to bs))
