-- Each event is kept exactly where no reason fits, and else dropped for the first that does; and these plain facts admit nothing else. Assumes nothing.
use Prim.Native.Nat.{ℕ, zero, suc, ◌+◌, ◌*◌, ◌≤◌, ◌<◌}
use mathlib.Core.Path.{◌≡◌, refl, sym, ap, ◌∙◌, subst}
use mathlib.Core.Bool.{Bool, true, false, false≢true}
use mathlib.Core.List.{List, [], ◌∷◌}
use mathlib.Core.Logic.Iff
use mathlib.Core.Logic.{◌↔◌, ◌⊎◌, inl, inr, ⊎_elim}
use native.Mathlib.Omega.{arith}
use native.Mathlib.Nat.{eq-or-lt_of_le}
use lib.Dec.{ltb}
use lib.ListN.{length, drop}
use borrow.Author.Tests.{ltb-true, lt-ltb}
use Rattle.lists.specs.Words.{if◌then◌else◌}
use Rattle.lists.specs.Tab.{lt_or_le}
use Rattle.rules.specs.Numbers.{ceiling}
use Rattle.rules.specs.Refused.{Case, FirstOf, NoneHolds, RefusedExactly}
use Rattle.rules.proofs.Conditions.{less}
use Rattle.trace.specs.Header.{version_of}
use Rattle.trace.specs.Event.{event_of}
use Rattle.trace.specs.Answers.{event_bytes, bytes_at}
use Rattle.trace.proofs.LineExactly.{faulty_is}
use Rattle.moved.specs.Moves.{is_bad}
use Rattle.salvage.specs.Fates.{farthest, from_last, reason_in, after, last_at, fate_at, Fate, Last, reason_number}
use Rattle.salvage.specs.Cases.{events_in, reason_at, time_at, LastKept, drop_cases, Rightly, Clean}
use Rattle.salvage.proofs.Fields.{fate_is, reason_some, kept_time}
use Rattle.std.specs.Prelude.{Ok, Err, Some, None}
use Rattle.salvage.specs.declared.Reason.{Reason}
use Rattle.salvage.specs.declared.Reason.TheVariants.{Bad, Above, Behind, Ahead, Cut}

-- REASONS AND CASES

-- the fate gives the reason n, or none
abbrev Gives : Fate → ℕ → Type 0
Gives (Ok t) n = ⊥
Gives (Err r) n = reason_number r ≡ n

abbrev IsKept : Fate → Type 0
IsKept (Ok t) = Unit {0}
IsKept (Err r) = ⊥

-- it gives the number of the first case whose condition holds
record Says (f : Fate) (ks : List Case) : Type 0 where
  number : (n : ℕ) → Gives f n ↔ FirstOf n ks
  kept : IsKept f ↔ NoneHolds ks

says_end : (t : ℕ) → Says (Ok t) []
says_end t = record { number = λ n. Iff.rfl; kept = Iff.rfl }

-- one reason more in front
says_more : {P : Type 0} {f : Fate} {ks : List Case} (b : Bool) (x : Reason) → (b ≡ true) ↔ P → Says f ks
    → Says (if b then Err x else f) (record { number = reason_number x; condition = P } ∷ ks)
says_more true x h s =
    record {
      number = λ n. (λ e. inl (e, h.0 refl), λ p. ⊎_elim (λ q. q.0) (λ q. absurd (q.0 (h.0 refl))) p);
      kept = (λ e. absurd e, λ p. absurd (p.0 (h.0 refl)));
    }
says_more false x h s =
    record {
      number = λ n. (λ g. inr (λ p. false≢true (h.1 p), (s.number n).0 g), λ p. ⊎_elim (λ q. absurd (false≢true (h.1 q.1))) (λ q. (s.number n).1 q.1) p);
      kept = (λ e. (λ p. false≢true (h.1 p), s.kept.0 e), λ p. s.kept.1 p.1);
    }

-- a condition that does not hold
never : {P : Type 0} → (P → ⊥) → (false ≡ true) ↔ P
never n = (λ e. absurd (false≢true e), λ p. absurd (n p))

-- what it says in numbers
says_exactly : (f : Fate) (ks : List Case) → Says f ks → RefusedExactly ks (λ n. (0 < n) × (reason_in f ≡ n)) (reason_in f ≡ 0)
says_exactly (Ok t) ks s =
    record {
      number = λ n. (λ p. absurd (omega (arith, p.0, p.1)), λ p. absurd ((s.number n).1 p));
      no_number = (λ e. s.kept.0 tt, λ p. refl);
    }
says_exactly (Err r) ks s =
    record {
      number = λ n. (λ p. (s.number n).0 p.1, λ p. let e = (s.number n).1 p in (omega (arith, e, reason_some r), e));
      no_number = (λ e. absurd (omega (arith, reason_some r)), λ p. absurd (s.kept.1 p));
    }

-- THE LAST KEPT of a trace

module _ (bs : List ℕ) where
  abbrev v : ℕ
  v = version_of bs

  abbrev eb : List ℕ
  eb = event_bytes bs

  -- what it is before event k: none of them is kept, or the last that is has this time
  abbrev Recent : Last → ℕ → Type 0
  Recent None k = (i : ℕ) → i < k → reason_at bs i ≡ 0 → ⊥
  Recent (Some u) k = (j : ℕ) × LastKept (reason_at bs) j k × (time_at bs j ≡ u)

  -- one event more that is dropped
  recent_more : (l : Last) (k : ℕ) → (reason_at bs k ≡ 0 → ⊥) → Recent l k → Recent l (suc k)
  recent_more None k h never = λ i l e. ⊎_elim (λ p. h (subst (λ (n : ℕ). reason_at bs n ≡ 0) p e)) (λ p. never i p e) (eq-or-lt_of_le (below i k l))
    where
      below : (i k : ℕ) → i < suc k → i ≤ k
      below i k h = omega arith
  recent_more (Some u) k h (j, r, e) =
      (j, record { before = omega (arith, r.before); kept = r.kept; none-since = λ i a b e. ⊎_elim (λ p. h (subst (λ (n : ℕ). reason_at bs n ≡ 0) p e)) (λ p. r.none-since i a p e) (eq-or-lt_of_le (below i k b)) }, e)
    where
      below : (i k : ℕ) → i < suc k → i ≤ k
      below i k h = omega arith

  recent : (k : ℕ) → Recent (last_at v eb k) k
  unfolding last_at
  recent zero = λ i l e. omega arith
  recent (suc k) = go (recent k) (fate_at v eb k) refl
    where
      go : Recent (last_at v eb k) k → (f : Fate) → fate_at v eb k ≡ f → Recent (after (last_at v eb k) f) (suc k)
      go r (Ok t) e = (k, record { before = omega arith; kept = ap reason_in e; none-since = λ i a b z. omega arith }, kept_time v (last_at v eb k) (drop (k * 14) eb) t e)
      go r (Err n) e = recent_more (last_at v eb k) k (λ z. let w : reason_number n ≡ 0 = sym (ap reason_in e) ∙ z in omega (arith, reason_some n)) r

  -- there is one at the most
  last_once : (why : ℕ → ℕ) (i j k : ℕ) → LastKept why i k → LastKept why j k → i ≡ j
  last_once why i j k a b = go (lt_or_le i j) (lt_or_le j i)
    where
      go : (i < j) ⊎ (j ≤ i) → (j < i) ⊎ (i ≤ j) → i ≡ j
      go (inl p) q = absurd (a.none-since j p b.before b.kept)
      go (inr p) (inl q) = absurd (b.none-since i q a.before a.kept)
      go (inr p) (inr q) = omega arith

  -- THE TWO REASONS beside the last kept
  last_says : (l : Last) (k : ℕ) → Recent l k
      → Says (from_last l (time_at bs k))
      (record { number = 3; condition = (j : ℕ) × LastKept (reason_at bs) j k × (time_at bs k < time_at bs j) }
      ∷ record { number = 4; condition = (j : ℕ) × LastKept (reason_at bs) j k × (time_at bs j + farthest < time_at bs k) }
      ∷ [])
  last_says None k r =
      says_more false Behind (never (λ p. r p.0 p.1.before p.1.kept))
      (says_more false Ahead (never (λ p. r p.0 p.1.before p.1.kept)) (says_end (time_at bs k)))
  last_says (Some u) k (j, r, e) =
      let t = time_at bs k in
      let same : (i : ℕ) → LastKept (reason_at bs) i k → time_at bs i ≡ u = λ i h. ap (time_at bs) (last_once (reason_at bs) i j k h r) ∙ e in
      says_more (ltb t u) Behind
      (λ h. (j, r, omega (arith, ltb-true t u h)), λ p. lt-ltb t u (omega (arith, p.2, same p.0 p.1)))
      (says_more (ltb (u + farthest) t) Ahead
      (λ h. (j, r, omega (arith, ltb-true (u + farthest) t h)), λ p. lt-ltb (u + farthest) t (omega (arith, p.2, same p.0 p.1)))
      (says_end t))

  -- ALL REASONS
  fate_says : (k : ℕ) → Says (fate_at v eb k) (drop_cases (reason_at bs) bs k)
  unfolding drop_cases
  fate_says k =
      subst (λ (f : Fate). Says f (drop_cases (reason_at bs) bs k)) (sym (fate_is v (last_at v eb k) (drop (k * 14) eb)))
      (says_more (ltb (length (bytes_at bs k)) 14) Cut (less (length (bytes_at bs k)) 14).holds
      (says_more (is_bad (event_of v (bytes_at bs k))) Bad (faulty_is v (bytes_at bs k))
      (says_more (ltb ceiling (time_at bs k)) Above (less ceiling (time_at bs k)).holds (last_says (last_at v eb k) k (recent k)))))

  -- each event is kept exactly where no reason fits, else dropped for the first that does
  pub rightly : Rightly (reason_at bs) bs
  rightly k h = says_exactly (fate_at v eb k) (drop_cases (reason_at bs) bs k) (fate_says k)

-- NOTHING ELSE IS RIGHT

-- two lists of cases of the same numbers, with conditions that say the same
data Alike : List Case → List Case → Type 1 where
  end : Alike [] []
  more : {n : ℕ} {P Q : Type 0} {ks ls : List Case} → P ↔ Q → Alike ks ls → Alike (record { number = n; condition = P } ∷ ks) (record { number = n; condition = Q } ∷ ls)

first_alike : {ks ls : List Case} (n : ℕ) → Alike ks ls → FirstOf n ks → FirstOf n ls
first_alike n end p = p
first_alike n (more e a) p = ⊎_elim (λ q. inl (q.0, e.0 q.1)) (λ q. inr (λ x. q.0 (e.1 x), first_alike n a q.1)) p

none_alike : {ks ls : List Case} → Alike ks ls → NoneHolds ks → NoneHolds ls
none_alike end p = p
none_alike (more e a) p = (λ x. p.0 (e.1 x), none_alike a p.1)

-- judgements that agree before event k have the same last kept there
last_alike : (a b : ℕ → ℕ) (k : ℕ) → ((i : ℕ) → i < k → a i ≡ b i) → (j : ℕ) → LastKept a j k → LastKept b j k
last_alike a b k same j r =
    record {
      before = r.before;
      kept = sym (same j r.before) ∙ r.kept;
      none-since = λ i p q e. r.none-since i p q (same i q ∙ e);
    }

module _ (bs : List ℕ) (a b : ℕ → ℕ) (k : ℕ) (same : (i : ℕ) → i < k → a i ≡ b i) where
  of_last : (P : ℕ → Type 0) → ((j : ℕ) × LastKept a j k × P j) ↔ ((j : ℕ) × LastKept b j k × P j)
  of_last P = (λ p. (p.0, last_alike a b k same p.0 p.1, p.2), λ p. (p.0, last_alike b a k (λ i h. sym (same i h)) p.0 p.1, p.2))

  cases_alike : Alike (drop_cases a bs k) (drop_cases b bs k)
  unfolding drop_cases
  cases_alike =
      more Iff.rfl
      (more Iff.rfl
      (more Iff.rfl
      (more (of_last (λ j. time_at bs k < time_at bs j))
      (more (of_last (λ j. time_at bs j + farthest < time_at bs k)) end))))

-- two judgements that are right of every event are the same
module _ (bs : List ℕ) (a b : ℕ → ℕ) (p : Rightly a bs) (q : Rightly b bs) where
  same_here : (k : ℕ) → k < events_in bs → ((i : ℕ) → i < k → a i ≡ b i) → a k ≡ b k
  same_here k h same = go (a k) refl
    where
      go : (n : ℕ) → a k ≡ n → a k ≡ b k
      go zero e = e ∙ sym ((q k h).no_number.1 (none_alike (cases_alike bs a b k same) ((p k h).no_number.0 e)))
      go (suc n) e = e ∙ sym (((q k h).number (suc n)).1 (first_alike (suc n) (cases_alike bs a b k same) (((p k h).number (suc n)).0 (omega arith, e)))).1

  same-below : (k : ℕ) → k ≤ events_in bs → (i : ℕ) → i < k → a i ≡ b i
  same-below zero h i l = absurd (omega arith)
  same-below (suc k) h i l =
      ⊎_elim (λ e. subst (λ (j : ℕ). a j ≡ b j) (sym e) (same_here k (omega arith) (same-below k (omega arith)))) (λ m. same-below k (omega arith) i m) (eq-or-lt_of_le (below i k l))
    where
      below : (i k : ℕ) → i < suc k → i ≤ k
      below i k h = omega arith

  pub rightly_once : (k : ℕ) → k < events_in bs → a k ≡ b k
  rightly_once k h = same-below (events_in bs) (omega arith) k h

-- WHERE NO EVENT MEETS A REASON, each is kept

none_first : (ks : List Case) (n : ℕ) → NoneHolds ks → FirstOf n ks → ⊥
none_first [] n h p = p
none_first (c ∷ ks) n h p = ⊎_elim (λ q. h.0 q.1) (λ q. none_first ks n h.1 q.1) p

pub clean_kept : (bs : List ℕ) → Clean bs → (k : ℕ) → k < events_in bs → reason_at bs k ≡ 0
clean_kept bs c k h = rightly_once bs (reason_at bs) (λ i. 0) (rightly bs) right k h
  where
    right : Rightly (λ i. 0) bs
    right j l =
        record {
          number = λ n. (λ p. absurd (omega (arith, p.0, p.1)), λ p. absurd (none_first (drop_cases (λ i. 0) bs j) n (c j l) p));
          no_number = (λ e. c j l, λ p. refl);
        }
