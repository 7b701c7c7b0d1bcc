-- What each condition of a refusal says in plain facts, where it holds and where it does not. Assumes nothing.
use mathlib.Core.Path.{◌≡◌, refl, sym, ap, ◌∙◌}
use mathlib.Core.Bool.{Bool, true, false, not, ◌&&◌, ◌||◌, true≢false, false≢true, or-true}
use mathlib.Core.List.Memᴰ
use mathlib.Core.List.{List, Memᴰ}
use mathlib.Core.Logic.{◌↔◌, ◌⊎◌, inl, inr, ⊎_elim}
use Prim.Native.Nat.{ℕ, ◌+◌, ◌-◌, ◌≤◌, ◌<◌}
use lib.Dec.{ltb, leb, eqb}
use borrow.Author.Tests.{ltb-true, ltb-false, lt-ltb, le-ltb, leb-true, leb-false, le-leb, lt-leb, eqb-true, eqb-false, eq-eqb, ne_eqb, not-true, not-false}
use Rattle.lists.specs.Words.{all}
use Rattle.lists.specs.WordsLaws.{both, join, either_fails, left_fails, right_fails, all_of_map, all-each, each_all, all_but, but_all}
use Rattle.rules.specs.Numbers.{ceiling, most_credit, most_cost, most_delta, within}
use Rattle.rules.specs.Tables.{Settings, Request, Flight, Table, limited, same, lacks}
use Rattle.rules.specs.Sound.{counted, settled, ruled, lawful, fair, spread}
use Rattle.rules.specs.Events.{Arriving, smallest, shifted, adjusted, stamped_for}
use Rattle.rules.specs.Refusals.{passing}
use Rattle.rules.specs.Refused.{Above, Passing, given, moved, Countable, Ruled, Good, Fair, Spread}

-- what it says that a condition holds, and that it does not
pub record Means (b : Bool) (Holds Fails : Type 0) : Type 0 where
  pub holds : (b ≡ true) ↔ Holds
  pub fails : (b ≡ false) ↔ Fails

pub negated : {b : Bool} {P Q : Type 0} → Means b P Q → Means (not b) Q P
negated {b} m =
    record {
      holds = (λ e. m.fails.0 (not-true b e), λ q. ap not (m.fails.1 q));
      fails = (λ e. m.holds.0 (not-false b e), λ p. ap not (m.holds.1 p));
    }

-- a condition of which it is known what it says where it holds, or where it does not
pub means : {b : Bool} {P : Type 0} → (b ≡ true) ↔ P → Means b P (P → ⊥)
means {b = true} h = record { holds = h; fails = (λ e. absurd (true≢false e), λ n. absurd (n (h.0 refl))) }
means {b = false} h = record { holds = h; fails = (λ e p. false≢true (h.1 p), λ n. refl) }

means_not : {b : Bool} {P : Type 0} → (b ≡ false) ↔ P → Means b (P → ⊥) P
means_not {b = true} h = record { holds = (λ e p. true≢false (h.1 p), λ n. refl); fails = h }
means_not {b = false} h = record { holds = (λ e. absurd (false≢true e), λ n. absurd (n (h.0 refl))); fails = h }

-- both of two conditions hold
pub both_mean : {a b : Bool} {P Q : Type 0} → (a ≡ true) ↔ P → (b ≡ true) ↔ Q → (a && b ≡ true) ↔ (P × Q)
both_mean {a} {b} f g = (λ h. (f.0 (both a b h).0, g.0 (both a b h).1), λ p. join (f.1 p.0) (g.1 p.1))

-- one of two holds
pub either_means : {a b : Bool} {P Q : Type 0} → (a ≡ true) ↔ P → (b ≡ true) ↔ Q → (a || b ≡ true) ↔ (P ⊎ Q)
either_means {a = true} f g = (λ e. inl (f.0 refl), λ p. refl)
either_means {a = false} f g = (λ e. inr (g.0 e), λ p. ⊎_elim (λ q. absurd (false≢true (f.1 q))) (λ q. g.1 q) p)

-- NUMBERS

pub at_most : (a b : ℕ) → Means (leb a b) (a ≤ b) (b < a)
at_most a b = record { holds = (leb-true a b, le-leb a b); fails = (leb-false a b, lt-leb a b) }

pub less : (a b : ℕ) → Means (ltb a b) (a < b) (b ≤ a)
less a b = record { holds = (ltb-true a b, lt-ltb a b); fails = (ltb-false a b, le-ltb a b) }

pub equal : (a b : ℕ) → Means (eqb a b) (a ≡ b) (a ≡ b → ⊥)
equal a b = record { holds = (eqb-true a b, eq-eqb a b); fails = (eqb-false a b, ne_eqb a b) }

-- NAMES

pub same_is : (a b : Flight) → same a b ≡ true → a ≡ b
same_is a b h =
    let p = both (eqb a.guest b.guest) (eqb a.id b.id) h in
    λ i. record { guest = eqb-true a.guest b.guest p.0 i; id = eqb-true a.id b.id p.1 i }

-- and equal names have the same guest and id
pub is_same : (a b : Flight) → a ≡ b → same a b ≡ true
is_same a b e = join (eq-eqb a.guest b.guest (ap Flight.guest e)) (eq-eqb a.id b.id (ap Flight.id e))

-- no entry of a list has a name, or one has it
pub lacking : (a : Flight) (l : List Flight) → Means (lacks a l) (Memᴰ a l → ⊥) (Memᴰ a l)
lacking a l = means_not (to, λ m. but_all other l a m (ap not (is_same a a refl)))
  where
    other : Flight → Bool
    other b = not (same a b)

    to : lacks a l ≡ false → Memᴰ a l
    to e = let (b, m, o) = all_but other l e in Memᴰ.cast (same_is a b (not-false (same a b) o)) m

-- TAGS

unlawful : (q : Request) → lawful q ≡ false → Above q
unfolding lawful
unlawful q h =
    ⊎_elim
    (λ e. ⊎_elim (λ r. inl (leb-false q.rtag ceiling r)) (λ l. inr (inl (leb-false q.ltag ceiling l))) (either_fails (leb q.rtag ceiling) (leb q.ltag ceiling) e))
    (λ s. inr (inr (leb-false q.stag ceiling s)))
    (either_fails (leb q.rtag ceiling && leb q.ltag ceiling) (leb q.stag ceiling) h)

above : (q : Request) → Above q → lawful q ≡ false
unfolding lawful
above q (inl r) = left_fails (leb q.stag ceiling) (left_fails (leb q.ltag ceiling) (lt-leb q.rtag ceiling r))
above q (inr (inl l)) = left_fails (leb q.stag ceiling) (right_fails (leb q.rtag ceiling) (lt-leb q.ltag ceiling l))
above q (inr (inr s)) = right_fails (leb q.rtag ceiling && leb q.ltag ceiling) (lt-leb q.stag ceiling s)

-- of requests whose own tags are lawful, one that is moved passes the ceiling by its share tag alone
moved_above : (now m : ℕ) (q : Request) → lawful q ≡ true → Above (shifted now m q) → ceiling < q.stag + now - m
unfolding shifted
moved_above now m q h (inl r) = absurd (true≢false (sym h ∙ above q (inl r)))
moved_above now m q h (inr (inl l)) = absurd (true≢false (sym h ∙ above q (inr (inl l))))
moved_above now m q h (inr (inr s)) = s

-- where the waiting tags are lawful, the test says just that
pub passing_means : (idle : Bool) (now : ℕ) (a : Arriving) (t : Table) → all lawful t.waiting ≡ true → Means (passing idle now a t) (Passing idle now a t) (Passing idle now a t → ⊥)
unfolding adjusted shifted
passing_means idle now a t fine = means (to idle, back idle)
  where
    fits : Request → Bool
    fits q = lawful (shifted now (smallest t) q)

    shift : (b : Bool) → all lawful (adjusted b now t).waiting ≡ false → Passing b now a t
    shift false w = absurd (true≢false (sym fine ∙ w))
    shift true w =
        let (q, m, u) = all_but fits t.waiting (sym (all_of_map lawful (shifted now (smallest t)) t.waiting) ∙ w) in
        moved refl q m (moved_above now (smallest t) q (all-each lawful t.waiting fine q m) (unlawful (shifted now (smallest t) q) u))

    to : (b : Bool) → passing b now a t ≡ true → Passing b now a t
    to b e =
        let w : Bool = all lawful (adjusted b now t).waiting in
        let s : Bool = lawful (stamped_for b now a t) in
        ⊎_elim (shift b) (λ u. given (unlawful (stamped_for b now a t) u)) (either_fails w s (not-true (w && s) e))

    back : (b : Bool) → Passing b now a t → passing b now a t ≡ true
    back b (given u) = ap not (right_fails (all lawful (adjusted b now t).waiting) (above (stamped_for b now a t) u))
    back false (moved i q m u) = absurd (false≢true i)
    back true (moved i q m u) =
        ap not
        (left_fails (lawful (stamped_for true now a t))
        (all_of_map lawful (shifted now (smallest t)) t.waiting ∙ but_all fits t.waiting q m (above (shifted now (smallest t) q) (inr (inr u)))))

-- SETTINGS

-- a number in a range
pub within_means : (a b n : ℕ) → (within a b n ≡ true) ↔ ((a ≤ n) × (n ≤ b))
within_means a b n = both_mean (at_most a n).holds (at_most n b).holds

-- depth, guests and capacity in their ranges
pub counted_means : (d n c : ℕ) → Means (counted d n c) (Countable d n c) (Countable d n c → ⊥)
unfolding counted
counted_means d n c = means (to, λ k. join (join ((within_means 1 64 d).1 k.depths) ((within_means 1 64 n).1 k.guest-count)) ((within_means 1 1024 c).1 k.capacities))
  where
    to : within 1 64 d && within 1 64 n && within 1 1024 c ≡ true → Countable d n c
    to h =
        let p = both (within 1 64 d && within 1 64 n) (within 1 1024 c) h in
        let q = both (within 1 64 d) (within 1 64 n) p.0 in
        record { depths = (within_means 1 64 d).0 q.0; guest-count = (within_means 1 64 n).0 q.1; capacities = (within_means 1 1024 c).0 p.1 }

-- a rule that there is
pub ruled_means : (r : ℕ) → Means (ruled r) (Ruled r) (Ruled r → ⊥)
unfolding ruled
ruled_means r = means (to (eqb r 1) refl, back)
  where
    to : (b : Bool) → eqb r 1 ≡ b → b || eqb r 2 ≡ true → Ruled r
    to true e h = inl (eqb-true r 1 e)
    to false e h = inr (eqb-true r 2 h)

    back : Ruled r → eqb r 1 || eqb r 2 ≡ true
    back (inl e) = rw (eq-eqb r 1 e)
    back (inr e) = rw (eq-eqb r 2 e, or-true (eqb r 1))

-- a cost that there is
pub fair_means : (c : ℕ) → Means (fair c) (Fair c) (Fair c → ⊥)
unfolding fair
fair_means c = means (within_means 1 most_cost c)

-- a delta and a rho that there are
pub spread_means : (d r : ℕ) → Means (spread d r) (Spread d r) (Spread d r → ⊥)
unfolding spread
spread_means d r = means (to, λ k. join ((within_means 1 most_delta d).1 (k.0, k.1)) (le-leb r d k.2))
  where
    to : within 1 most_delta d && leb r d ≡ true → Spread d r
    to h = let p = both (within 1 most_delta d) (leb r d) h in let w = (within_means 1 most_delta d).0 p.0 in (w.0, w.1, leb-true r d p.1)

-- one guest's settings in their ranges
pub settled-good : (s : Settings) → (settled s ≡ true) ↔ Good s
unfolding settled
settled-good s = (to, back)
  where
    r : Bool
    r = leb s.reservation 1000000

    l : Bool
    l = leb s.limit 1000000

    w : Bool
    w = within 1 1000000 s.shares

    c : Bool
    c = leb s.credit most_credit

    a : Bool
    a = not (limited s) || leb s.reservation s.limit

    to : r && l && w && c && a ≡ true → Good s
    to h =
        let p = both (r && l && w && c) a h in
        let m = both (r && l && w) c p.0 in
        let q = both (r && l) w m.0 in
        let o = both r l q.0 in
        record {
          reservations = leb-true s.reservation 1000000 o.0;
          limits = leb-true s.limit 1000000 o.1;
          share_count = (within_means 1 1000000 s.shares).0 q.1;
          credits = leb-true s.credit most_credit m.1;
          not_above = λ k. leb-true s.reservation s.limit (rw (lt-ltb 0 s.limit k) at p.1);
        }

    beside : Good s → (b : Bool) → limited s ≡ b → not b || leb s.reservation s.limit ≡ true
    beside g true e = le-leb s.reservation s.limit (g.not_above (ltb-true 0 s.limit e))
    beside g false e = refl

    back : Good s → r && l && w && c && a ≡ true
    back g =
        join
        (join
        (join (join (le-leb s.reservation 1000000 g.reservations) (le-leb s.limit 1000000 g.limits)) ((within_means 1 1000000 s.shares).1 g.share_count))
        (le-leb s.credit most_credit g.credits))
        (beside g (limited s) refl)

-- the settings of all guests are good, or there are some that are not
pub settled_means : (ss : List Settings) → Means (all settled ss) ((s : Settings) → Memᴰ s ss → Good s) ((s : Settings) × Memᴰ s ss × (Good s → ⊥))
settled_means ss =
    record {
      holds = (λ h s m. (settled-good s).0 (all-each settled ss h s m), λ k. each_all settled ss (λ s m. (settled-good s).1 (k s m)));
      fails = (to, λ (s, m, n). but_all settled ss s m ((means (settled-good s)).fails.1 n));
    }
  where
    to : all settled ss ≡ false → (s : Settings) × Memᴰ s ss × (Good s → ⊥)
    to h = let (s, m, e) = all_but settled ss h in (s, m, (means (settled-good s)).fails.0 e)
