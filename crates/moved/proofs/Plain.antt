-- Events that are not bad and, where they arrive, of cost 1: their first byte is their kind, and both versions read them alike. Assumes nothing.
use Prim.Native.Nat.{ℕ, zero, suc, ◌+◌, ◌*◌, ◌/◌, ◌%◌, ◌<◌}
use mathlib.Core.Path.{◌≡◌, refl, sym, ap, ◌∙◌, subst}
use mathlib.Core.Bool.{false, true≢false}
use mathlib.Core.List.{List, ◌∷◌}
use native.Mathlib.Omega.{arith}
use lib.Dec.{eqb}
use lib.ListN.{length, drop}
use lib.Seq.{get_or-drop}
use native.Mathlib.Nat.{add-zero}
use borrow.Author.Tests.{eq-eqb, ne_eqb, eqb-true, not-false}
use Rattle.trace.specs.Little.{byte_at, four_at, eight_at}
use Rattle.trace.specs.Event.{kind_in, upper_in, event_from, event_of, events_of, whole, Read}
use Rattle.trace.proofs.HeaderLaws.{by_version}
use Rattle.moved.specs.Moves.{is_bad, is_dear, first_that}
use Rattle.moved.specs.Judging.{Bare, AllBare}
use Rattle.moved.proofs.First.{none-tells}

-- the fields of such an event: its kind is below 3 and its upper part 0
fields : (k u g i t : ℕ) → is_bad (event_from k u g i t) ≡ false → is_dear (event_from k u g i t) ≡ false → (k < 3) × (u ≡ 0)
unfolding event_from
fields zero u g i t good cheap = (omega arith, let e : u + 1 ≡ 1 = eqb-true (u + 1) 1 (not-false (eqb (u + 1) 1) cheap) in omega arith)
fields (suc zero) zero g i t good cheap = (omega arith, refl)
fields (suc zero) (suc u) g i t good cheap = absurd (true≢false (simp (ne_eqb (suc u) 0 (λ e. omega arith)) at good))
fields (suc (suc zero)) zero g i t good cheap = (omega arith, refl)
fields (suc (suc zero)) (suc u) g i t good cheap = absurd (true≢false (simp (ne_eqb (suc u) 0 (λ e. omega arith)) at good))
fields (suc (suc (suc k))) u g i t good cheap =
    let n = suc (suc (suc k)) in
    absurd (true≢false (simp (ne_eqb n 0 (λ e. omega arith), ne_eqb n 1 (λ e. omega arith), ne_eqb n 2 (λ e. omega arith)) at good))

-- a byte whose kind is below 3 and whose upper part is 0
bare_byte : (v b : ℕ) → kind_in v b < 3 → upper_in v b ≡ 0 → Bare v b
unfolding kind_in upper_in
bare_byte v b h z =
    record {
      same = by_version v (λ (w : ℕ). kind_in w b ≡ b)
          (λ e. let y : b / 4 ≡ 0 = rw (eq-eqb v 2 e) at z in rw (eq-eqb v 2 e) (omega arith)) (λ e. rw (ne_eqb v 2 e) refl);
      small = by_version v (λ (w : ℕ). b < 4)
          (λ e. let y : b / 4 ≡ 0 = rw (eq-eqb v 2 e) at z in omega arith) (λ e. let y : b < 3 = rw (ne_eqb v 2 e) at h in omega arith);
    }

-- a byte that is its own kind is so in any version
kind_alike : (v b : ℕ) → b < 4 → kind_in v b ≡ b
unfolding kind_in
kind_alike v b h = by_version v (λ (w : ℕ). kind_in w b ≡ b) (λ e. rw (eq-eqb v 2 e) (omega arith)) (λ e. rw (ne_eqb v 2 e) refl)

upper_none : (v b : ℕ) → b < 4 → upper_in v b ≡ 0
unfolding upper_in
upper_none v b h = by_version v (λ (w : ℕ). upper_in w b ≡ 0) (λ e. rw (eq-eqb v 2 e) (omega arith)) (λ e. rw (ne_eqb v 2 e) refl)

-- so its event is
event_alike : (v w : ℕ) (bs : List ℕ) → byte_at bs 0 < 4 → event_of w bs ≡ event_of v bs
unfolding event_of
event_alike v w bs h =
    let b = byte_at bs 0 in
    let at : ℕ → ℕ → Read = λ (k u : ℕ). event_from k u (byte_at bs 1) (four_at bs 2) (eight_at bs 6) in
    let one : (x : ℕ) → at (kind_in x b) (upper_in x b) ≡ at b 0 = λ x. (λ i. at (kind_alike x b h i) (upper_none x b h i)) in
    one w ∙ sym (one v)

-- the byte at the front of event k
front_byte : (bs : List ℕ) (k : ℕ) → byte_at (drop (k * 14) bs) 0 ≡ byte_at bs (k * 14)
front_byte bs k = get_or-drop (k * 14) bs 0 0 ∙ ap (byte_at bs) (add-zero (k * 14))

-- and a run of such events
pub events_alike : (v w n : ℕ) (bs : List ℕ) → ((k : ℕ) → k < n → byte_at bs (k * 14) < 4) → events_of w n bs ≡ events_of v n bs
unfolding events_of
events_alike v w zero bs h = refl
events_alike v w (suc n) bs h =
    let later : (k : ℕ) → k < n → byte_at (drop 14 bs) (k * 14) < 4
    = λ k l. let p : 14 + k * 14 ≡ suc k * 14 = omega arith in rw (get_or-drop 14 bs (k * 14) 0 ∙ ap (byte_at bs) p) (h (suc k) (omega arith)) in
    λ i. event_alike v w bs (h 0 (omega arith)) i ∷ events_alike v w n (drop 14 bs) later i

-- ALL EVENTS of bytes that are not cut short
pub all_bare : (v : ℕ) (bs : List ℕ) → length bs % 14 ≡ 0 → first_that is_bad 0 (events_of v (whole bs) bs) ≡ 0 → first_that is_dear 0 (events_of v (whole bs) bs) ≡ 0 → AllBare v bs
unfolding event_of
all_bare v bs uncut good cheap =
    record {
      uncut = omega arith;
      each = λ k h.
          let f = fields (kind_in v (byte_at (drop (k * 14) bs) 0)) (upper_in v (byte_at (drop (k * 14) bs) 0)) _ _ _ (none-tells is_bad v (whole bs) bs good k h) (none-tells is_dear v (whole bs) bs cheap k h) in
          subst (Bare v) (front_byte bs k) (bare_byte v (byte_at (drop (k * 14) bs) 0) f.0 f.1);
    }
