-- What the header's functions cite, and what a header that opens says of its bytes. Assumes nothing.
use Prim.Native.Nat.{ℕ, zero, suc, ◌+◌, ◌*◌, ◌≤◌, ◌<◌}
use mathlib.Core.Path.{◌≡◌, refl, sym, ap, ◌∙◌, subst}
use mathlib.Core.Bool.{Bool, true, false, and-false}
use mathlib.Core.List.{List, [], ◌∷◌, map}
use mathlib.Core.Logic.{◌↔◌}
use native.Mathlib.Omega.{arith}
use native.Mathlib.Nat.{not-suc-le-zero, le_of_suc-le-suc}
use native.Mathlib.Numerals.{add-one}
use lib.Dec.{eqb}
use lib.ListN.{length}
use borrow.Author.Tests.{eqb-true, eqb-false, eq-eqb, ne_eqb, ltb-false, not-false}
use Rattle.lists.specs.Words.{all}
use Rattle.lists.specs.WordsLaws.{both, join, all_append}
use Rattle.lists.specs.Tab.{tab, tab_snoc}
use Rattle.rules.specs.Answers.{number_of}
use Rattle.rules.specs.Numbers.{within}
use Rattle.rules.specs.Sound.{counted, ruled, settled}
use Rattle.rules.specs.Refusals.{Verdict, accept, refuse, judged, is_accept}
use Rattle.rules.proofs.Judged.{passed, passed-behind}
use Rattle.trace.specs.Header.{same, first_version, last_version, body, version_of, depth_of, guests_of, capacity_of, rule_of, settings_in, header_tests_for, opened_of, header_for}
use Rattle.trace.specs.declared.Opened.{Opened}
use Rattle.std.specs.Prelude.{Ok, Err}

-- THE MARK

-- lists that are the same are equal
same_eq : (xs ys : List ℕ) → same xs ys ≡ true → xs ≡ ys
unfolding same
same_eq [] [] e = refl
same_eq [] (y ∷ ys) e = let z : ◌≡◌ {A = ℕ} 0 1 = cc in absurd (omega arith)
same_eq (x ∷ xs) [] e = let z : ◌≡◌ {A = ℕ} 0 1 = cc in absurd (omega arith)
same_eq (x ∷ xs) (y ∷ ys) e =
    let h = both (eqb x y) (same xs ys) e in
    let p : x ≡ y = eqb-true x y h.0 in
    let q : xs ≡ ys = same_eq xs ys h.1 in
    cc

-- and a list is the same as itself
same_refl : (xs : List ℕ) → same xs xs ≡ true
unfolding same
same_refl [] = refl
same_refl (x ∷ xs) = rw (eq-eqb x x refl) (same_refl xs)

-- so the test says just that
pub same_is : (xs ys : List ℕ) → (same xs ys ≡ true) ↔ (xs ≡ ys)
same_is xs ys = (same_eq xs ys, λ e. subst (λ (l : List ℕ). same xs l ≡ true) e (same_refl xs))

-- a test that holds exactly of equal lists is `same`
pub is_same : (r : Bool) (xs ys : List ℕ) → (r ≡ true → xs ≡ ys) → (xs ≡ ys → r ≡ true) → r ≡ same xs ys
is_same true xs ys f g = sym ((same_is xs ys).1 (f refl))
is_same false xs ys f g = go (same xs ys) refl
  where
    go : (b : Bool) → same xs ys ≡ b → false ≡ same xs ys
    go true e = g (same_eq xs ys e) ∙ sym e
    go false e = sym e

-- THE RECORDS, tested from the first to the last

-- one that fails
pub tab_fails : {A : Type 0} (f : A → Bool) (n : ℕ) (g : ℕ → A) (i : ℕ) → i < n → f (g i) ≡ false → all f (tab n g) ≡ false
tab_fails f zero g i h e = absurd (not-suc-le-zero h)
tab_fails f (suc n) g zero h e = rw e
tab_fails f (suc n) g (suc i) h e = rw (tab_fails f n (λ k. g (suc k)) i (le_of_suc-le-suc h) e) (and-false (f (g zero)))

-- one more that passes
pub tab-passes : {A : Type 0} (f : A → Bool) (k : ℕ) (g : ℕ → A) → all f (tab k g) ≡ true → f (g k) ≡ true → all f (tab (k + 1) g) ≡ true
tab-passes f k g e h = ap (λ (n : ℕ). all f (tab n g)) (add-one k) ∙ ap (all f) (tab_snoc k g) ∙ all_append f (tab k g) (g k ∷ []) e (join h refl)

-- WHERE A RECORD STANDS

-- the widths of version 2, and of any other
pub body-two : (v n : ℕ) → v ≡ 2 → body v n ≡ 10 + 14 * n
unfolding body
body-two v n e = rw (eq-eqb v 2 e)

pub body-one : (v n : ℕ) → (v ≡ 2 → ⊥) → body v n ≡ 9 + 12 * n
unfolding body
body-one v n e = rw (ne_eqb v 2 e)

-- what is so of both is so of any
pub by_version : (v : ℕ) (P : ℕ → Type 0) → ((v ≡ 2) → P v) → ((v ≡ 2 → ⊥) → P v) → P v
by_version v P two other = go (eqb v 2) refl
  where
    go : (b : Bool) → eqb v 2 ≡ b → P v
    go true e = two (eqb-true v 2 e)
    go false e = other (eqb-false v 2 e)

-- three numbers of four bytes fit in a record, and in version 2 two bytes more
pub record_fits : (v k : ℕ) → body v k + 12 ≤ body v (k + 1)
record_fits v k =
    by_version v (λ (w : ℕ). body w k + 12 ≤ body w (k + 1))
    (λ e. omega (arith, body-two v k e, body-two v (k + 1) e))
    (λ e. omega (arith, body-one v k e, body-one v (k + 1) e))

pub credit_fits : (v k : ℕ) → v ≡ 2 → body v k + 14 ≤ body v (k + 1)
credit_fits v k e = omega (arith, body-two v k e, body-two v (k + 1) e)

-- more guests, more bytes
pub body_grows : (v m n : ℕ) → m ≤ n → body v m ≤ body v n
body_grows v m n h =
    by_version v (λ (w : ℕ). body w m ≤ body w n)
    (λ e. omega (arith, body-two v m e, body-two v n e))
    (λ e. omega (arith, body-one v m e, body-one v n e))

-- the header alone has 9 bytes at the least
pub body-least : (v n : ℕ) → 9 ≤ body v n
body-least v n = by_version v (λ (w : ℕ). 9 ≤ body w n) (λ e. omega (arith, body-two v n e)) (λ e. omega (arith, body-one v n e))

-- the most bytes of a header are those of version 2
pub body_most : (v n : ℕ) → body v n ≤ 10 + 14 * n
body_most v n = by_version v (λ (w : ℕ). body w n ≤ 10 + 14 * n) (λ e. omega (arith, body-two v n e)) (λ e. omega (arith, body-one v n e))

-- THE ORDER, in the paper's numbers: "9 bytes present (13), 11, 12, counts (1), guest records present (13), guest settings (1)", and of the rule, by K9, "(absent:
-- 13, right after 12; judged with the counts)"
pub header_order : (from to : ℕ) (bs : List ℕ) → map (λ c. number_of c.refusal) (header_tests_for from to bs) ≡ 13 ∷ 11 ∷ 12 ∷ 13 ∷ 1 ∷ 13 ∷ 1 ∷ []
unfolding header_tests_for
header_order from to bs = refl

-- A HEADER THAT OPENS

-- what the bytes of a header that opens are, where the versions from one to another are taken
pub record Opens (from to : ℕ) (bs : List ℕ) (o : Opened) : Type 0 where
  pub version_is : o.version ≡ version_of bs
  pub depth_is : o.depth ≡ depth_of bs
  pub guests_is : o.guests ≡ guests_of bs
  pub capacity_is : o.capacity ≡ capacity_of bs
  pub rule_is : o.rule ≡ rule_of bs
  pub taken : within from to o.version ≡ true
  pub counts : counted o.depth o.guests o.capacity ≡ true
  pub rules : ruled o.rule ≡ true
  pub whole : body o.version o.guests ≤ length bs
  pub settings : all settled (settings_in bs) ≡ true

-- the bytes of a header that no test refuses
opens : (from to : ℕ) (bs : List ℕ) → judged (header_tests_for from to bs) ≡ accept
    → Opens from to bs (opened_of bs)
unfolding header_tests_for
opens from to bs e =
    let ok : is_accept (judged (header_tests_for from to bs)) ≡ true = ap is_accept e in
    let no = passed (header_tests_for from to bs) ok in
    let behind-counts = passed-behind (header_tests_for from to bs) ok 1 in
    let counts = both (counted (depth_of bs) (guests_of bs) (capacity_of bs)) (ruled (rule_of bs)) (not-false _ (no 1)) in
    record {
      version_is = refl;
      depth_is = refl;
      guests_is = refl;
      capacity_is = refl;
      rule_is = refl;
      taken = not-false _ (no 12);
      counts = counts.0;
      rules = counts.1;
      whole = ltb-false (length bs) (body (version_of bs) (guests_of bs)) (behind-counts 13);
      settings = not-false _ (behind-counts 1);
    }

-- a header that opens
pub opened_for : (from to : ℕ) (bs : List ℕ) (o : Opened) → header_for from to bs ≡ Ok o → Opens from to bs o
opened_for from to bs o h = go (judged (header_tests_for from to bs)) refl
  where
    go : (w : Verdict) → judged (header_tests_for from to bs) ≡ w → Opens from to bs o
    go accept e =
        let q : Ok (opened_of bs) ≡ Ok o = rw e at h in
        let p : opened_of bs ≡ o = cc in
        subst (λ (x : Opened). Opens from to bs x) p (opens from to bs e)
    go (refuse s) e = let q : Err s ≡ Ok o = rw e at h in let z : ◌≡◌ {A = ℕ} 0 1 = cc in absurd (omega arith)

-- one that is read
pub opened : (bs : List ℕ) (o : Opened) → header_for first_version last_version bs ≡ Ok o → Opens first_version last_version bs o
opened = opened_for first_version last_version
