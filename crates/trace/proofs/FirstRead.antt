-- A first read that holds any header whole, of either version. What comes behind it makes no difference to the header.
-- Assumes nothing.
use Prim.Native.Nat.{ℕ, ◌+◌, ◌≤◌, ◌<◌}
use mathlib.Core.Path.{◌≡◌, refl, sym, ap, ◌∙◌}
use mathlib.Core.Bool.{Bool, true, false, ◌&&◌}
use mathlib.Core.List.{List, ◌++◌}
use native.Mathlib.Omega.{arith}
use lib.Dec.{ltb}
use lib.ListN.{length, take, length-append, get_or-append}
use lib.Seq.{take-append-le}
use borrow.Author.Tests.{ne_eqb, le-ltb}
use Rattle.lists.specs.Words.{if◌then◌else◌, all}
use Rattle.lists.specs.WordsLaws.{both}
use Rattle.lists.specs.Tab.{tab, tab_ext}
use Rattle.rules.specs.Numbers.{within}
use Rattle.rules.specs.Sound.{counted, ruled, settled}
use Rattle.rules.specs.Refusals.{Verdict, accept, refuse, judged}
use Rattle.trace.specs.Little.{byte_at, two_at, four_at}
use Rattle.trace.specs.Header.{mark, same, first_version, last_version, is_two, body, version_of, depth_of, guests_of, capacity_of, rule_in, rule_of, credit_at, settings_at, settings_in, header_tests_for, header_tests, header_by, header_of}
use Rattle.rules.proofs.Conditions.{counted_means}
use Rattle.table.specs.Columns.{most_guests}
use Rattle.trace.proofs.HeaderLaws.{by_version, body_most, record_fits, credit_fits}
use Rattle.std.specs.Prelude.{Ok}

-- the most bytes of a header
abbrev pub longest : ℕ
longest = body last_version most_guests

-- as many bytes hold it
pub longest-fits : (n : ℕ) → 906 ≤ n → longest ≤ n
unfolding body
longest-fits n h = h

-- no header is longer
within-longest : (v n : ℕ) → n ≤ most_guests → body v n ≤ longest
unfolding body
within-longest v n few = omega (arith, body_most v n)

module _ (xs ys : List ℕ) (long : longest ≤ length xs) where
  -- as many bytes as that at the least
  enough : 906 ≤ length xs
  unfolding body
  enough = long

  -- a byte of the first read
  at : (i : ℕ) → i < length xs → byte_at (xs ++ ys) i ≡ byte_at xs i
  at i h = get_or-append xs ys 0 i h

  -- two bytes of it, and four
  two-same : (i : ℕ) → i + 2 ≤ length xs → two_at (xs ++ ys) i ≡ two_at xs i
  two-same i h = rw (at i (omega arith), at (i + 1) (omega arith))

  four_same : (i : ℕ) → i + 4 ≤ length xs → four_at (xs ++ ys) i ≡ four_at xs i
  four_same i h = rw (at i (omega arith), at (i + 1) (omega arith), at (i + 2) (omega arith), at (i + 3) (omega arith))

  -- a credit
  credit_same : (v i : ℕ) → (v ≡ 2 → i + 14 ≤ length xs) → credit_at v (xs ++ ys) i ≡ credit_at v xs i
  unfolding credit_at
  credit_same v i h =
      by_version v (λ (w : ℕ). (if is_two w then two_at (xs ++ ys) (i + 12) else 0) ≡ (if is_two w then two_at xs (i + 12) else 0))
      (λ e. rw (two-same (i + 12) (omega (arith, h e)))) (λ e. rw (ne_eqb v 2 e))

  -- a record
  one-guest : (v k : ℕ) → body v (k + 1) ≤ length xs → settings_at v (xs ++ ys) k ≡ settings_at v xs k
  one-guest v k h =
      let at = body v k in
      let fits = record_fits v k in
      let r = four_same at (omega arith) in
      let l = four_same (at + 4) (omega arith) in
      let s = four_same (at + 8) (omega arith) in
      let c = credit_same v at (λ e. omega (arith, credit_fits v k e)) in
      λ i. record { reservation = r i; limit = l i; shares = s i; credit = c i }

  -- the version
  version_same : version_of (xs ++ ys) ≡ version_of xs
  version_same = two-same 3 (omega (arith, enough))

  -- the rule
  rule_same : rule_of (xs ++ ys) ≡ rule_of xs
  unfolding rule_in
  rule_same = rw (at 3 (omega (arith, enough)), at 4 (omega (arith, enough)), at 9 (omega (arith, enough)))

  -- how many guests there are
  guests_same : guests_of (xs ++ ys) ≡ guests_of xs
  guests_same = at 6 (omega (arith, enough))

  -- all records
  pub settings-same : guests_of xs ≤ most_guests → settings_in (xs ++ ys) ≡ settings_in xs
  settings-same few =
      let v = version_of xs in
      ap (λ (n : ℕ). tab n (settings_at (version_of (xs ++ ys)) (xs ++ ys))) guests_same
      ∙ ap (λ (w : ℕ). tab (guests_of xs) (settings_at w (xs ++ ys))) version_same
      ∙ tab_ext (guests_of xs) (settings_at v (xs ++ ys)) (settings_at v xs) (λ k h. one-guest v k (omega (arith, within-longest v (k + 1) (omega (arith, enough)))))

  -- whether counts and rule are in range
  counts_same : counted (depth_of (xs ++ ys)) (guests_of (xs ++ ys)) (capacity_of (xs ++ ys)) && ruled (rule_of (xs ++ ys)) ≡ counted (depth_of xs) (guests_of xs) (capacity_of xs) && ruled (rule_of xs)
  counts_same = rw (at 5 (omega (arith, enough)), at 6 (omega (arith, enough)), two-same 7 (omega (arith, enough)), rule_same)

  -- the verdict on the header
  judged-same : judged (header_tests (xs ++ ys)) ≡ judged (header_tests xs)
  unfolding header_tests_for
  judged-same = go (counted (depth_of xs) (guests_of xs) (capacity_of xs) && ruled (rule_of xs)) refl
    where
      l : length (xs ++ ys) ≡ length xs + length ys
      l = length-append xs ys

      m : same (take 3 (xs ++ ys)) mark ≡ same (take 3 xs) mark
      m = ap (λ (z : List ℕ). same z mark) (take-append-le 3 xs ys (omega (arith, enough)))

      short : ltb (length (xs ++ ys)) 9 ≡ ltb (length xs) 9
      short = le-ltb (length (xs ++ ys)) 9 (omega (arith, l, enough)) ∙ sym (le-ltb (length xs) 9 (omega (arith, enough)))

      v : within first_version last_version (version_of (xs ++ ys)) ≡ within first_version last_version (version_of xs)
      v = ap (within first_version last_version) version_same

      -- no part of the header is cut off
      there : (n : ℕ) → n ≤ most_guests → ltb (length (xs ++ ys)) (body (version_of (xs ++ ys)) n) ≡ ltb (length xs) (body (version_of xs) n)
      there n few =
          let e : body (version_of (xs ++ ys)) n ≡ body (version_of xs) n = ap (λ (w : ℕ). body w n) version_same in
          let most = within-longest (version_of xs) n few in
          le-ltb (length (xs ++ ys)) (body (version_of (xs ++ ys)) n) (omega (arith, l, e)) ∙ sym (le-ltb (length xs) (body (version_of xs) n) (omega (arith, enough)))

      go : (b : Bool) → counted (depth_of xs) (guests_of xs) (capacity_of xs) && ruled (rule_of xs) ≡ b → judged (header_tests (xs ++ ys)) ≡ judged (header_tests xs)
      go false e = simp (short, m, v, there 0 (omega (arith, enough)), counts_same, e)
      go true e =
          let few : guests_of xs ≤ most_guests = ((counted_means _ _ _).holds.0 (both _ _ e).0).guest-count.1 in
          let s : all settled (settings_in (xs ++ ys)) ≡ all settled (settings_in xs) = ap (all settled) (settings-same few) in
          let w : ltb (length (xs ++ ys)) (body (version_of (xs ++ ys)) (guests_of (xs ++ ys))) ≡ ltb (length xs) (body (version_of xs) (guests_of xs))
          = ap (λ (n : ℕ). ltb (length (xs ++ ys)) (body (version_of (xs ++ ys)) n)) guests_same ∙ there (guests_of xs) few in
          simp (short, m, v, there 0 (omega (arith, enough)), counts_same, e, w, s)

  -- what it makes of the bytes
  by_same : (v : Verdict) → header_by v (xs ++ ys) ≡ header_by v xs
  by_same accept = λ i. Ok (record { version = version_same i; depth = at 5 (omega (arith, enough)) i; guests = at 6 (omega (arith, enough)) i; capacity = two-same 7 (omega (arith, enough)) i; rule = rule_same i })
  by_same (refuse r) = refl

  -- so the header
  pub header_same : header_of (xs ++ ys) ≡ header_of xs
  header_same = ap (λ (v : Verdict). header_by v (xs ++ ys)) judged-same ∙ by_same (judged (header_tests xs))
