-- The header of what comes out is that of the trace, and the events behind it are the kept ones. Assumes nothing.
use Prim.Native.Nat.{ℕ, ◌+◌, ◌≤◌, ◌<◌}
use mathlib.Core.Path.{◌≡◌, refl, ap, ◌∙◌}
use mathlib.Core.Bool.{true, ◌&&◌}
use mathlib.Core.List.{List}
use native.Mathlib.Omega.{arith}
use lib.ListN.{length, take, drop, length-append, get_or-append}
use lib.Seq.{length-take-le, take-append-le, take-take, take_at, drop_at, get_or-take}
use borrow.Author.Tests.{ne_eqb, le-ltb, le-leb}
use Rattle.lists.specs.Words.{if◌then◌else◌, all}
use Rattle.lists.specs.WordsLaws.{join}
use Rattle.lists.specs.Tab.{tab, tab_ext}
use Rattle.rules.specs.Numbers.{within}
use Rattle.rules.specs.Sound.{counted, ruled, settled}
use Rattle.rules.specs.Refusals.{Verdict, accept, judged}
use Rattle.trace.specs.Little.{byte_at, two_at, four_at}
use Rattle.trace.specs.Header.{mark, first_version, last_version, is_two, body, version_of, depth_of, guests_of, capacity_of, rule_in, rule_of, credit_at, settings_at, settings_in, header_tests_for, header_tests, opened_of, header_by}
use Rattle.trace.specs.Answers.{event_bytes}
use Rattle.trace.proofs.HeaderLaws.{Opens, opened, by_version, body-two, body_grows, body-least, record_fits, credit_fits, same_is}
use Rattle.salvage.specs.Result.{kept_in, salvaged}
use Rattle.salvage.proofs.Verdicts.{good-mark}

module _ (bs : List ℕ) (good : judged (header_tests bs) ≡ accept) where
  -- what its bytes say
  pub opens : Opens first_version last_version bs (opened_of bs)
  opens = opened bs (opened_of bs) (ap (λ (v : Verdict). header_by v bs) good)

  abbrev v : ℕ
  v = version_of bs

  abbrev end : ℕ
  end = body (version_of bs) (guests_of bs)

  abbrev t : List ℕ
  t = salvaged bs

  front_long : length (take end bs) ≡ end
  front_long = length-take-le end bs opens.whole

  -- a byte of the header or the records
  byte : (i : ℕ) → i < end → byte_at t i ≡ byte_at bs i
  unfolding salvaged
  byte i h = get_or-append (take end bs) (kept_in bs) 0 i (omega (arith, front_long)) ∙ get_or-take end bs i 0 h

  two-there : (i : ℕ) → i + 2 ≤ end → two_at t i ≡ two_at bs i
  two-there i h = rw (byte i (omega arith), byte (i + 1) (omega arith))

  four-there : (i : ℕ) → i + 4 ≤ end → four_at t i ≡ four_at bs i
  four-there i h = rw (byte i (omega arith), byte (i + 1) (omega arith), byte (i + 2) (omega arith), byte (i + 3) (omega arith))

  least : 9 ≤ end
  least = body-least (version_of bs) (guests_of bs)

  pub version_there : version_of t ≡ v
  version_there = two-there 3 (omega (arith, least))

  pub guests_there : guests_of t ≡ guests_of bs
  guests_there = byte 6 (omega (arith, least))

  rule_there : rule_of t ≡ rule_of bs
  unfolding rule_in
  rule_there =
      ap (λ (w : ℕ). rule_in w t) version_there
      ∙ by_version v (λ (w : ℕ). (if is_two w then byte_at t 9 else 1) ≡ (if is_two w then byte_at bs 9 else 1))
      (λ e. rw (byte 9 (omega (arith, body-two v (guests_of bs) e)))) (λ e. rw (ne_eqb v 2 e))

  -- a record
  credit_there : (at : ℕ) → (v ≡ 2 → at + 14 ≤ end) → credit_at v t at ≡ credit_at v bs at
  unfolding credit_at
  credit_there at h =
      by_version v (λ (w : ℕ). (if is_two w then two_at t (at + 12) else 0) ≡ (if is_two w then two_at bs (at + 12) else 0))
      (λ e. rw (two-there (at + 12) (omega (arith, h e)))) (λ e. rw (ne_eqb v 2 e))

  record_there : (k : ℕ) → k < guests_of bs → settings_at v t k ≡ settings_at v bs k
  record_there k h =
      let at = body v k in
      let fits = record_fits v k in
      let room = body_grows v (k + 1) (guests_of bs) (omega arith) in
      let r = four-there at (omega arith) in
      let l = four-there (at + 4) (omega arith) in
      let s = four-there (at + 8) (omega arith) in
      let c = credit_there at (λ e. omega (arith, credit_fits v k e)) in
      λ i. record { reservation = r i; limit = l i; shares = s i; credit = c i }

  settings-there : settings_in t ≡ settings_in bs
  settings-there =
      (λ i. tab (guests_there i) (settings_at (version_there i) t))
      ∙ tab_ext (guests_of bs) (settings_at v t) (settings_at v bs) record_there

  mark-there : take 3 t ≡ mark
  unfolding salvaged
  mark-there =
      take-append-le 3 (take end bs) (kept_in bs) (omega (arith, front_long, least))
      ∙ take-take 3 end bs (omega (arith, least))
      ∙ good-mark bs good

  body-there : body (version_of t) (guests_of t) ≡ end
  body-there = λ i. body (version_there i) (guests_there i)

  long_there : end ≤ length t
  unfolding salvaged
  long_there = omega (arith, length-append (take end bs) (kept_in bs), front_long)

  -- the header is good wherever its version is taken
  pub good-there : (from to : ℕ) → from ≤ v → v ≤ to → judged (header_tests_for from to t) ≡ accept
  unfolding header_tests_for
  good-there from to low high =
      let nine = le-ltb (length t) 9 (omega (arith, long_there, least)) in
      let marked = (same_is (take 3 t) mark).1 mark-there in
      let taken : within from to (version_of t) ≡ true = join (le-leb from (version_of t) (omega (arith, version_there))) (le-leb (version_of t) to (omega (arith, version_there))) in
      let first : body (version_of t) 0 ≡ body v 0 = ap (λ (w : ℕ). body w 0) version_there in
      let front = le-ltb (length t) (body (version_of t) 0) (omega (arith, long_there, body_grows v 0 (guests_of bs) (omega arith))) in
      let counted-there : counted (depth_of t) (guests_of t) (capacity_of t) ≡ true
      = (λ i. counted (byte 5 (omega (arith, least)) i) (guests_there i) (two-there 7 (omega (arith, least)) i)) ∙ opens.counts in
      let counts : counted (depth_of t) (guests_of t) (capacity_of t) && ruled (rule_of t) ≡ true = join counted-there (ap ruled rule_there ∙ opens.rules) in
      let whole = le-ltb (length t) (body (version_of t) (guests_of t)) (omega (arith, long_there, body-there)) in
      let settings : all settled (settings_in t) ≡ true = ap (all settled) settings-there ∙ opens.settings in
      rw (nine, marked, taken, front, counts, whole, settings) refl

  -- the records as they stand, and behind them the kept events
  pub front-there : take (body (version_of t) (guests_of t)) t ≡ take end bs
  unfolding salvaged
  front-there = ap (λ (n : ℕ). take n t) body-there ∙ take_at (take end bs) (kept_in bs) end front_long

  pub events-there : event_bytes t ≡ kept_in bs
  unfolding salvaged
  events-there = ap (λ (n : ℕ). drop n t) body-there ∙ drop_at (take end bs) (kept_in bs) end front_long
