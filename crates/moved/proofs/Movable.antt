-- A trace that can be moved, in facts: what its tests say, that no test refuses it, and that its move is one too, in the other version. Assumes nothing.
use Prim.Native.Nat.{ℕ, ◌%◌, ◌≤◌, ◌<◌}
use mathlib.Core.Path.{◌≡◌, refl, sym, ap, ◌∙◌, subst}
use mathlib.Core.Bool.{true, false, ◌&&◌}
use mathlib.Core.List.{List}
use native.Mathlib.Omega.{arith}
use lib.Dec.{eqb, ltb, leb}
use lib.ListN.{length, take}
use borrow.Author.Tests.{eqb-true, eq-eqb, ltb-false, le-ltb, le-leb, leb-true, not-false}
use Rattle.lists.specs.Words.{all}
use Rattle.lists.specs.WordsLaws.{both, join, all-at}
use Rattle.lists.specs.Tab.{tab, tab_ext, length-tab, get_or-tab}
use Rattle.rules.specs.Tables.{nobodys}
use Rattle.rules.specs.Numbers.{within}
use Rattle.rules.specs.Sound.{counted, ruled, settled}
use Rattle.rules.specs.Refusals.{accept, judged, is_accept}
use Rattle.rules.proofs.Judged.{passed, passed-behind, judged_accept}
use Rattle.rules.proofs.Conditions.{counted_means}
use Rattle.rules.proofs.Spacings.{zero_is}
use Rattle.trace.specs.Header.{mark, body, version_of, depth_of, guests_of, capacity_of, rule_in, rule_of, credit_at, settings_at, settings_in, header_tests_for}
use Rattle.trace.specs.Event.{whole}
use Rattle.trace.specs.Answers.{event_bytes, reads_of}
use Rattle.trace.proofs.HeaderLaws.{same_is, body-least, body_grows}
use Rattle.moved.specs.Result.{moved_to}
use Rattle.moved.specs.Moves.{is_bad, is_dear, first_that, reads_in, bad_in, dear_in, cut_in, creditless, plainly_set, plain, body_tests, move_tests}
use Rattle.moved.specs.Judging.{AllBare, Fit}
use Rattle.moved.proofs.Plain.{all_bare, events_alike}
use Rattle.moved.proofs.Bytes.{length_moved, same-settings, version_there, guests_there, rule_there, same-events}
use Rattle.moved.proofs.Returning.{again, itself}

-- what is so of a trace of version v that can be moved
pub record Movable (v : ℕ) (bs : List ℕ) : Type 0 where
  pub version : version_of bs ≡ v
  pub marked : take 3 bs ≡ mark
  pub counts : counted (depth_of bs) (guests_of bs) (capacity_of bs) ≡ true
  pub rule : rule_of bs ≡ 1
  pub fits : body (version_of bs) (guests_of bs) ≤ length bs
  pub settings : all settled (settings_in bs) ≡ true
  pub credits : all creditless (settings_in bs) ≡ true
  pub good : bad_in bs ≡ 0
  pub uncut : cut_in bs ≡ 0
  pub cheap : dear_in bs ≡ 0

-- A TRACE THAT NO TEST REFUSES is one, and has room
module _ (from to : ℕ) (bs : List ℕ) (room : ℕ) (e : judged (move_tests from to bs room) ≡ accept) where
  ok : is_accept (judged (move_tests from to bs room)) ≡ true
  ok = ap is_accept e

  pub movable : Movable from bs
  unfolding header_tests_for body_tests
  movable =
      let no = passed (move_tests from to bs room) ok in
      let behind-counts = passed-behind (move_tests from to bs room) ok 1 in
      let taken = both (leb from (version_of bs)) (leb (version_of bs) from) (not-false _ (no 12)) in
      let counts = both (counted (depth_of bs) (guests_of bs) (capacity_of bs)) (ruled (rule_of bs)) (not-false _ (no 1)) in
      let says = both (plainly_set bs) (eqb (dear_in bs) 0) (not-false _ (no 19)) in
      let set = both (eqb (rule_of bs) 1) (all creditless (settings_in bs)) says.0 in
      record {
        version = omega (arith, leb-true from (version_of bs) taken.0, leb-true (version_of bs) from taken.1);
        marked = (same_is (take 3 bs) mark).0 (not-false _ (no 11));
        counts = counts.0;
        rule = eqb-true (rule_of bs) 1 set.0;
        fits = ltb-false (length bs) (body (version_of bs) (guests_of bs)) (behind-counts 13);
        settings = not-false _ (behind-counts 1);
        credits = set.1;
        good = zero_is (bad_in bs) (no 14);
        uncut = zero_is (cut_in bs) (no 15);
        cheap = eqb-true (dear_in bs) 0 says.1;
      }

  pub roomy : length (moved_to to bs) ≤ room
  unfolding header_tests_for body_tests
  roomy = ltb-false room (length (moved_to to bs)) (passed (move_tests from to bs room) ok 21)

-- AND THE OTHER WAY ROUND

-- its header is good wherever its version is taken
pub header_good : (from to v : ℕ) (bs : List ℕ) → from ≤ v → v ≤ to → Movable v bs → judged (header_tests_for from to bs) ≡ accept
unfolding header_tests_for ruled
header_good from to v bs low high m =
    let long = le-ltb (length bs) 9 (omega (arith, m.fits, body-least (version_of bs) (guests_of bs))) in
    let marked = (same_is (take 3 bs) mark).1 m.marked in
    let taken : within from to (version_of bs) ≡ true = join (le-leb from (version_of bs) (omega (arith, m.version))) (le-leb (version_of bs) to (omega (arith, m.version))) in
    let front = le-ltb (length bs) (body (version_of bs) 0) (omega (arith, m.fits, body_grows (version_of bs) 0 (guests_of bs) (omega arith))) in
    let counts : counted (depth_of bs) (guests_of bs) (capacity_of bs) && ruled (rule_of bs) ≡ true = join m.counts (rw m.rule refl) in
    rw (long, marked, taken, front, counts, le-ltb (length bs) (body (version_of bs) (guests_of bs)) m.fits, m.settings) refl

-- and it can be moved, given room
pub accepts : (v to : ℕ) (bs : List ℕ) (room : ℕ) → Movable v bs → length (moved_to to bs) ≤ room → judged (move_tests v to bs room) ≡ accept
unfolding body_tests
accepts v to bs room m enough =
    let says : plain bs ≡ true = join (join (eq-eqb (rule_of bs) 1 m.rule) m.credits) (eq-eqb (dear_in bs) 0 m.cheap) in
    let good : ltb 0 (bad_in bs) ≡ false = le-ltb 0 (bad_in bs) (omega (arith, m.good)) in
    let uncut : ltb 0 (cut_in bs) ≡ false = le-ltb 0 (cut_in bs) (omega (arith, m.uncut)) in
    judged_accept (header_tests_for v v bs) (body_tests to bs room) (header_good v v v bs (omega arith) (omega arith) m)
    ∙ rw (good, uncut, says, le-ltb room (length (moved_to to bs)) enough) refl

-- ITS EVENTS have their kinds as first bytes
pub bare : (v : ℕ) (bs : List ℕ) → Movable v bs → AllBare (version_of bs) (event_bytes bs)
bare v bs m = all_bare (version_of bs) (event_bytes bs) m.uncut m.good m.cheap

-- so it can be written
pub fit : (from to : ℕ) (bs : List ℕ) (room : ℕ) → to < 256 → judged (move_tests from to bs room) ≡ accept → Fit from to bs room
fit from to bs room known e =
    let m = movable from to bs room e in
    let back : version_of bs ≡ from = m.version in
    record {
      known = known;
      version_is = sym back;
      long = omega (arith, m.fits, body-least (version_of bs) (guests_of bs));
      few = omega (arith, ((counted_means (depth_of bs) (guests_of bs) (capacity_of bs)).holds.0 m.counts).guest-count.1);
      whole = subst (λ (v : ℕ). body v (guests_of bs) ≤ length bs) back m.fits;
      bare = subst (λ (v : ℕ). AllBare v (event_bytes bs)) back (bare from bs m);
      enough = omega (arith, roomy from to bs room e, length_moved to bs m.fits);
    }

-- no guest of it has a credit
pub no_credits : (v : ℕ) (bs : List ℕ) → Movable v bs → (k : ℕ) → k < guests_of bs → credit_at (version_of bs) bs (body (version_of bs) k) ≡ 0
no_credits v bs m k h =
    let f = settings_at (version_of bs) bs in
    let n = guests_of bs in
    let d = nobodys.settings in
    let c = all-at creditless (tab n f) d m.credits k (rw length-tab h) in
    eqb-true (f k).credit 0 (ap creditless (sym (get_or-tab n f k d h)) ∙ c)

-- ITS MOVE
module _ (v w : ℕ) (bs : List ℕ) (m : Movable v bs) where
  abbrev t : List ℕ
  t = moved_to w bs

  -- the settings of all guests
  pub settings-there : settings_in t ≡ settings_in bs
  settings-there =
      (λ i. tab (guests_there w bs m.fits i) (settings_at (version_there w bs m.fits i) t))
      ∙ tab_ext (guests_of bs) (settings_at w t) (settings_at (version_of bs) bs) (λ k h. same-settings w bs m.fits k h (no_credits v bs m k h))

  -- the events as they are read
  pub reads_there : reads_in t ≡ reads_in bs
  reads_there =
      (λ i. reads_of (version_there w bs m.fits i) (same-events w bs m.fits i))
      ∙ events_alike (version_of bs) w (whole (event_bytes bs)) (event_bytes bs) (λ k h. ((bare v bs m).each k h).small)

  pub moved_movable : Movable w t
  unfolding moved_to
  moved_movable =
      let there : body (version_of t) (guests_of t) ≡ body w (guests_of bs) = λ i. body (version_there w bs m.fits i) (guests_there w bs m.fits i) in
      record {
        version = version_there w bs m.fits;
        marked = refl;
        counts = m.counts;
        rule = rule_there w bs m.fits;
        fits = omega (arith, there, length_moved w bs m.fits);
        settings = ap (all settled) settings-there ∙ m.settings;
        credits = ap (all creditless) settings-there ∙ m.credits;
        good = ap (first_that is_bad 0) reads_there ∙ m.good;
        uncut = ap (λ (l : List ℕ). length l % 14) (same-events w bs m.fits) ∙ m.uncut;
        cheap = ap (first_that is_dear 0) reads_there ∙ m.cheap;
      }

  -- moved back it is the trace
  pub moved_back : v < 256 → moved_to v t ≡ bs
  moved_back known =
      again v w bs m.fits
      ∙ itself bs v m.version known m.marked (sym (ap (λ (x : ℕ). rule_in x bs) m.version) ∙ m.rule) (subst (λ (x : ℕ). body x (guests_of bs) ≤ length bs) m.version m.fits)
      (subst (λ (x : ℕ). (k : ℕ) → k < guests_of bs → credit_at x bs (body x k) ≡ 0) m.version (no_credits v bs m))
