use native.Mathlib.Omega.{arith}
use Prim.Native.Nat.{◌≤◌, ◌<◌}
use mathlib.Core.Path.{◌≡◌, refl, sym, ◌∙◌}
use lib.ListN.{length}
use borrow.Author.Tests.{not-true, not-false, le-ltb, lt-ltb}
use Rattle.rules.specs.Refusals.{accept, refuse, judged}
use Rattle.rules.specs.declared.Refusal.TheVariants.{BadSetting}
use Rattle.trace.specs.Header.{body, version_of, guests_of, header_tests_for}
use mathlib.Core.Bool.{not}
use mathlib.Core.Path.{ap}
use Rattle.headers.proofs.read_header_for.Goals as goal

pub returns-then-bytes-lt9 : goal.returns-then-bytes-lt9
unfolding header_tests_for
returns-then-bytes-lt9 c = simp (lt-ltb _ _ c.if-bytes-lt9.true)

pub returns-then-not-is_marked : goal.returns-then-not-is_marked
unfolding header_tests_for
returns-then-not-is_marked c = simp (le-ltb _ _ c.if-bytes-lt9.false, sym c.is_marked.ensures ∙ not-true _ (ap not c.if-not-is_marked.true))

pub returns-then-not-within : goal.returns-then-not-within
unfolding header_tests_for
returns-then-not-within c =
    let long = le-ltb _ _ c.if-bytes-lt9.false in
    let marked = sym c.is_marked.ensures ∙ not-false _ (ap not c.if-not-is_marked.false) in
    let v = c.version_in-version.ensures in
    simp (long, marked, sym (rw v at c.within.ensures) ∙ not-true _ (ap not c.if-not-within.true))

pub returns-then-bytes-body : goal.returns-then-bytes-body
unfolding header_tests_for
returns-then-bytes-body c =
    let bs = c.args.bytes.now in
    let long = le-ltb _ _ c.if-bytes-lt9.false in
    let marked = sym c.is_marked.ensures ∙ not-false _ (ap not c.if-not-is_marked.false) in
    let v = c.version_in-version.ensures in
    let taken = sym (rw v at c.within.ensures) ∙ not-false _ (ap not c.if-not-within.false) in
    let few : length bs < body (version_of bs) 0 = omega (arith, rw v at c.body.ensures, c.if-bytes-body.true) in
    simp (long, marked, taken, lt-ltb _ _ few)

pub returns-then-not-has_counts : goal.returns-then-not-has_counts
unfolding header_tests_for
returns-then-not-has_counts c =
    let bs = c.args.bytes.now in
    let long = le-ltb _ _ c.if-bytes-lt9.false in
    let marked = sym c.is_marked.ensures ∙ not-false _ (ap not c.if-not-is_marked.false) in
    let v = c.version_in-version.ensures in
    let taken = sym (rw v at c.within.ensures) ∙ not-false _ (ap not c.if-not-within.false) in
    let front : body (version_of bs) 0 ≤ length bs = omega (arith, rw v at c.body.ensures, c.if-bytes-body.false) in
    simp (long, marked, taken, le-ltb _ _ front, sym (rw v at c.has_counts.ensures) ∙ not-true _ (ap not c.if-not-has_counts.true))

pub returns-then-bytes-body-2 : goal.returns-then-bytes-body-2
unfolding header_tests_for
returns-then-bytes-body-2 c =
    let bs = c.args.bytes.now in
    let long = le-ltb _ _ c.if-bytes-lt9.false in
    let marked = sym c.is_marked.ensures ∙ not-false _ (ap not c.if-not-is_marked.false) in
    let v = c.version_in-version.ensures in
    let taken = sym (rw v at c.within.ensures) ∙ not-false _ (ap not c.if-not-within.false) in
    let front : body (version_of bs) 0 ≤ length bs = omega (arith, rw v at c.body.ensures, c.if-bytes-body.false) in
    let counts = sym (rw v at c.has_counts.ensures) ∙ not-false _ (ap not c.if-not-has_counts.false) in
    let g = c.guests_in-guests.ensures.0 in
    let few : length bs < body (version_of bs) (guests_of bs) = omega (arith, rw (v, g) at c.body-2.ensures, c.if-bytes-body-2.true) in
    simp (long, marked, taken, le-ltb _ _ front, counts, lt-ltb _ _ few)

pub returns-then-not-has_settings : goal.returns-then-not-has_settings
unfolding header_tests_for
returns-then-not-has_settings c =
    let bs = c.args.bytes.now in
    let long = le-ltb _ _ c.if-bytes-lt9.false in
    let marked = sym c.is_marked.ensures ∙ not-false _ (ap not c.if-not-is_marked.false) in
    let v = c.version_in-version.ensures in
    let taken = sym (rw v at c.within.ensures) ∙ not-false _ (ap not c.if-not-within.false) in
    let front : body (version_of bs) 0 ≤ length bs = omega (arith, rw v at c.body.ensures, c.if-bytes-body.false) in
    let counts = sym (rw v at c.has_counts.ensures) ∙ not-false _ (ap not c.if-not-has_counts.false) in
    let g = c.guests_in-guests.ensures.0 in
    let whole : body (version_of bs) (guests_of bs) ≤ length bs = omega (arith, rw (v, g) at c.body-2.ensures, c.if-bytes-body-2.false) in
    let settings = sym (rw (v, g) at c.has_settings.ensures) ∙ not-true _ (ap not c.if-not-has_settings.true) in
    let bad : judged (header_tests_for c.args.from c.args.to bs) ≡ refuse BadSetting = rw (long, marked, taken, le-ltb _ _ front, counts, le-ltb _ _ whole, settings) refl in
    rw bad

pub returns : goal.returns
unfolding header_tests_for
returns c =
    let bs = c.args.bytes.now in
    let long = le-ltb _ _ c.if-bytes-lt9.false in
    let marked = sym c.is_marked.ensures ∙ not-false _ (ap not c.if-not-is_marked.false) in
    let v = c.version_in-version.ensures in
    let taken = sym (rw v at c.within.ensures) ∙ not-false _ (ap not c.if-not-within.false) in
    let front : body (version_of bs) 0 ≤ length bs = omega (arith, rw v at c.body.ensures, c.if-bytes-body.false) in
    let counts = sym (rw v at c.has_counts.ensures) ∙ not-false _ (ap not c.if-not-has_counts.false) in
    let g = c.guests_in-guests.ensures.0 in
    let whole : body (version_of bs) (guests_of bs) ≤ length bs = omega (arith, rw (v, g) at c.body-2.ensures, c.if-bytes-body-2.false) in
    let settings = sym (rw (v, g) at c.has_settings.ensures) ∙ not-false _ (ap not c.if-not-has_settings.false) in
    let good : judged (header_tests_for c.args.from c.args.to bs) ≡ accept = simp (long, marked, taken, le-ltb _ _ front, counts, le-ltb _ _ whole, settings) in
    rw (good, rw v at c.rule_in.ensures, v, c.depth_in.ensures, g, c.capacity_in.ensures)
