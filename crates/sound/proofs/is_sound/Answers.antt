-- Each test that fails breaks one rule; where none does, the last decides.
use mathlib.Core.Path.{◌≡◌, sym, ◌∙◌}
use mathlib.Core.Bool.{Bool, true, false, true≢false}
use native.Mathlib.Omega.{arith}
use borrow.Author.Tests.{not-true, not-false}
use Rattle.rules.proofs.Conditions.{counted_means}
use Rattle.sound.proofs.Judged.{unsound, decided}
use mathlib.Core.Bool.{not}
use mathlib.Core.Path.{ap}
use Rattle.sound.proofs.is_sound.Goals as goal

-- a test cannot both fail and hold
clash : {b : Bool} → b ≡ false → b ≡ true → ⊥
clash e f = true≢false (sym f ∙ e)

pub returns-then-not-is_ruled : goal.returns-then-not-is_ruled
returns-then-not-is_ruled c =
    let a = c.args in
    unsound a.gate a.guests.now a.waiting.now a.flight.now (λ j. clash (sym c.is_ruled.ensures ∙ not-true _ (ap not c.if-not-is_ruled.true)) j.is_ruled)

pub returns-then-not-all_settled : goal.returns-then-not-all_settled
returns-then-not-all_settled c =
    let a = c.args in
    unsound a.gate a.guests.now a.waiting.now a.flight.now (λ j. clash (sym c.all_settled.ensures ∙ not-true _ (ap not c.if-not-all_settled.true)) j.is_settled)

pub returns-then-capacity-count : goal.returns-then-capacity-count
returns-then-capacity-count c =
    let a = c.args in
    unsound a.gate a.guests.now a.waiting.now a.flight.now (λ j. omega (arith, j.waits, c.if-capacity-count.true))

pub returns-then-depth-sent : goal.returns-then-depth-sent
returns-then-depth-sent c =
    let a = c.args in
    unsound a.gate a.guests.now a.waiting.now a.flight.now (λ j. omega (arith, j.flies, c.if-depth-sent.true))

pub returns-then-gate-gt-CEILING : goal.returns-then-gate-gt-CEILING
returns-then-gate-gt-CEILING c =
    let a = c.args in
    unsound a.gate a.guests.now a.waiting.now a.flight.now (λ j. omega (arith, j.timed, c.if-gate-gt-CEILING.true))

pub returns-then-not-all_named : goal.returns-then-not-all_named
returns-then-not-all_named c =
    let a = c.args in
    unsound a.gate a.guests.now a.waiting.now a.flight.now (λ j. clash (sym c.all_named.ensures ∙ not-true _ (ap not c.if-not-all_named.true)) j.is_named)

pub returns-then-not-all_flown : goal.returns-then-not-all_flown
returns-then-not-all_flown c =
    let a = c.args in
    unsound a.gate a.guests.now a.waiting.now a.flight.now (λ j. clash (sym c.all_flown.ensures ∙ not-true _ (ap not c.if-not-all_flown.true)) j.is_flown)

pub returns-then-not-all_once : goal.returns-then-not-all_once
returns-then-not-all_once c =
    let a = c.args in
    unsound a.gate a.guests.now a.waiting.now a.flight.now (λ j. clash (sym c.all_once.ensures ∙ not-true _ (ap not c.if-not-all_once.true)) j.once)

pub returns-then-not-all_fit : goal.returns-then-not-all_fit
returns-then-not-all_fit c =
    let a = c.args in
    unsound a.gate a.guests.now a.waiting.now a.flight.now (λ j. clash (sym c.all_fit.ensures ∙ not-true _ (ap not c.if-not-all_fit.true)) j.is_fit)

pub all_orderly-requires : goal.all_orderly-requires
all_orderly-requires c =
    let f = c.requires in
    record {
      few = f.counts.guest-count.1;
      guest_room = f.guest_room;
      waiting_room = omega (arith, f.waiting_room, c.if-capacity-count.false);
      is_settled = sym c.all_settled.ensures ∙ not-false _ (ap not c.if-not-all_settled.false);
      is_named = sym c.all_named.ensures ∙ not-false _ (ap not c.if-not-all_named.false);
      is_fit = sym c.all_fit.ensures ∙ not-false _ (ap not c.if-not-all_fit.false);
    }

pub returns-then-not-all_orderly : goal.returns-then-not-all_orderly
returns-then-not-all_orderly c =
    let a = c.args in
    unsound a.gate a.guests.now a.waiting.now a.flight.now (λ j. clash (sym c.all_orderly.ensures ∙ not-true _ (ap not c.if-not-all_orderly.true)) j.is_orderly)

pub returns : goal.returns
returns c =
    let a = c.args in
    let f = c.requires in
    decided a.gate a.guests.now a.waiting.now a.flight.now c.is_clear.result
    (λ e. record {
      is_counted = (counted_means a.gate.setup.depth a.gate.guests a.gate.setup.capacity).holds.1 f.counts;
      is_ruled = sym c.is_ruled.ensures ∙ not-false _ (ap not c.if-not-is_ruled.false);
      is_settled = sym c.all_settled.ensures ∙ not-false _ (ap not c.if-not-all_settled.false);
      waits = c.if-capacity-count.false;
      flies = c.if-depth-sent.false;
      timed = c.if-gate-gt-CEILING.false;
      is_named = sym c.all_named.ensures ∙ not-false _ (ap not c.if-not-all_named.false);
      is_flown = sym c.all_flown.ensures ∙ not-false _ (ap not c.if-not-all_flown.false);
      once = sym c.all_once.ensures ∙ not-false _ (ap not c.if-not-all_once.false);
      is_fit = sym c.all_fit.ensures ∙ not-false _ (ap not c.if-not-all_fit.false);
      is_orderly = sym c.all_orderly.ensures ∙ not-false _ (ap not c.if-not-all_orderly.false);
      is_clear = sym c.is_clear.ensures ∙ e;
    })
    (λ j. c.is_clear.ensures ∙ j.is_clear)
