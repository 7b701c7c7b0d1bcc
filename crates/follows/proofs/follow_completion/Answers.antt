-- Place and phase are read, and the gate is asked; where it accepts, it counts at every array, and its place is closed up. Assumes nothing.
use Rattle.std.proofs.Common.{◌≡◌, ℕ, ◌<◌, Option, None, Some, IsSome, sym, ◌∙◌, arith, refl, rules, eqb, get_or}
use Rattle.arrays.specs.Counters.{counted_all}
use Rattle.std.specs.Option.{unwrap_or}
use Rattle.arrays.proofs.Follows.{completion_rows, completion_refused, completion_flying, completion_placed, completion_taken}
use mathlib.Core.Bool.{not}
use mathlib.Core.Path.{ap}
use Rattle.follows.proofs.follow_completion.Goals as goal

pub returns-then-not-is_taken : goal.returns-then-not-is_taken
returns-then-not-is_taken c =
    let a = c.args in
    completion_refused a.site a.gate a.guests.now a.waiting.now a.flight.now a.counters.now a.phases.now a.which a.time c.requires (c.complete-outcome.result, _, _, _) c.complete-outcome.ensures _ c.is_taken.ensures (ap not c.if-not-is_taken.true)

pub count_all-requires : goal.count_all-requires
count_all-requires c =
    let a = c.args in
    completion_rows a.site a.gate a.guests.now a.waiting.now a.flight.now a.counters.now a.phases.now a.which a.time c.requires

-- the place that was found is that of the definition
found_at : (o : Option ℕ) (p n : ℕ) {A : Type 0} {q : ℕ} → o ≡ Some p → (A → unwrap_or o n ≡ q) → A → p ≡ q
found_at o p n e h a = ap (λ x. unwrap_or x n) (sym e) ∙ h a

-- one below the number that stands for none was found
some_below : (o : Option ℕ) (n : ℕ) → unwrap_or o n < n → IsSome o
some_below None n h = absurd (omega (arith, h))
some_below (Some p) n h = search rules

pub unwrap-requires : goal.unwrap-requires
unwrap-requires c =
    let a = c.args in
    some_below _ _ (completion_flying a.site a.gate a.guests.now a.waiting.now a.flight.now a.counters.now a.phases.now a.which a.time c.requires (c.complete-outcome.result, _, _, _) c.complete-outcome.ensures (unwrap_or c.place_of-place.result a.gate.flight) c.place_of-place.ensures.place _ c.is_taken.ensures (ap not c.if-not-is_taken.false)).0

pub close_up-requires : goal.close_up-requires
close_up-requires c =
    let a = c.args in
    completion_flying a.site a.gate a.guests.now a.waiting.now a.flight.now a.counters.now a.phases.now a.which a.time c.requires (c.complete-outcome.result, _, _, _) c.complete-outcome.ensures c.unwrap.result (found_at _ _ _ c.unwrap.ensures c.place_of-place.ensures.place) _ c.is_taken.ensures (ap not c.if-not-is_taken.false)

pub overflow_sub-flying : goal.overflow_sub-flying
overflow_sub-flying c =
    let a = c.args in
    omega (arith, (completion_flying a.site a.gate a.guests.now a.waiting.now a.flight.now a.counters.now a.phases.now a.which a.time c.requires (c.complete-outcome.result, _, _, _) c.complete-outcome.ensures c.unwrap.result (found_at _ _ _ c.unwrap.ensures c.place_of-place.ensures.place) _ c.is_taken.ensures (ap not c.if-not-is_taken.false)).0)

pub note-requires : goal.note-requires
note-requires c =
    let a = c.args in
    completion_placed a.site a.gate a.guests.now a.waiting.now a.flight.now a.counters.now a.phases.now a.which a.time c.requires (c.complete-outcome.result, _, _, _) c.complete-outcome.ensures c.unwrap.result (found_at _ _ _ c.unwrap.ensures c.place_of-place.ensures.place) _ c.is_taken.ensures (ap not c.if-not-is_taken.false) _ c.close_up.ensures

pub returns : goal.returns
returns c =
    let a = c.args in
    let reserved : c.is_some_and-reserved.result ≡ eqb (get_or a.phases.now c.unwrap.result 0) 1 = search rules in
    completion_taken a.site a.gate a.guests.now a.waiting.now a.flight.now a.counters.now a.phases.now a.which a.time c.requires (c.complete-outcome.result, _, _, _) c.complete-outcome.ensures c.unwrap.result (found_at _ _ _ c.unwrap.ensures c.place_of-place.ensures.place) _ c.is_taken.ensures (ap not c.if-not-is_taken.false) _ refl _ _ _
    (c.count_all.ensures ∙ ap (λ b. counted_all a.site.arrays a.gate.guests a.which.guest b a.counters.now) reserved)
    c.close_up.ensures c.note.ensures
