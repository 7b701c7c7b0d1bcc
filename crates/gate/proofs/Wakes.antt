-- K2 of the calls: what an accepted call carries is when to wake the gate that it leaves, and an opening carries none. Assumes nothing.
use Rattle.std.specs.Prelude.{None}
use Prim.Native.Nat.{ℕ}
use mathlib.Core.Path.{◌≡◌, sym, ap, ◌∙◌}
use mathlib.Core.Bool.{true, true≢false}
use mathlib.Core.List.{List}
use Rattle.rules.specs.Answers.{taken}
use Rattle.rules.specs.Refusals.{Verdict, accept, refuse}
use Rattle.turns.specs.Woken.{Wakes}
use Rattle.rules.specs.declared.Event.{Event}
use Rattle.rules.proofs.Answered.{step-taken}
use Rattle.turns.proofs.WakeFits.{fresh-never, accepted-wakes}
use Rattle.gate.specs.Promise.{Lending, settings_in, handed_in, opened_by_in, opening_in, opened_in}
use Rattle.gate.specs.Calls.{Host, holds, call, shows, firm}
use Rattle.gate.proofs.Lending.{Lawful}
use Rattle.gate.proofs.Runs.{firm-holds, call-answers, call-wakes, call-shows}

module _ (v : Lending) (lawful : Lawful v) where
  -- An accepted call, on tables that are long enough and sound.
  pub calls_wake : (h : Host v) (e : Event) → firm v h ≡ true → taken (call v e h).0.answer ≡ true → Wakes (shows v (holds v (call v e h))) (call v e h).0.wake
  calls_wake h e f a =
      let k = firm-holds v lawful h f in
      rw (call-shows v lawful h k e, call-wakes v lawful h k e) (accepted-wakes (shows v h) e (sym (ap taken (call-answers v lawful h k e) ∙ step-taken (shows v h) e) ∙ a))

  -- An accepted opening: nothing waits.
  pub opening-wakes : (d n c rule : ℕ) (ss : List ℕ) (gs : List v.Cell) (ws fs : List ℕ) → taken (opened_in v d n c rule ss gs ws fs).0.answer ≡ true → (opened_in v d n c rule ss gs ws fs).0.wake ≡ None
  unfolding opened_in handed_in
  opening-wakes d n c rule ss gs ws fs a = go (opening_in v d n c rule ss gs ws fs) a
    where
      go : (w : Verdict) → taken (opened_by_in v w d n c rule ss gs ws fs).0.answer ≡ true → (opened_by_in v w d n c rule ss gs ws fs).0.wake ≡ None
      go accept a = fresh-never d c rule (settings_in ss n)
      go (refuse r) a = absurd (true≢false (sym a))
