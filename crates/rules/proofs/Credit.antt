-- Document 02, K6, in plain facts: how far back a share tag may lie, where it may not, and that credit 0 is the rule of K3. Words in quotes are K6's.
-- Assumes nothing.
use mathlib.Core.Path.{◌≡◌, sym, ap, ◌∙◌}
use mathlib.Core.Bool.{Bool, true, false}
use mathlib.Core.Logic.{⊎_elim}
use Prim.Native.Nat.{ℕ, ◌*◌, ◌≤◌}
use native.Mathlib.Omega.{arith}
use native.Mathlib.Nat.{zero-mul, mul-le-mul_left, mul-le-mul_right}
use Rattle.lists.specs.Words.{if◌then◌else◌}
use Rattle.lists.specs.Tab.{lt_or_le}
use Rattle.rules.specs.Numbers.{second, most_credit, down, tag_at}
use Rattle.rules.specs.Tables.{Settings, Guest}
use Rattle.rules.specs.Events.{back, share_tag}
use Rattle.rules.specs.Arrived.{reach, Back}
use Rattle.rules.proofs.Spacings.{down_le}

-- A share tag lies at most 256 seconds back.
pub reach_le : (credit shares : ℕ) → credit ≤ most_credit → credit * down shares ≤ most_credit * second
reach_le c w h = omega (arith, mul-le-mul_left c (down_le w), mul-le-mul_right second h)

module _ (now : ℕ) (s : Settings) where
  -- what is computed is b,
  pub back_is : Back s now (back now s)
  unfolding back
  back_is = record { behind = λ h. omega arith; cut_off = λ h. omega arith }

  -- and no other number is.
  pub back_once : (b : ℕ) → Back s now b → b ≡ back now s
  back_once b x =
      ⊎_elim (λ l. x.cut_off (omega arith) ∙ sym (back_is.cut_off (omega arith))) (λ l. omega (arith, x.behind l, back_is.behind l))
      (lt_or_le now (reach s))

  -- it is never later than the time,
  pub back_under : back now s ≤ now
  unfolding back
  back_under = omega arith

  -- and with credit 0 it is the time.
  pub back_0 : s.credit ≡ 0 → back now s ≡ now
  unfolding back
  back_0 e = let z : reach s ≡ 0 = ap (λ (c : ℕ). c * down s.shares) e ∙ zero-mul (down s.shares) in omega arith

module _ (now : ℕ) (h : Guest) where
  -- "at an idle guest .. not later than t"
  pub idle_in_time : share_tag true now h ≤ now
  unfolding share_tag
  idle_in_time = omega arith

  -- A share tag is never before b: no guest has more than its credit,
  pub not_before : (idle : Bool) → back now h.settings ≤ share_tag idle now h
  unfolding share_tag
  not_before true = omega (arith, back_under now h.settings)
  not_before false = omega arith

  -- and at a busy guest it is not before the next number either: share tags of one guest stand apart whatever its credit.
  pub busy_after : h.snext ≤ share_tag false now h
  unfolding share_tag
  busy_after = omega arith

  -- "Credit 0 is the rule of K3": at an idle guest the share tag is the time, else the larger of the next number and the time.
  pub credit_0 : h.settings.credit ≡ 0 → (idle : Bool) → share_tag idle now h ≡ (if idle then now else tag_at now h.snext)
  unfolding share_tag
  credit_0 e true = omega (arith, back_0 now h.settings e)
  credit_0 e false = omega (arith, back_0 now h.settings e)
